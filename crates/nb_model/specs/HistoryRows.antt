-- The rows of the history: which backups it names, and a slot for a further row.
use Rattle.std.specs.Prelude.{◌≡◌, ℕ, List, take, Bool, true, false, is_some, Contains}
use Rattle.nb_host.specs.Names.{same_name}
use Rattle.nb_model.specs.Account.{Base}
use Rattle.nb_model.specs.Chains.{History, Slot, spots, backup_spot, guid_in, is_used}
use Rattle.nb_model.specs.Image.{Image}
use Rattle.nb_model.specs.Strokes.{Stroke, base_after}

-- a row of the history has that GUID
abbrev pub names_backup : Image → (guid : List ℕ) → Bool
names_backup image guid = is_some (backup_spot (λ row. same_name (guid_in row) guid) image)

-- At each front of the strokes the history names each backup that it named.
pub record KeepsBackups (b : Base) (strokes : List Stroke) : Type 0 where
  pub each : (k : ℕ) (guid : List ℕ) → names_backup b.image guid ≡ true → names_backup (base_after b (take k strokes)).image guid ≡ true

-- That slot of that page is one of the history, and free.
pub record HasFreeRow (image : Image) (page slot : ℕ) : Type 0 where
  pub bytes : Slot
  pub there : Contains (spots History image) (record { page = page; slot = slot; bytes = bytes })
  pub free : is_used bytes ≡ false
