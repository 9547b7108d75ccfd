-- What holds between two turns: a copy or a merge of one session at most is under way, and then the database is in the state for it.
use Rattle.std.specs.Prelude.{◌≡◌, ℕ, ◌+◌, ◌-◌, ◌*◌, ◌<◌, ◌≤◌, List, [], ◌∷◌, ◌++◌, length, replicate, Some, Bool, true, false}
use Rattle.std.specs.List.{AllByRecursion, slice_index_or}
use Rattle.nb_fields.specs.Places.{is_inventory_place, is_scn_place}
use Rattle.nb_fields.specs.Header.{is_header}
use Rattle.nb_host.specs.Names.{is_name}
use Rattle.nb_model.specs.declared.reply.Reply.{Reply}
use Rattle.nb_model.specs.declared.statement.Statement.TheVariants.{Backup, BackupSince, CopyTo, CreateTable}
use Rattle.nb_model.specs.Image.{Image, first_page, image_size, image_state}
use Rattle.nb_model.specs.TableNames.{is_table_name}
use Rattle.nb_model.specs.Causes.{is_free_entry}
use Rattle.nb_model.specs.Forms.{HasItsEntry}
use Rattle.nb_model.specs.Outcomes.{Turn, Begins, Copies, ClosesBackup, ClosesCopy, Ends, Merges, Finishes, Backing}
use Rattle.nb_model.specs.Run.{Now, base_now}
use Rattle.nb_model.specs.Sound.{HasHeader, IsSoundImage}

-- the turn begins a statement
abbrev pub IsBeginning : Turn → Type 0
IsBeginning (Begins statement) = Unit {0}
IsBeginning Copies = ⊥
IsBeginning (ClosesBackup backing) = ⊥
IsBeginning (ClosesCopy name) = ⊥
IsBeginning (Ends reply) = ⊥
IsBeginning Merges = ⊥
IsBeginning (Finishes reply) = ⊥

abbrev pub AreBeginnings : List Turn → Type 0
AreBeginnings ts = AllByRecursion IsBeginning ts

-- the turns of a merge, and then such
abbrev pub AreMerging : List Turn → Type 0
AreMerging [] = ⊥
AreMerging (Begins statement ∷ ts) = ⊥
AreMerging (Copies ∷ ts) = ⊥
AreMerging (ClosesBackup backing ∷ ts) = ⊥
AreMerging (ClosesCopy name ∷ ts) = ⊥
AreMerging (Ends reply ∷ ts) = ⊥
AreMerging (Merges ∷ ts) = AreMerging ts
AreMerging (Finishes reply ∷ ts) = AreBeginnings ts

-- The file that a turn will make has a name, and so has a table, and the GUID of a backup under way has 16 bytes.
abbrev pub IsNamed : Turn → Type 0
IsNamed (Begins (Backup level name)) = is_name name ≡ true
IsNamed (Begins (BackupSince guid name)) = is_name name ≡ true
IsNamed (Begins (CopyTo name)) = is_name name ≡ true
IsNamed (Begins (CreateTable table)) = is_table_name table ≡ true
IsNamed (Begins other) = Unit {0}
IsNamed Copies = Unit {0}
IsNamed (ClosesBackup backing) = (is_name backing.name ≡ true) × (length backing.guid ≡ 16)
IsNamed (ClosesCopy name) = is_name name ≡ true
IsNamed (Ends reply) = Unit {0}
IsNamed Merges = Unit {0}
IsNamed (Finishes reply) = Unit {0}

-- so of each turn that is to come
abbrev pub AreNamed : Now → Type 0
AreNamed now = (place : ℕ) → AllByRecursion IsNamed (slice_index_or now.todo place [])

-- The page is no system page, and the slot is within it.
pub record IsPlainRoom (image : Image) (page slot : ℕ) : Type 0 where
  pub behind : 1 ≤ page
  pub no_inventory : is_inventory_place (image_size image) page ≡ false
  pub no_scn_page : is_scn_place (image_size image) page ≡ false
  pub within : 256 * slot + 288 ≤ image_size image

-- The page and the slot are a place for a row of the history: the page is below the length, and the SCN page that has its entry is there. Where
-- the inventories were sound as it was chosen, it is no system page.
pub record HasRoom (sound : Bool) (image : Image) (page slot : ℕ) : Type 0 where
  pub below : page < length image
  pub entry : HasItsEntry image page
  pub plain : sound ≡ true → IsPlainRoom image page slot

-- a copy or a merge of the session at that place runs, and the database is in that state
pub record Runs (now : Now) (place number : ℕ) : Type 0 where
  pub by : ℕ
  pub running : now.running ≡ Some by
  pub its : by - 1 ≡ place
  pub state : image_state (base_now now).image ≡ number

-- What the session at that place has still to do: to begin statements, or first the rest of one that is under way.
pub data IsAt (sound : Bool) (now : Now) (place : ℕ) (todo : List Turn) : Type 0 where
  waits : AreBeginnings todo → IsAt sound now place todo
  -- so many pages are left to copy, and the row is written then
  backs_up : (left : ℕ) (b : Backing) (rest : List Turn) → todo ≡ replicate left Copies ++ ClosesBackup b ∷ rest → AreBeginnings rest → Runs now place 1
      → HasRoom sound (base_now now).image b.page b.slot → is_free_entry (now.account.entry b.name) ≡ true → IsAt sound now place todo
  copies : (left : ℕ) (name : List ℕ) (rest : List Turn) → todo ≡ replicate left Copies ++ ClosesCopy name ∷ rest → AreBeginnings rest → Runs now place 1
      → is_free_entry (now.account.entry name) ≡ true → IsAt sound now place todo
  ends : (reply : Reply) (rest : List Turn) → todo ≡ Ends reply ∷ rest → AreBeginnings rest → Runs now place 1 → IsAt sound now place todo
  merges : AreMerging todo → Runs now place 2 → IsAt sound now place todo

-- What stands between two turns: a database in one of the three states, whatever else stands in it, and each session waits or is under way. Its
-- inventories are sound where that is said. Of what may still be given each GUID has 16 bytes.
pub record IsGoing (sound : Bool) (now : Now) : Type 0 where
  pub header : HasHeader (base_now now).image
  pub sure : sound ≡ true → IsSoundImage (base_now now).image
  pub state : image_state (base_now now).image ≤ 2
  pub frozen : image_state (base_now now).image ≡ 1 → is_header (first_page (base_now now).frozen) ≡ true
  pub each : (place : ℕ) → IsAt sound now place (slice_index_or now.todo place [])
  pub sixteen : AllByRecursion (λ (guid : List ℕ). length guid ≡ 16) now.given.guids

-- What holds between two turns of all files that are still to be made: it goes on, they have names, and in the stalled state the frozen
-- image is in that state.
pub record IsMaking (now : Now) : Type 0 where
  pub going : IsGoing false now
  pub named : AreNamed now
  pub stalled : image_state (base_now now).image ≡ 1 → image_state (base_now now).frozen ≡ 1
