-- GUIDs that are new. That those which the outside gives are new is a premise of what rests on it.
use Rattle.std.specs.Prelude.{◌≡◌, ◌≢◌, ℕ, List, [], ◌∷◌, length, Ok, Some, IsTrue, true, false, Contains}
use Rattle.nb_fields.specs.Header.{is_header, state_of, guid_of, pending_of}
use Rattle.nb_fields.specs.States.{stalled_state}
use Rattle.nb_host.specs.Crash.{Leaves}
use Rattle.nb_host.specs.Names.{is_delta}
use Rattle.nb_host.specs.World.{World}
use Rattle.nb_model.specs.Account.{Kept}
use Rattle.nb_model.specs.Levels.{Contents, read_level}
use Rattle.nb_model.specs.Stands.{nil, is_applying}
use Rattle.nb_model.specs.Strokes.{Stroke, begin}

-- the GUIDs of the backups that these strokes begin
unfoldable pub guids_in : List Stroke → List (List ℕ)
guids_in [] = []
guids_in (begin guid ask ∷ ss) = guid ∷ guids_in ss
guids_in (other ∷ ss) = guids_in ss

-- The bytes don't name the GUID: not as a level file, not as a database in the stalled state, and not as a standby that waits for it.
pub record IsUnnamed (bytes guid : List ℕ) : Type 0 where
  pub level : (c : Contents) → read_level bytes ≡ Ok c → c.head.guid ≢ guid
  pub stalled : is_header bytes ≡ true → state_of bytes ≡ stalled_state → guid_of bytes ≢ guid
  pub pending : IsTrue (is_applying bytes) → pending_of bytes ≢ guid

-- A GUID is new: it isn't nil, no record has it, and no file that a crash leaves names it. What reads is among what a crash leaves.
pub record IsNewGuid (w : World) (kept : List Kept) (guid : List ℕ) : Type 0 where
  pub sixteen : length guid ≡ 16
  pub some : guid ≢ nil
  pub unkept : (r : Kept) → Contains kept r → r.guid ≢ guid
  pub unnamed : (name bytes : List ℕ) → is_delta name ≡ false → Leaves w name (Some bytes) → IsUnnamed bytes guid

-- none of them comes twice
abbrev pub ComeOnce : List (List ℕ) → Type 0
ComeOnce [] = Unit {0}
ComeOnce (guid ∷ guids) = (Contains guids guid → ⊥) × ComeOnce guids

-- They are new, each of them, and none comes twice.
pub record AreNew (w : World) (kept : List Kept) (guids : List (List ℕ)) : Type 0 where
  pub each : (guid : List ℕ) → Contains guids guid → IsNewGuid w kept guid
  pub once : ComeOnce guids
