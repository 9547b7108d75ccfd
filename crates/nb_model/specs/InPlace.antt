-- Merging a level file into a standby in place: when it is refused.
use Rattle.std.specs.Prelude.{ℕ, ◌-◌, List, [], ◌∷◌, Some, None, Result, Ok, Err, Bool, true, false, ◌||◌, ◌==◌, not, nat_lt}
use Rattle.nb_fields.specs.Page.{stamp_of}
use Rattle.nb_fields.specs.Header.{state_of, size_of, scn_of, guid_of, pending_of}
use Rattle.nb_fields.specs.States.{stalled_state, merge_state, applying_state}
use Rattle.nb_host.specs.Files.{Files, File, bytes_of}
use Rattle.nb_host.specs.Names.{same_name}
use Rattle.nb_host.specs.declared.refusals.Refusal.{Refusal}
use Rattle.nb_host.specs.declared.refusals.Refusal.TheVariants.{NoFile, WrongState, BadLevel, Unfinished, ChainGuid, ChainSize, ChainScn, Access}
use Rattle.nb_model.specs.Image.{Page, Image, image_in, is_read_only}
use Rattle.nb_model.specs.Causes.{Cause, first_cause, when, not_database}
use Rattle.nb_model.specs.Levels.{Contents, read_level}

-- the first of these pages that is stamped above the SCN was written after the restore
unfoldable pub written_since : (name : List ℕ) (scn : ℕ) → List Page → Cause
written_since name scn [] = None
written_since name scn (p ∷ ps) = elim (nat_lt scn (stamp_of p)) [ true ↦ Some (ChainScn name (stamp_of p) scn) | false ↦ written_since name scn ps ]

-- the pages of an image but page 0
abbrev pub other_pages : Image → List Page
other_pages [] = []
other_pages (p ∷ ps) = ps

-- A merge that was stopped goes on with the file alone that it was begun with.
abbrev pub is_another : (standby : List ℕ) → Contents → Bool
is_another standby c = not (same_name (pending_of standby) c.head.guid) || not (same_name (guid_of standby) c.head.previous)

-- the level file doesn't go on from the standby as it stands
unfoldable pub not_next : (name : List ℕ) → (standby : List ℕ) → Contents → Cause
not_next name standby c = first_cause (
    when (not (same_name c.head.previous (guid_of standby))) (ChainGuid name c.head.previous (guid_of standby))
    ∷ when (not (c.head.size == size_of standby)) (ChainSize name c.head.size (size_of standby))
    ∷ when (not (c.head.previous_scn == scn_of standby - 1)) (ChainScn name c.head.previous_scn (scn_of standby - 1))
    ∷ when (not (is_read_only (image_in standby))) (Access 0)
    ∷ written_since name c.head.previous_scn (other_pages (image_in standby))
    ∷ [])

-- The level file doesn't finish the merge that was begun. The file that it was begun with has pages of the standby's size.
unfoldable pub not_finishing : (name : List ℕ) → (standby : List ℕ) → Contents → Cause
not_finishing name standby c = first_cause (
    when (is_another standby c) Unfinished
    ∷ when (not (c.head.size == size_of standby)) (ChainSize name c.head.size (size_of standby))
    ∷ [])

-- the level file can't be merged into a standby in the normal or the applying state
unfoldable pub not_mergeable : (standby name : List ℕ) → Contents → Cause
not_mergeable standby name c = elim (state_of standby == applying_state) [ true ↦ not_finishing name standby c | false ↦ not_next name standby c ]

-- the level file that was read, or the refusal
unfoldable pub in_place_of : (standby name bytes : List ℕ) → Result Contents Refusal
in_place_of standby name bytes = elim (read_level bytes) [
  | Err at ↦ Err (BadLevel name at)
  | Ok c ↦ elim (not_mergeable standby name c) [ Some refusal ↦ Err refusal | None ↦ Ok c ]
]

-- the standby itself can't take a merge
unfoldable pub not_standby : (name : List ℕ) → File → Cause
not_standby name None = Some (NoFile name)
not_standby name (Some bytes) = first_cause (
    not_database bytes
    ∷ when (state_of bytes == stalled_state || state_of bytes == merge_state) (WrongState (state_of bytes))
    ∷ [])

-- the verdict on a merge in place: what the level file holds, or the first refusal
unfoldable pub in_place : Files → (standby name : List ℕ) → Result Contents Refusal
in_place files standby name = elim (not_standby standby (files standby)) [
  | Some refusal ↦ Err refusal
  | None ↦ elim (files name) [ None ↦ Err (NoFile name) | Some bytes ↦ in_place_of (bytes_of (files standby)) name bytes ]
]
