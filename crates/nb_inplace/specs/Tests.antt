-- What a standby and the head of a level file say against their merge.
use Rattle.std.specs.Prelude.{ℕ, ◌-◌, List, [], ◌∷◌, drop, None, true, false, not, ◌||◌, ◌==◌}
use Rattle.nb_host.specs.Names.{same_name}
use Rattle.nb_host.specs.declared.refusals.Refusal.TheVariants.{Unfinished, ChainGuid, ChainSize, ChainScn, Access}
use Rattle.nb_model.specs.Causes.{Cause, first_cause, when}
use Rattle.nb_model.specs.Image.{Page}
use Rattle.nb_model.specs.InPlace.{written_since}
use Rattle.nb_model.specs.Levels.{Contents}
use Rattle.nb_inplace.specs.declared.standby.Standby.{Standby}

-- the pages have another size
abbrev pub other_size : Standby → (name : List ℕ) → Contents → Cause
other_size s name c = when (not (c.head.size == s.header.page_size)) (ChainSize name c.head.size s.header.page_size)

-- the file isn't the one that the merge was begun with
abbrev pub not_the_same : Standby → (name : List ℕ) → Contents → Cause
not_the_same s name c = first_cause (when (not (same_name s.header.pending c.head.guid) || not (same_name s.header.guid c.head.previous)) Unfinished ∷ other_size s name c ∷ [])

-- the file doesn't go on from the standby as it stands
abbrev pub not_behind : Standby → (name : List ℕ) → Contents → Cause
not_behind s name c = first_cause (
    when (not (same_name c.head.previous s.header.guid)) (ChainGuid name c.head.previous s.header.guid)
    ∷ other_size s name c
    ∷ when (not (c.head.previous_scn == s.header.scn - 1)) (ChainScn name c.head.previous_scn (s.header.scn - 1))
    ∷ when (not s.is_read_only) (Access 0)
    ∷ [])

abbrev pub head_cause : Standby → (name : List ℕ) → Contents → Cause
head_cause s name c = elim s.is_begun [ true ↦ not_the_same s name c | false ↦ not_behind s name c ]

-- What the stamps say against it: where the merge was begun they aren't asked.
abbrev pub stamp_cause : Standby → (name : List ℕ) (scn : ℕ) → List Page → Cause
stamp_cause s name scn pages = elim s.is_begun [ true ↦ None | false ↦ written_since name scn (drop 1 pages) ]
