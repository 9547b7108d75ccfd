-- States and events: what the backup state says of each event, by what the model refuses, opens and diverts in that state.
use Rattle.std.specs.Prelude.{◌≡◌, ◌≢◌, ◌≤◌, ℕ, List, [], ◌∷◌, Some, None, is_some, Ok, Err, ◌==◌}
use Rattle.std.specs.List.{slice_index_or}
use Rattle.nb_fields.specs.Cases.{cell}
use Rattle.nb_fields.specs.Header.{state_of}
use Rattle.nb_fields.specs.States.{normal_state, stalled_state, merge_state, applying_state}
use Rattle.nb_host.specs.Files.{File}
use Rattle.nb_host.specs.declared.refusals.Refusal.TheVariants.{DeltaPresent, WrongState as in_state, Unfinished as unfinished}
use Rattle.nb_model.specs.Account.{Base, base_of}
use Rattle.nb_model.specs.Causes.{Cause, when, not_database, not_state}
use Rattle.nb_model.specs.Image.{Image, Page, image_in, image_state}
use Rattle.nb_model.specs.InPlace.{not_finishing, not_mergeable, not_next, not_standby}
use Rattle.nb_model.specs.Jobs.{not_fixable}
use Rattle.nb_model.specs.Levels.{Contents}
use Rattle.nb_model.specs.Owner.{delta_name, owner_in, owner_with}
use Rattle.nb_model.specs.Strokes.{noted, on_base, page}
use Rattle.nb_cases.specs.declared.events.Case.{Case}
use Rattle.nb_cases.specs.declared.events.Case.TheVariants.{NoCall, Go, WrongState, Unfinished, Main, Delta, BothOrMain, GoWithDelta, GoWithoutDelta, GoOrUnfinished}
use Rattle.nb_cases.specs.declared.events.Event.{Event}
use Rattle.nb_cases.specs.declared.events.Event.TheVariants.{Attach, Begin, End, MergeTurn, Fixup, Write, CopyTo, Apply, Access}

-- a file is a database in that state
abbrev pub IsFileIn : (state : ℕ) → List ℕ → Type 0
IsFileIn state bytes = (not_database bytes ≡ None) × (state_of bytes ≡ state)

-- no difference file is looked at
abbrev pub IsMainAlone : (state : ℕ) → Type 0
IsMainAlone state = (name bytes : List ℕ) (delta : File) → owner_in state name bytes delta ≡ Ok (base_of (image_in bytes))

-- the difference file has to be there
abbrev pub IsWithDelta : (state : ℕ) → Type 0
IsWithDelta state = (name bytes : List ℕ) (delta : File) → owner_in state name bytes delta ≡ owner_with name bytes delta

-- a page write brings its page into the difference file
abbrev pub Diverts : (state : ℕ) → Type 0
Diverts state = (b : Base) (p : ℕ) (bytes : Page) → image_state b.image ≡ state → (on_base (page p bytes) b).diverted ≡ noted p b.diverted

-- a page write brings no page into the difference file
abbrev pub DivertsNone : (state : ℕ) → Type 0
DivertsNone state = (b : Base) (p : ℕ) (bytes : Page) → image_state b.image ≡ state → (on_base (page p bytes) b).diverted ≡ b.diverted

-- opening a database
abbrev pub OnAttach : (state : ℕ) → Case → Type 0
OnAttach state Go = IsMainAlone state
OnAttach state GoWithDelta = IsWithDelta state
OnAttach state Unfinished = (name bytes : List ℕ) (delta : File) → owner_in state name bytes delta ≡ Err unfinished
OnAttach state other = ⊥

-- an event on an open database, which is refused by its state or not; in state 3 none is open
abbrev pub OnOpen : (Image → Cause) → (state : ℕ) → Case → Type 0
OnOpen cause state Go = (image : Image) → image_state image ≡ state → cause image ≡ None
OnOpen cause state WrongState = (image : Image) → image_state image ≡ state → cause image ≡ Some (in_state state)
OnOpen cause state NoCall = state ≡ applying_state
OnOpen cause state other = ⊥

-- there is no backup to end
abbrev pub none_to_end : Image → Cause
none_to_end image = when (image_state image == normal_state) (in_state normal_state)

-- a turn of a merge, which comes in the merge state alone
abbrev pub OnMergeTurn : (state : ℕ) → Case → Type 0
OnMergeTurn state Go = state ≡ merge_state
OnMergeTurn state NoCall = state ≢ merge_state
OnMergeTurn state other = ⊥

-- making a database of a copy of the frozen file
abbrev pub OnFixup : (state : ℕ) → Case → Type 0
OnFixup state WrongState = (name bytes : List ℕ) (delta : File) → IsFileIn state bytes → not_fixable name (Some bytes) delta ≡ Some (in_state state)
OnFixup state GoWithoutDelta = (name bytes : List ℕ) (delta : File) → IsFileIn state bytes → not_fixable name (Some bytes) delta ≡ when (is_some delta) (DeltaPresent (delta_name name))
OnFixup state other = ⊥

-- a page write: to the main file where no other is looked at, to the difference file where it brings its page there, and
-- otherwise to both where its page is there already
abbrev pub OnWrite : (state : ℕ) → Case → Type 0
OnWrite state Main = IsMainAlone state × DivertsNone state
OnWrite state Delta = IsWithDelta state × Diverts state
OnWrite state BothOrMain = IsWithDelta state × DivertsNone state
OnWrite state NoCall = state ≡ applying_state
OnWrite state other = ⊥

-- merging a level file into a standby
abbrev pub OnApply : (state : ℕ) → Case → Type 0
OnApply state Go = (name level bytes : List ℕ) (c : Contents) → IsFileIn state bytes
    → (not_standby name (Some bytes) ≡ None) × (not_mergeable bytes level c ≡ not_next level bytes c)
OnApply state WrongState = (name bytes : List ℕ) → IsFileIn state bytes → not_standby name (Some bytes) ≡ Some (in_state state)
OnApply state GoOrUnfinished = (name level bytes : List ℕ) (c : Contents) → IsFileIn state bytes
    → (not_standby name (Some bytes) ≡ None) × (not_mergeable bytes level c ≡ not_finishing level bytes c)
OnApply state other = ⊥

-- what a case says of an event in a state
abbrev pub IsTheCase : (state : ℕ) → Event → Case → Type 0
IsTheCase state Attach case = OnAttach state case
IsTheCase state Begin case = OnOpen (not_state normal_state) state case
IsTheCase state End case = OnOpen none_to_end state case
IsTheCase state MergeTurn case = OnMergeTurn state case
IsTheCase state Fixup case = OnFixup state case
IsTheCase state Write case = OnWrite state case
IsTheCase state CopyTo case = OnOpen (not_state stalled_state) state case
IsTheCase state Apply case = OnApply state case
IsTheCase state Access case = OnOpen (not_state normal_state) state case

-- ---- the table

-- the column of an event
abbrev pub column_of : Event → ℕ
column_of Attach = 0
column_of Begin = 1
column_of End = 2
column_of MergeTurn = 3
column_of Fixup = 4
column_of Write = 5
column_of CopyTo = 6
column_of Apply = 7
column_of Access = 8

-- the cases, in the order of the numbers that stand for them
abbrev pub numbered : List Case
numbered = NoCall ∷ Go ∷ WrongState ∷ Unfinished ∷ Main ∷ Delta ∷ BothOrMain ∷ GoWithDelta ∷ GoWithoutDelta ∷ GoOrUnfinished ∷ []

-- the case that a cell stands for
abbrev pub case_at : ℕ → Case
case_at cell = slice_index_or numbered cell NoCall

-- each cell of a table says what its state says of its event
abbrev pub AreTheCases : List (List ℕ) → Type 0
AreTheCases rows = (state : ℕ) (event : Event) → state ≤ 3 → IsTheCase state event (case_at (cell rows state (column_of event)))
