-- What a turn sees and what it does.
use Rattle.std.specs.Prelude.{◌≡◌, ℕ, ◌++◌, List, [], ◌∷◌, drop, replicate, Option, Some, None}
use Rattle.std.specs.List.{slice_index_or}
use Rattle.nb_model.specs.declared.reply.Reply.{Reply}
use Rattle.nb_model.specs.declared.reply.Reply.TheVariants.{Refused}
use Rattle.nb_model.specs.declared.statement.Statement.{Statement}
use Rattle.nb_model.specs.Account.{Ask, Base, Entry}
use Rattle.nb_model.specs.Strokes.{Stroke}
use Rattle.nb_model.specs.Forms.{Draft}
use Rattle.nb_model.specs.Causes.{Cause, first_cause, not_of_form, no_room}

-- what a backup needs for its close: the file, what it goes on from, its SCN and GUID, and page and slot of its history row
pub record Backing : Type 0 where
  pub name : List ℕ
  pub ask : Ask
  pub scn : ℕ
  pub guid : List ℕ
  pub page : ℕ
  pub slot : ℕ

-- What a session has still to do is a list of these.
pub data Turn : Type 0 where
  -- the first turn of a statement, which is the only one where it is refused
  Begins : Statement → Turn
  -- one page of the frozen image is copied
  Copies : Turn
  -- the level file is whole, and its history row is written
  ClosesBackup : Backing → Turn
  -- the copy is whole
  ClosesCopy : List ℕ → Turn
  -- the end of the stalled state; what is said once all is merged
  Ends : Reply → Turn
  -- one entry is merged
  Merges : Turn
  -- all is merged
  Finishes : Reply → Turn

-- what the outside has still to give: GUIDs, clock values, and the numbers of pages that the cache will hold
pub record Given : Type 0 where
  pub guids : List (List ℕ)
  pub times : List ℕ
  pub holds : List ℕ

abbrev pub next_guid : Given → List ℕ
next_guid g = slice_index_or g.guids 0 (replicate 16 0)

abbrev pub next_time : Given → ℕ
next_time g = slice_index_or g.times 0 0

abbrev pub next_hold : Given → ℕ
next_hold g = slice_index_or g.holds 0 0

abbrev pub without_guid : Given → Given
without_guid g = record g { guids = drop 1 g.guids }

abbrev pub without_time : Given → Given
without_time g = record g { times = drop 1 g.times }

abbrev pub without_hold : Given → Given
without_hold g = record g { holds = drop 1 g.holds }

-- What a turn sees: the database, how many pages its cache may hold, whose copy or merge runs, what stands under each name,
-- and what the outside gives next.
pub record Seen : Type 0 where
  pub base : Base
  pub cache : ℕ
  pub running : Option ℕ
  pub entry : List ℕ → Entry
  pub given : Given

-- What a turn does: its strokes, what it says, the turns that take its place, whose copy or merge runs then, the file that it
-- made whole, and what the outside has still to give.
pub record Outcome : Type 0 where
  pub strokes : List Stroke
  pub reply : Option Reply
  pub next : List Turn
  pub running : Option ℕ
  pub made : Option (List ℕ × List ℕ)
  pub given : Given

-- it makes these strokes and says this, and nothing is left to do
abbrev pub says : Seen → Reply → List Stroke → Outcome
says s reply strokes = record { strokes = strokes; reply = Some reply; next = []; running = s.running; made = None; given = s.given }

-- it changes nothing that the model knows of
abbrev pub passes : Seen → Outcome
passes s = record { strokes = []; reply = None; next = []; running = s.running; made = None; given = s.given }

-- it is refused where there is a cause
unfoldable pub unless : Seen → Cause → Outcome → Outcome
unless s cause outcome = elim cause [ Some refusal ↦ says s (Refused refusal) [] | None ↦ outcome ]

-- It makes the strokes of a draft. The inventory pages that it needs for this alone are tested last, and then whether a page
-- was left.
unfoldable pub changes : Seen → List Cause → Draft → Reply → Outcome
changes s causes d reply = unless s (first_cause (causes ++ not_of_form d ∷ no_room d ∷ [])) (says s reply d.strokes)

-- a turn that does nothing
pub record DoesNothing (s : Seen) (o : Outcome) : Type 0 where
  pub strokes : o.strokes ≡ []
  pub next : o.next ≡ []
  pub made : o.made ≡ None
  pub running : o.running ≡ s.running
  pub given : o.given ≡ s.given
