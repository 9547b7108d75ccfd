-- What one turn makes of the database before its line is said.
use Rattle.std.specs.Prelude.{◌≡◌, ◌⊎◌, ℕ, List, [], ◌∷◌, length, Option, Some, Result, Ok, Err, Contains, true}
use Rattle.std.specs.List.{AllByRecursion}
use Rattle.nb_host.specs.Files.{Files}
use Rattle.nb_host.specs.World.{World}
use Rattle.nb_host.specs.declared.faults.Fault.{Fault}
use Rattle.nb_host.specs.declared.faults.Fault.TheVariants.{Refused, Device, Memory}
use Rattle.nb_change.specs.Changes.{Names, Changes, Reached, Remade}
use Rattle.nb_change.specs.Gave.{Gave}
use Rattle.nb_model.specs.declared.reply.Reply.{Reply}
use Rattle.nb_model.specs.declared.reply.Reply.TheVariants.{Refused as RefusedBy}
use Rattle.nb_model.specs.declared.statement.Statement.TheVariants.{ShowCache}
use Rattle.nb_model.specs.Gifts.{Foretells, WasGiven}
use Rattle.nb_model.specs.Making.{MadeFile}
use Rattle.nb_model.specs.Outcomes.{Turn, Begins}
use Rattle.nb_model.specs.Run.{Now, outcome, event_of, files_made}
use Rattle.nb_model.specs.Steps.{steps_in, after_steps}
use Rattle.nb_model.specs.Strokes.{Stroke}
use Rattle.nb_model.specs.Trail.{Trail, StandsIn, after_stroke}
use Rattle.nb_base.specs.Open.{OfFiles}
use Rattle.nb_gather.specs.Making.{IsKept, IsUnfinishedOr}
use Rattle.nb_state.specs.Open.{Held, IsOpen, name_of}
use Rattle.nb_state.specs.Does.{WhereEnded}
use Rattle.nb_engine.specs.Tries.{WhereMemory}
use Rattle.nb_session.specs.Replies.{HasEnded, only_told}
use Rattle.nb_session.specs.Files.{TurnLeaves}
use Rattle.nb_session.specs.Short.{LacksLast}

-- what is to be said, if anything; a failure says nothing of it
abbrev pub Says : {T : Type 0} → (T → Option Reply) → Result T Fault → Option Reply → Type 0
Says reply (Ok value) said = said ≡ reply value
Says reply (Err (Refused refusal)) said = said ≡ Some (RefusedBy refusal)
Says reply (Err Device) said = Unit {0}
Says reply (Err Memory) said = Unit {0}

-- each has 16 bytes
abbrev pub AreSixteen : List (List ℕ) → Type 0
AreSixteen ids = AllByRecursion (λ (id : List ℕ). length id ≡ 16) ids

-- some GUIDs and times were given, each GUID of 16 bytes
pub record Grows (old new : World) : Type 0 where
  pub ids : List (List ℕ)
  pub clock : List ℕ
  pub gave : Gave old new ids clock
  pub sixteen : AreSixteen ids

-- the numbers that a turn shows: `show cache` how many pages are in memory then, and no other turn any
abbrev pub shown_by : Turn → Held → List ℕ
shown_by (Begins ShowCache) held = length held.pages ∷ []
shown_by other held = []

-- the database's two files, and files that are made
abbrev pub Touched : (name : List ℕ) → List MadeFile → Names
Touched name made m = OfFiles name m ⊎ ((bytes : List ℕ) × Contains made (m, bytes))

-- each of the files that are made is as it was, unfinished, or whole
abbrev pub MadeLeft : (old : World) → List MadeFile → Files → Type 0
MadeLeft old made files = (name bytes : List ℕ) → Contains made (name, bytes) → Remade old name (IsUnfinishedOr bytes) files

-- each of them is whole and kept for good
abbrev pub AreKept : World → List MadeFile → Type 0
AreKept w made = (name bytes : List ℕ) → Contains made (name, bytes) → IsKept w name bytes

-- these files are whole
abbrev pub AreWhole : List MadeFile → Files → Type 0
AreWhole made files = (name bytes : List ℕ) → Contains made (name, bytes) → files name ≡ Some bytes

-- What a crash leaves while a turn makes its operations, and files: the database after a prefix of the operations, and the files. Those that the
-- turn leaves whole are so before its first operation stands.
pub record TurnLeft (old : World) (name : List ℕ) (t : Trail) (strokes : List Stroke) (made whole : List MadeFile) (files : Files) : Type 0 where
  pub database : Reached after_stroke (StandsIn name) t strokes files
  pub each : MadeLeft old made files
  pub whole_first : StandsIn name t files ⊎ AreWhole whole files

-- The strokes of a turn are made in order, and what it is to say is answered. Once it has ended with a value or a refusal the database is
-- open after its steps, and the file that the turn made whole is kept for good. Where it only tells something no file has changed, also where a call of
-- the host failed in it. Where memory ran out its last operation wasn't made. What it leaves of the database's two
-- files that no image shows is as TurnLeaves says. As many pages may be in memory as before.
pub record Acts {T : Type 0} (reply : T → Option Reply) (result : Result T Fault) (old new : World) (before after : Held) (t : Trail) (now : Now) (session : ℕ) (turn : Turn) (made : List MadeFile) : Type 0 where
  pub says : Says reply result (outcome session turn now).reply
  pub left : Changes old new (Touched (name_of before) made)
      (TurnLeft old (name_of before) t (outcome session turn now).strokes made (files_made (event_of session turn (outcome session turn now) ∷ [])))
  pub opened : WhereEnded result (IsOpen new after (after_steps t (steps_in (event_of session turn (outcome session turn now)))))
  pub running : WhereEnded result (after.running ≡ (outcome session turn now).running)
  pub given : WhereEnded result (WasGiven old new now.given (outcome session turn now).given)
  pub kept : WhereEnded result (AreKept new (files_made (event_of session turn (outcome session turn now) ∷ [])))
  pub unchanged : only_told (event_of session turn (outcome session turn now)) ≡ true → new.files ≡ old.files
  pub short : WhereMemory result (LacksLast old new (name_of before) t (outcome session turn now).strokes)
  pub files : TurnLeaves (HasEnded result) old new (name_of before) t turn (outcome session turn now).strokes
  pub name : name_of after ≡ name_of before
  pub cap : after.cap ≡ before.cap

-- It does so where the outside gives what it may give, and the number that is shown is the next one.
pub record MayAct {T : Type 0} (reply : T → Option Reply) (result : Result T Fault) (old new : World) (before after : Held) (t : Trail) (now : Now) (session : ℕ) (turn : Turn) (made : List MadeFile) : Type 0 where
  pub grows : Grows old new
  pub acts : Foretells now.given (shown_by turn before) old new → Acts reply result old new before after t now session turn made
