-- The turns of a run one by one, by what they say and what they leave of the files.
use Rattle.std.specs.Prelude.{◌≡◌, ◌⊎◌, ℕ, List, [], ◌∷◌, ◌++◌, true, false, Result, IsErr}
use Rattle.std.specs.List.{list_all}
use Rattle.nb_host.specs.World.{World}
use Rattle.nb_host.specs.declared.faults.RunError.{RunError}
use Rattle.nb_change.specs.Changes.{Names}
use Rattle.nb_model.specs.Output.{output}
use Rattle.nb_model.specs.Run.{Event, Now, one_turn, play, rounds}
use Rattle.nb_model.specs.Steps.{steps_of, after_steps}
use Rattle.nb_model.specs.Trail.{Trail}
use Rattle.nb_base.specs.Open.{OfFiles}
use Rattle.nb_session.specs.Acts.{Touched}
use Rattle.nb_session.specs.Ended.{EndsNext}
use Rattle.nb_session.specs.Files.{LeavesFiles}
use Rattle.nb_session.specs.InTurn.{HasNone}
use Rattle.nb_session.specs.Others.{LeavesOthers}
use Rattle.nb_session.specs.Short.{RanOut}
use Rattle.nb_session.specs.Replies.{only_told}
use Rattle.nb_session.specs.Steps.{touching_by}
use Rattle.nb_session.specs.Stops.{IsSaid}

-- the files that the next turn of a session may touch: the database's two, and those that it may make
abbrev pub OfTurn : (session : ℕ) → Now → Names
OfTurn session now = Touched now.name (touching_by session now)

-- A turn was taken to its end, and what is told of it said. It left every other file alone, and where it only told something all files read as before it,
-- byte for byte. What it left of the database's two files that no image shows is told by `ends`.
pub record LeavesTurn (old new : World) (told : List Event → List Event) (t : Trail) (session : ℕ) (now : Now) : Type 0 where
  pub said : new.said ≡ old.said ++ output (told (one_turn session now).0)
  pub leaves : LeavesOthers old new (OfTurn session now)
  pub unchanged : list_all only_told (one_turn session now).0 ≡ true → new.files ≡ old.files
  pub ends : EndsNext ⊥ (Unit {0}) old new now.name t now session

-- Turns were taken in this order, each from the host at which the one before it ended, with what was seen of the database before it. A session that has none does nothing.
abbrev pub ByTurns : {H : Type 0} → (world : H → World) → (told : List Event → List Event) → (order : List ℕ) → (old new : H) → Trail → Now → Type 0
ByTurns world told [] old new t now = new ≡ old
ByTurns {H} world told (session ∷ order) old new t now =
    (HasNone session now × ByTurns world told order old new t now)
    ⊎ ((mid : H) × LeavesTurn (world old) (world mid) told t session now
    × ByTurns world told order mid new (after_steps t (steps_of (one_turn session now).0)) (one_turn session now).1)

-- the files that the last thing done may touch, where these numbers are left: the database's two, or those of the turn that ended early
abbrev pub OfLast : (rest : List ℕ) → Now → Names
OfLast [] now = OfFiles now.name
OfLast (session ∷ rest) now = OfTurn session now

-- how the turn that ended early did, and what of the database's two files is left by what waits and is written out
abbrev pub EndsInLast : (ran_out : Type 0) → (rest : List ℕ) → Trail → Now → (old new : World) → Type 0
EndsInLast ran_out [] t now old new = LeavesFiles false ⊥ old new now.name t []
EndsInLast ran_out (session ∷ rest) t now old new = EndsNext ran_out ⊥ old new now.name t now session

-- a prefix of what is told of the turn that ended early was said, and after all turns nothing
abbrev pub SaidInLast : (told : List Event → List Event) → (rest : List ℕ) → Now → (old new : World) → Type 0
SaidInLast told [] now old new = new.said ≡ old.said
SaidInLast told (session ∷ rest) now old new = IsSaid old (told (one_turn session now).0) new.said

-- How a run ended: whether it did so early, since a call of the host failed or memory ran out, and whether memory did.
pub record Ending : Type 1 where
  pub early : Type 0
  pub ran_out : Type 0

-- of turns that answered this
abbrev pub ending_of : {T : Type 0} → Result T RunError → Ending
ending_of result = record { early = IsErr result; ran_out = RanOut result }

-- The turns of a schedule and then of rounds, to the end of all, or up to one that ended early where the run did. After them what waits was written
-- out, or not all of it. This was seen of the database before the first.
pub record GoesByTurns {H : Type 0} (world : H → World) (ending : Ending) (told : List Event → List Event) (old new : H) (t : Trail) (now : Now) (schedule : List ℕ) : Type 0 where
  pub how_often : ℕ
  pub front : List ℕ
  pub rest : List ℕ
  pub is : schedule ++ rounds how_often ≡ front ++ rest
  pub to_end : ending.early ⊎ (rest ≡ [])
  pub mid : H
  pub taken : ByTurns world told front old mid t now
  pub last : LeavesOthers (world mid) (world new) (OfLast rest (play front now).1)
  pub ends : EndsInLast ending.ran_out rest (after_steps t (steps_of (play front now).0)) (play front now).1 (world mid) (world new)
  pub said : SaidInLast told rest (play front now).1 (world mid) (world new)
