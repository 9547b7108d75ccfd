-- The turns of a run one by one, each from where the one before it ended.
--
-- What is said of all turns of a run together leaves open in which of them a file has changed. Here of each turn by itself: it touches the
-- database's two files and those that this turn alone may touch, and where it only tells something no file.
use Rattle.std.specs.Prelude.{◌≡◌, ◌⊎◌, ℕ, ◌-◌, List, [], ◌∷◌, ◌++◌, Bool, false, Result, Ok, Err}
use Rattle.std.specs.List.{slice_index_or}
use Rattle.nb_host.specs.World.{World}
use Rattle.nb_host.specs.declared.faults.RunError.{RunError}
use Rattle.nb_model.specs.Run.{Now, one_turn, play}
use Rattle.nb_model.specs.Steps.{steps_of, after_steps}
use Rattle.nb_model.specs.Trail.{Trail}
use Rattle.nb_state.specs.Open.{Held, name_of}
use Rattle.nb_session.specs.declared.told.Told.{Told}
use Rattle.nb_session.specs.Ended.{EndsNext}
use Rattle.nb_session.specs.Files.{LeavesFiles}
use Rattle.nb_session.specs.Short.{RanOut}
use Rattle.nb_session.specs.Steps.{touching_by}
use Rattle.nb_session.specs.Stops.{Plays}
use Rattle.nb_session.specs.Told.{told_turns}

-- the session has no turn to take
abbrev pub HasNone : (session : ℕ) → Now → Type 0
HasNone session now = slice_index_or now.todo (session - 1) [] ≡ []

-- The next turn of a session was taken to its end, and what is told of it said. It touched no file but the database's two and those that it may
-- touch.
pub record TakesOne (old new : World) (before after : Held) (t : Trail) (told : Told) (now : Now) (session : ℕ) : Type 0 where
  pub refused : Bool
  pub plays : Plays (Ok refused) old new before after t now (told_turns told (one_turn session now)) (touching_by session now)
  pub ends : EndsNext ⊥ (Unit {0}) old new (name_of before) t now session

-- Turns were taken in this order, each from the host and the database at which the one before it ended. A session that has none does nothing.
abbrev pub InTurn : {H : Type 0} → (world : H → World) → Told → (order : List ℕ) → (old new : H) → (before after : Held) → Trail → Now → Type 0
InTurn world told [] old new before after t now = (new ≡ old) × (after ≡ before)
InTurn {H} world told (session ∷ order) old new before after t now =
    (HasNone session now × InTurn world told order old new before after t now)
    ⊎ ((mid : H) × (between : Held) × TakesOne (world old) (world mid) before between t told now session
    × InTurn world told order mid new between after (after_steps t (steps_of (one_turn session now).0)) (one_turn session now).1)

-- The last thing done of a run, of which these numbers are left: what waits is written out after all turns, or a turn ended early, or that.
abbrev pub EndsBy : Result Bool RunError → Told → (rest : List ℕ) → (old new : World) → (before after : Held) → Trail → Now → Type 0
EndsBy (Ok refused) told [] old new before after t now = Plays (Ok false) old new before after t now ([], now) [] × LeavesFiles false ⊥ old new (name_of before) t []
EndsBy (Ok refused) told (session ∷ rest) old new before after t now = ⊥
EndsBy (Err stop) told [] old new before after t now = Plays (Err stop) old new before after t now ([], now) [] × LeavesFiles false ⊥ old new (name_of before) t []
EndsBy (Err stop) told (session ∷ rest) old new before after t now =
    Plays (Err stop) old new before after t now (told_turns told (one_turn session now)) (touching_by session now)
    × EndsNext (RanOut {T = Bool} (Err stop)) ⊥ old new (name_of before) t now session

-- The turns of an order were taken one by one, to the end of all or up to one that ended early, which was the last thing done then.
pub record RunsInTurn {H : Type 0} (world : H → World) (result : Result Bool RunError) (old new : H) (before after : Held) (t : Trail) (told : Told) (now : Now) (order : List ℕ) : Type 0 where
  pub front : List ℕ
  pub rest : List ℕ
  pub is : order ≡ front ++ rest
  pub mid : H
  pub between : Held
  pub taken : InTurn world told front old mid before between t now
  pub last : EndsBy result told rest (world mid) (world new) between after (after_steps t (steps_of (play front now).0)) (play front now).1
