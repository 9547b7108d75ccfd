-- What sessions have still to do.
use Rattle.std.specs.Prelude.{◌≡◌, ◌≢◌, ℕ, List, [], ◌++◌, Bool, Result, IfOk}
use Rattle.nb_model.specs.NewGuids.{guids_in}
use Rattle.nb_model.specs.Run.{Now, play, rounds, strokes_of, files_made, AreFinished}
use Rattle.nb_model.specs.Trail.{Trail}
use Rattle.nb_host.specs.World.{World}
use Rattle.nb_host.specs.declared.faults.RunError.{RunError}
use Rattle.nb_state.specs.Open.{Held}
use Rattle.nb_session.specs.declared.told.Told.{Told}
use Rattle.nb_session.specs.InTurn.{RunsInTurn}
use Rattle.nb_session.specs.Stops.{Plays}
use Rattle.nb_session.specs.Told.{told_turns}

-- The turns of a schedule were taken and told, and then rounds until every session had finished, or some of these until a call of the host failed
-- or memory ran out. All files that they make are among these.
pub record PlaysWhole (result : Result Bool RunError) (old new : World) (before after : Held) (t : Trail) (told : Told) (now : Now) (schedule : List ℕ) : Type 0 where
  pub how_often : ℕ
  pub plays : Plays result old new before after t now (told_turns told (play (schedule ++ rounds how_often) now)) (files_made (play (schedule ++ rounds how_often) now).0)
  pub finished : AreFinished (play (schedule ++ rounds how_often) now).1.todo

-- So it is of the whole, and of each of these turns by itself. Where more GUIDs could have been given, just those of the backups that they began were
-- given, in order.
pub record PlaysInTurn {H : Type 0} (world : H → World) (result : Result Bool RunError) (old new : H) (before after : Held) (t : Trail) (told : Told) (now : Now) (schedule : List ℕ) : Type 0 where
  pub whole : PlaysWhole result (world old) (world new) before after t told now schedule
  pub in_turn : RunsInTurn world result old new before after t told now (schedule ++ rounds whole.how_often)
  pub guids : IfOk result (λ refused. (play (schedule ++ rounds whole.how_often) now).1.given.guids ≢ [] → (world new).guids ≡ (world old).guids ++ guids_in (strokes_of (play (schedule ++ rounds whole.how_often) now).0))
