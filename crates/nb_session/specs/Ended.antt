-- What one turn leaves, however it ended.
use Rattle.std.specs.Prelude.{◌≡◌, ℕ, ◌-◌, List, [], ◌∷◌, true}
use Rattle.std.specs.List.{slice_index_or}
use Rattle.nb_host.specs.World.{World}
use Rattle.nb_model.specs.Outcomes.{Turn}
use Rattle.nb_model.specs.Run.{Now, outcome, event_of}
use Rattle.nb_model.specs.Trail.{Trail}
use Rattle.nb_session.specs.Files.{TurnLeaves}
use Rattle.nb_session.specs.Replies.{only_told}
use Rattle.nb_session.specs.Short.{LacksLast, says_done}

-- Where it only tells something all files read as before it, byte for byte. Where memory ran out, and it isn't one that only tells something, its
-- last operation wasn't made: the memory for its line was taken before the first.
pub record EndsTurn (ran_out ended : Type 0) (old new : World) (name : List ℕ) (t : Trail) (now : Now) (session : ℕ) (turn : Turn) : Type 0 where
  pub unchanged : only_told (event_of session turn (outcome session turn now)) ≡ true → new.files ≡ old.files
  pub short : ran_out → says_done (outcome session turn now).reply ≡ true → LacksLast old new name t (outcome session turn now).strokes
  pub files : TurnLeaves ended old new name t turn (outcome session turn now).strokes

-- the first of the turns that a session has to do; it has one
abbrev pub EndsFirst : (ran_out ended : Type 0) (old new : World) (name : List ℕ) → Trail → Now → (session : ℕ) → List Turn → Type 0
EndsFirst ran_out ended old new name t now session [] = ⊥
EndsFirst ran_out ended old new name t now session (turn ∷ rest) = EndsTurn ran_out ended old new name t now session turn

-- the next turn of a session
abbrev pub EndsNext : (ran_out ended : Type 0) (old new : World) (name : List ℕ) → Trail → Now → (session : ℕ) → Type 0
EndsNext ran_out ended old new name t now session = EndsFirst ran_out ended old new name t now session (slice_index_or now.todo (session - 1) [])
