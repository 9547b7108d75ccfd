-- The pages in danger that checks of a session have found.
use Rattle.std.specs.Prelude.{◌≡◌, ℕ, Bool, IsTrue, List, [], ◌∷◌, replicate, Option, Some, None}
use Rattle.nb_host.specs.World.{World}
use Rattle.nb_model.specs.declared.statement.Statement.{Statement}
use Rattle.nb_model.specs.declared.statement.Statement.TheVariants.{Check}
use Rattle.nb_model.specs.Checks.{check_cause}
use Rattle.nb_model.specs.Danger.{in_danger}
use Rattle.nb_model.specs.Image.{Image}
use Rattle.nb_model.specs.Trail.{Trail}
use Rattle.nb_state.specs.Open.{Held, IsOpen}
use Rattle.nb_session.specs.Askers.{Asker}
use Rattle.nb_session.specs.declared.task.Task.{Task}

-- what a check of the image has found: all its pages in danger, or what was found before where it is refused
abbrev pub danger_checked : Image → (before : Option (List ℕ)) → Option (List ℕ)
danger_checked image before = elim (check_cause image) [ None ↦ Some (in_danger image) | Some refusal ↦ before ]

-- what is found once a statement was begun on the image: only a check finds anything
abbrev pub danger_after : Statement → Image → (before : Option (List ℕ)) → Option (List ℕ)
danger_after Check image before = danger_checked image before
danger_after other image before = before

-- what a turn of a session has found, which has something under way, or goes on with these statements
abbrev pub Finds : (tells : Bool) (old : World) (held : Held) → Option Task → List Statement → (before after : Option (List ℕ)) → Type 0
Finds tells old held (Some task) statements before after = after ≡ before
Finds tells old held None [] before after = after ≡ before
Finds tells old held None (s ∷ statements) before after = (t : Trail) → IsTrue tells → IsOpen old held t → after ≡ danger_after s t.base.image before

-- what the first of the sessions has found
abbrev pub first_danger : List Asker → Option (List ℕ)
first_danger [] = None
first_danger (asker ∷ askers) = asker.danger

-- the sessions of a script of one statement, which session 1 has
abbrev pub alone : Statement → List (List Statement)
alone statement = (statement ∷ []) ∷ replicate 15 []
