-- The steps of a ship.
use Rattle.std.specs.Prelude.{◌≡◌, ℕ, List, [], ◌∷◌, Bool, true, false}
use Rattle.std.specs.List.{slice_index_or}
use Rattle.nb_fields.specs.Cases.{cell}
use Rattle.nb_ship.specs.declared.found.Found.{Found}
use Rattle.nb_ship.specs.declared.found.Found.TheVariants.{Nothing, Broken, Applied, Next, Pending}
use Rattle.nb_ship.specs.declared.steps.Step.{Step}
use Rattle.nb_ship.specs.declared.steps.Step.TheVariants.{Copy, Apply, Discard}

-- The first step, by what was found, and by whether the primary's history names the backup of the next increment.
abbrev pub first_step : Found → (known : Bool) → Step
first_step Nothing known = Copy
first_step Broken known = Discard
first_step Applied known = Discard
first_step (Next guid) true = Apply
first_step (Next guid) false = Discard
first_step (Pending guid) known = Apply

-- all steps, in order
abbrev pub steps_from : Step → List Step
steps_from Copy = Copy ∷ Apply ∷ Discard ∷ []
steps_from Discard = Discard ∷ Copy ∷ Apply ∷ Discard ∷ []
steps_from Apply = Apply ∷ Discard ∷ Copy ∷ Apply ∷ Discard ∷ []

-- the GUID of the backup that the copy goes on from: the one that the standby has then
abbrev pub since : (guid : List ℕ) → Found → (known : Bool) → List ℕ
since guid (Next next) true = next
since guid (Pending pending) known = pending
since guid other known = guid

-- ---- the table

-- the row of what was found
abbrev pub row_of : Found → ℕ
row_of Nothing = 0
row_of Broken = 1
row_of Applied = 2
row_of (Next guid) = 3
row_of (Pending guid) = 4

-- the column of a backup that the history names, and of every other
abbrev pub column_of : (known : Bool) → ℕ
column_of true = 0
column_of false = 1

-- the steps, in the order of the numbers that stand for them
abbrev pub numbered : List Step
numbered = Copy ∷ Apply ∷ Discard ∷ []

-- the step that a cell stands for
abbrev pub step_at : ℕ → Step
step_at cell = slice_index_or numbered cell Discard

-- each cell of a table stands for the first step
abbrev pub AreTheSteps : List (List ℕ) → Type 0
AreTheSteps rows = (found : Found) (known : Bool) → step_at (cell rows (row_of found) (column_of known)) ≡ first_step found known
