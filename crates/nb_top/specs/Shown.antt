-- The line that is shown of a script which breaks its form.
use Rattle.std.specs.Prelude.{◌≡◌, ◌≢◌, ℕ, Option, None, Some, Result, Ok, Err}
use Rattle.nb_host.specs.declared.refusals.Refusal.TheVariants.{BadScript}
use Rattle.nb_host.specs.declared.faults.RunError.{RunError}
use Rattle.nb_ended.specs.declared.broken.Broken.{Broken}
use Rattle.nb_ended.specs.declared.status.Status.{Status}
use Rattle.nb_ended.specs.declared.status.Status.TheVariants.{Device, Memory}
use Rattle.nb_top.specs.Requests.{Asked, Runs}

-- what is asked for is refused for this line
abbrev pub IsRefusedFor : Broken → Asked → Type 0
IsRefusedFor broken asked = asked ≡ Runs (Err (BadScript broken.line))

-- the line is the one that it is refused for; none, where it isn't refused for a line
abbrev pub BreaksAt : Option Broken → Asked → Type 0
BreaksAt None asked = (line : ℕ) → asked ≢ Runs (Err (BadScript line))
BreaksAt (Some broken) asked = IsRefusedFor broken asked

-- a line that is shown is one that it is refused for
abbrev pub IfShown : Option Broken → Asked → Type 0
IfShown None asked = Unit {0}
IfShown (Some broken) asked = IsRefusedFor broken asked

-- what is shown, within a run
abbrev pub IsShownOf : Result Status RunError → Option Broken → Asked → Type 0
IsShownOf (Ok status) broken asked = BreaksAt broken asked
IsShownOf (Err stop) broken asked = IfShown broken asked

-- and after one that ends so
pub record IsShown (status : Status) (broken : Option Broken) (asked : Asked) : Type 0 where
  pub right : IfShown broken asked
  pub exact : status ≢ Device → status ≢ Memory → BreaksAt broken asked
