-- How the program ends.
use Rattle.std.proofs.Common.{inl, refl, arith, Bool, Option}
use Rattle.nb_cli.proofs.Common.{Asked, EndsRun}
use Rattle.nb_host.specs.World.{World}
use Rattle.nb_ended.specs.declared.broken.Broken.{Broken}
use Rattle.nb_ended.specs.declared.status.Status.{Status}
use Rattle.nb_ended.specs.declared.status.Status.TheVariants.{Device}
use Rattle.nb_top.specs.Shown.{IsShown}
use Rattle.nb_top.specs.Goes.{IsRun}

-- nothing is written after the run
pub ends_at_once : {H : Type 0} (tells : Bool) (world : H → World) (status : Status) (old new : H) (asked : Asked) → IsRun world tells status old new asked → EndsRun tells world status old new asked
ends_at_once tells world status old new asked run = record {
  ran = status;
  behind = new;
  run = run;
  still = record { files = refl; left = record { back = λ m file is b. b; now = λ m file is n. n } };
  silent = record { said = refl; reads = refl; guids = refl; times = refl };
  passes = record { later = omega arith; nothing_else = λ t files said le left. inl left; keeps = λ t files said le left. left };
  ended = inl refl;
}

-- a line that was shown is shown still where what waited couldn't be written
pub shown_device : (ran : Status) (broken : Option Broken) (asked : Asked) → IsShown ran broken asked → IsShown Device broken asked
shown_device ran broken asked shown = record { right = shown.right; exact = λ not_device not_memory. absurd (not_device refl) }
