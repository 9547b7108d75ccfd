-- The world of a host that tells nothing.
use Rattle.std.specs.Prelude.{◌⊎◌, [], None, false, IsTrue}
use Rattle.std.proofs.lemmas.Bool.{false≢true}
use mathlib.Core.Logic.{inl, inr}
use Rattle.nb_host.specs.World.{World}
use Rattle.nb_host.specs.Moments.{IsTimely}

-- no file, no output, and nothing that a crash may leave
abbrev pub silence : World
silence = record { files = λ _. None; said = []; reads = 0; guids = []; times = []; back = λ _ _. ⊥; now = λ _ _. ⊥; moment = 0; left_since = λ _ _ _. ⊥ }

neither : {P : Type 0} → ⊥ ⊎ ⊥ → P
neither (inl none) = absurd none
neither (inr none) = absurd none

-- no moment counts in it, since nothing is left at any
pub silence_timely : IsTimely silence
silence_timely = record { counts_now = λ t files le left. neither (left []); only_now = λ files said left. absurd left }

-- it tells nothing, so whatever is claimed where it tells is so
pub untold : {P : Type 0} → IsTrue false → P
untold told = absurd (false≢true told)
