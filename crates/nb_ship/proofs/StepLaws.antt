-- Each first step is one for which there is a reason in the files.
use Rattle.std.proofs.Common.{inl, inr, ℕ, List, refl, sym, ◌∙◌, Bool, true, false}
use Rattle.nb_ship.proofs.Common.{Files, Found, Nothing, Broken, Applied, Next, Pending, Finds, IsFor}
use Rattle.nb_ship.specs.Steps.{first_step}

pub step_is_for : (files : Files) (standby bytes : List ℕ) (known : Bool) (found : Found) → Finds files standby bytes found → IsFor files standby bytes known (first_step found known)
step_is_for files standby bytes known Nothing finds = finds
step_is_for files standby bytes known Broken (ready, none) = (ready, inl none)
step_is_for files standby bytes known Applied (ready, has) = (ready, inr (inl has))
step_is_for files standby bytes true (Next guid) (ready, next) = record { contents = next.contents; read = next.level.read; goes_on = next.goes_on; why = inr (ready, refl) }
step_is_for files standby bytes false (Next guid) (ready, next) = (ready, inr (inr (guid, next, refl)))
step_is_for files standby bytes known (Pending guid) (begun, h) = record { contents = h.contents; read = h.read; goes_on = h.goes_on; why = inl (begun.is, h.pending ∙ sym h.named) }
