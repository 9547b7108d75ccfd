-- A call that looks at an open database and changes nothing of it.
use Rattle.std.specs.Prelude.{◌≡◌, IsTrue, Bool}
use Rattle.nb_host.specs.World.{World}
use Rattle.nb_page.specs.Quiet.{Quiet}
use Rattle.nb_model.specs.Trail.{Trail}
use Rattle.nb_state.specs.Open.{Held, IsOpen, but_pages}

-- What was open stays open, all but which pages are in memory is as it was, and the call is quiet. `tells` is whether the host tells what its files hold.
pub record Looks (tells : Bool) (old new : World) (before after : Held) : Type 0 where
  pub opened : (t : Trail) → IsTrue tells → IsOpen old before t → IsOpen new after t
  pub same : but_pages after ≡ but_pages before
  pub quiet : Quiet old new
