-- What is done of what is asked for, in one record for all functions that do it.
use Rattle.std.specs.Prelude.{ℕ, List, Bool, IsTrue, Result, Ok}
use Rattle.nb_host.specs.World.{World}
use Rattle.nb_host.specs.declared.faults.RunError.{RunError}
use Rattle.nb_model.specs.Account.{Account}
use Rattle.nb_model.specs.Gifts.{Foretells}
use Rattle.nb_model.specs.Outcomes.{Given}
use Rattle.nb_session.specs.Acts.{Grows}
use Rattle.nb_ended.specs.declared.status.Status.{Status}
use Rattle.nb_top.specs.ByTurns.{AskedByTurns, ending_by}
use Rattle.nb_top.specs.Performed.{GoesTo, KnowsAsked, MayBeGiven, Performs}
use Rattle.nb_top.specs.Requests.{Asked}

-- It was done: what is said of all of it, and of each turn.
pub record IsDone {H : Type 0} (world : H → World) (result : Result Status RunError) (old new : H) (asked : Asked) (account : Account) (given : Given) (done : Type 0) : Type 0 where
  pub whole : done
  pub turns : AskedByTurns world (ending_by result) old new asked account given

-- It was done, up to its end or to what stopped it.
pub record DoesAsked {H : Type 0} (world : H → World) (tells : Bool) (result : Result Status RunError) (old new : H) (asked : Asked) (done : Account → Given → Type 0) : Type 0 where
  -- Where an account knows what the files tell, and whatever GUIDs of 16 bytes and times may still be given. The numbers of pages in memory
  -- that were shown are the same for every account.
  pub does : IsTrue tells → (shown : List ℕ) × ((account : Account) (given : Given) → KnowsAsked (world old).files account asked → MayBeGiven given → Foretells given shown (world old) (world new)
      → IsDone world result old new asked account given (done account given))
  -- there are such GUIDs and times
  pub grows : (account : Account) → IsTrue tells → KnowsAsked (world old).files account asked → Grows (world old) (world new)

-- what is done of it within a run
abbrev pub GoesOn : {H : Type 0} → (world : H → World) → (tells : Bool) → (result : Result Status RunError) → (old new : H) → Asked → Type 0
GoesOn world tells result old new asked = DoesAsked world tells result old new asked (GoesTo result (world old) (world new) asked)

-- and in a run that ends so
abbrev pub EndsSo : {H : Type 0} → (world : H → World) → (tells : Bool) → (status : Status) → (old new : H) → Asked → Type 0
EndsSo world tells status old new asked = DoesAsked world tells (Ok status) old new asked (Performs status (world old) (world new) asked)
