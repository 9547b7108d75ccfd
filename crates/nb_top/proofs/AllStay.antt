-- Whatever words ask for leaves other files alone.
use Rattle.std.proofs.Common.{ℕ, List, sym, subst, Bool, IsTrue}
use Rattle.nb_top.proofs.Common.{World, LeavesAll, IsTimely, Status, Asked, Does, KnowsAsked, Runs, Ships, request_asked, OfAsked, OfShip, TouchesOnly}
use Rattle.nb_top.specs.Goes.{IsRun}
use Rattle.nb_top.proofs.KnownLaws.{account_told, told_known}
use Rattle.nb_top.proofs.OthersStay.{done_touches}
use Rattle.nb_top.proofs.RequestLaws.{CanBeMet, can_be_asked}
use Rattle.nb_top.proofs.ShipOthers.{ship_touches}

pub others_stay : {H : Type 0} (world : H → World) (tells : Bool) → IsTrue tells → ((host : H) → IsTimely (world host)) → ((host : H) → LeavesAll (world host) (world host).files) → (status : Status) (old new : H) (words : List (List ℕ))
    → IsRun world tells status old new (request_asked (world old).files words) → TouchesOnly status (world old) (world new) (OfAsked (world old).files (request_asked (world old).files words))
others_stay world tells told timely beside status old new words run = by (request_asked (world old).files words) (can_be_asked (world old).files words) (told_known (world old).files words) run
  where
    by : (asked : Asked) → CanBeMet asked → KnowsAsked (world old).files (account_told (world old).files) asked → IsRun world tells status old new asked → TouchesOnly status (world old) (world new) (OfAsked (world old).files asked)
    by (Runs asked) can knows run = done_touches world tells told status old new (timely new) (beside new) (Runs asked) tt knows run
    by (Does deed) can knows run = done_touches world tells told status old new (timely new) (beside new) (Does deed) tt knows run
    by (Ships primary standby) can knows ends =
        subst (λ (s : Status). TouchesOnly s (world old) (world new) (OfShip primary standby)) (sym ends.ended) (ship_touches world tells told timely beside primary standby can.0 can.1 ends.result old new (ends.goes told))
