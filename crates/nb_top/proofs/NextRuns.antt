-- The next run may begin after one, however it ended.
use Rattle.std.proofs.Common.{◌≡◌, List, take, sym, subst, Option, None, Some, Result, Contains, false}
use Rattle.nb_top.proofs.Common.{Contains-append_left, World, Refusal, Kept, Account, Given, Step, steps_of, strokes_in, base_in, records_after, Status, DoesTurn, OneTurn, leaves_all, IsSure, PerformsRun, Target, kept_after, target_of, Request, NextMayBegin, StandsFor}

-- no record of before is lost
still_kept : (account : Account) (target : Option Target) (steps : List Step) (r : Kept) → Contains account.kept r → Contains (kept_after account target steps) r
still_kept account None steps r there = there
still_kept account (Some target) steps r there = Contains-append_left account.kept (records_after (base_in (account.entry target.name)) (strokes_in steps)) r there

-- after a run
pub next_run : (status : Status) (old new : World) (asked : Result Request Refusal) (account : Account) (given : Given) (performs : PerformsRun status old new asked account given) → IsSure old account performs.events → NextMayBegin new account
next_run status old new asked account given performs sure =
    let after = performs.after sure in
    record { later = after.later; stands = after.stands; kept = λ r there. subst (λ (rs : List Kept). Contains rs r) (sym after.kept) (still_kept account (target_of asked performs.events) (take after.count (steps_of performs.events)) r there) }

-- and after a job of one turn
pub next_turn : (status : Status) (old new : World) (job : OneTurn) (account : Account) → DoesTurn status old new job account → StandsFor old account → (leaves_all (job.turn account) ≡ false → job.takes account.kept) → NextMayBegin new account
next_turn status old new job account does stands takes =
    let after = (does.stands stands takes).after in
    record { later = after.0; stands = after.1; kept = λ r there. subst (λ (rs : List Kept). Contains rs r) (sym after.2) there }
