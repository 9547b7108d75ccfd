use Rattle.std.proofs.Common.{◌≢◌, ◌≡◌, ℕ, List, sym, subst, None, Some, Ok, Err}
use Rattle.nb_top.proofs.Common.{Refused}
use Rattle.nb_ship.specs.Steps.{steps_from}
use Rattle.nb_ship.specs.declared.steps.Step.TheVariants.{Discard}
use Rattle.nb_top.proofs.LongNames.{database_short, ship_apart}
use Rattle.nb_top.proofs.ScriptRuns.{settled_refusal, settled_value}
use Rattle.nb_top.proofs.ShipSteps.{merge_goes, merge_refuses, merge_stops, served_ship}
use Rattle.nb_top.proofs.ship.from_merge.Goals as goal

pub ship_name-ship-requires : goal.ship_name-ship-requires
ship_name-ship-requires g c = database_short c.args.standby.now c.requires.standby

pub merge-requires : goal.merge-requires
merge-requires g c = subst (λ (n : List ℕ). n ≢ c.args.standby.now) (sym c.ship_name-ship.ensures) (ship_apart c.args.standby.now)

pub returns-in_err-_reply-clause-takes : goal.returns-in_err-_reply-clause-takes
returns-in_err-_reply-clause-takes g c tells =
    merge_stops g.H.Host.world g.H.Host.tells c.args.primary.now c.args.standby.now c.args.since.now (steps_from Discard) None c.merge.result c.from_residual.result c.args.host.now c.merge.new.host c.from_residual.ensures.0
    (served_ship g.H.Host.world g.H.Host.tells c.args.standby.now c.ship_name-ship.result c.ship_name-ship.ensures c.merge.result c.args.host.now c.merge.new.host (c.merge.ensures.serves tells))

pub returns-in-Ok-clause-takes : goal.returns-in-Ok-clause-takes
returns-in-Ok-clause-takes g c tells =
    let reply = c.in-Ok._reply in
    let is = settled_value c.in_ok-_reply.field-0 reply (λ value. c.merge.result ≡ Ok value) c.in-Ok.is c.in_ok-_reply.ensures.value in
    merge_goes g.H.Host.world g.H.Host.tells c.args.primary.now c.args.standby.now c.args.since.now (steps_from Discard) None c.merge.result reply is c.from_discard.result c.args.host.now c.merge.new.host c.from_discard.new.host
    (served_ship g.H.Host.world g.H.Host.tells c.args.standby.now c.ship_name-ship.result c.ship_name-ship.ensures c.merge.result c.args.host.now c.merge.new.host (c.merge.ensures.serves tells))
    (c.from_discard.ensures.takes tells)

pub returns-in-Err-clause-takes : goal.returns-in-Err-clause-takes
returns-in-Err-clause-takes g c tells =
    let is = settled_refusal c.in_ok-_reply.field-0 c.in-Err.refusal (λ r. c.merge.result ≡ Err (Refused r)) c.in-Err.is c.in_ok-_reply.ensures.refusal in
    merge_refuses g.H.Host.world g.H.Host.tells c.args.primary.now c.args.standby.now c.args.since.now (steps_from Discard) None c.merge.result c.in-Err.refusal is c.refuse.result c.args.host.now c.merge.new.host c.refuse.new.host
    (served_ship g.H.Host.world g.H.Host.tells c.args.standby.now c.ship_name-ship.result c.ship_name-ship.ensures c.merge.result c.args.host.now c.merge.new.host (c.merge.ensures.serves tells))
    (record { line = c.refuse.ensures.line tells; ended = c.refuse.ensures.ok })
