use Rattle.std.proofs.Common.{◌≡◌, Ok, Err}
use Rattle.nb_top.proofs.Common.{Refused}
use Rattle.nb_top.proofs.LongNames.{database_short}
use Rattle.nb_top.proofs.ScriptRuns.{settled_refusal, settled_value}
use Rattle.nb_top.proofs.ShipSteps.{plan_goes, plan_refuses, plan_stops}
use Rattle.nb_top.proofs.ship.run_ship.Goals as goal

pub plan_ship-requires : goal.plan_ship-requires
plan_ship-requires g c = record { primary = database_short c.args.primary.now c.requires.primary; standby = database_short c.args.standby.now c.requires.standby }

pub returns-in_err-plan-clause-goes : goal.returns-in_err-plan-clause-goes
returns-in_err-plan-clause-goes g c tells =
    plan_stops g.H.Host.world g.H.Host.tells c.args.primary.now c.args.standby.now c.args.host.now c.plan_ship.new.host c.plan_ship.ensures.quiet c.plan_ship.result (c.plan_ship.ensures.plan tells) c.from_residual.result c.from_residual.ensures.0

pub returns-in-Ok-clause-goes : goal.returns-in-Ok-clause-goes
returns-in-Ok-clause-goes g c tells =
    let is = settled_value c.in_ok-plan.field-0 c.in-Ok.plan (λ value. c.plan_ship.result ≡ Ok value) c.in-Ok.is c.in_ok-plan.ensures.value in
    plan_goes g.H.Host.world g.H.Host.tells c.args.primary.now c.args.standby.now c.args.host.now c.plan_ship.new.host c.plan_ship.ensures.quiet c.plan_ship.result (c.plan_ship.ensures.plan tells) c.in-Ok.plan is
    c.take_steps.result c.take_steps.new.host (c.take_steps.ensures.takes tells)

pub returns-in-Err-clause-goes : goal.returns-in-Err-clause-goes
returns-in-Err-clause-goes g c tells =
    let is = settled_refusal c.in_ok-plan.field-0 c.in-Err.refusal (λ r. c.plan_ship.result ≡ Err (Refused r)) c.in-Err.is c.in_ok-plan.ensures.refusal in
    plan_refuses g.H.Host.world g.H.Host.tells c.args.primary.now c.args.standby.now c.args.host.now c.plan_ship.new.host c.plan_ship.ensures.quiet c.plan_ship.result (c.plan_ship.ensures.plan tells) c.in-Err.refusal is
    c.refuse.result c.refuse.new.host (record { line = c.refuse.ensures.line tells; ended = c.refuse.ensures.ok })
