use Rattle.std.proofs.Common.{sym, subst, None}
use Rattle.nb_ship.specs.Steps.{steps_from}
use Rattle.nb_ship.specs.declared.steps.Step.{Step}
use Rattle.nb_top.specs.Shipped.{TakesSteps}
use Rattle.nb_top.proofs.ship.take_steps.Goals as goal

pub returns-in-Copy-clause-takes : goal.returns-in-Copy-clause-takes
returns-in-Copy-clause-takes g c tells =
    subst (λ (s : Step). TakesSteps g.H.Host.world g.H.Host.tells c.args.primary.now c.args.standby.now c.args.plan.now.since (steps_from s) None c.from_copy.result c.args.host.now c.from_copy.new.host) (sym c.in-Copy.is) (c.from_copy.ensures.takes tells)

pub returns-in-Discard-clause-takes : goal.returns-in-Discard-clause-takes
returns-in-Discard-clause-takes g c tells =
    subst (λ (s : Step). TakesSteps g.H.Host.world g.H.Host.tells c.args.primary.now c.args.standby.now c.args.plan.now.since (steps_from s) None c.from_discard.result c.args.host.now c.from_discard.new.host) (sym c.in-Discard.is) (c.from_discard.ensures.takes tells)

pub returns-in-Apply-clause-takes : goal.returns-in-Apply-clause-takes
returns-in-Apply-clause-takes g c tells =
    subst (λ (s : Step). TakesSteps g.H.Host.world g.H.Host.tells c.args.primary.now c.args.standby.now c.args.plan.now.since (steps_from s) None c.from_merge.result c.args.host.now c.from_merge.new.host) (sym c.in-Apply.is) (c.from_merge.ensures.takes tells)
