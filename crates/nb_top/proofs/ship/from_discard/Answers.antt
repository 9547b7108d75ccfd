use Rattle.std.proofs.Common.{None}
use Rattle.nb_ship.specs.Steps.{steps_from}
use Rattle.nb_ship.specs.declared.steps.Step.TheVariants.{Copy}
use Rattle.nb_top.proofs.LongNames.{database_short}
use Rattle.nb_top.proofs.ShipSteps.{discard_goes, discard_stops, gone_ship, removes_ship, stopped_by}
use Rattle.nb_top.proofs.ship.from_discard.Goals as goal

pub ship_name-requires : goal.ship_name-requires
ship_name-requires g c = database_short c.args.standby.now c.requires.standby

pub returns-in_err-discard-clause-takes : goal.returns-in_err-discard-clause-takes
returns-in_err-discard-clause-takes g c tells =
    discard_stops g.H.Host.world g.H.Host.tells c.args.primary.now c.args.standby.now c.args.since.now (steps_from Copy) None c.from_residual.result c.args.host.now c.discard.new.host
    (stopped_by c.from_residual.result _ c.from_residual.ensures)
    (removes_ship g.H.Host.world g.H.Host.tells c.args.standby.now c.ship_name.result c.ship_name.ensures c.args.host.now c.discard.new.host (c.discard.ensures.removes tells))

pub returns-clause-takes : goal.returns-clause-takes
returns-clause-takes g c tells =
    discard_goes g.H.Host.world g.H.Host.tells c.args.primary.now c.args.standby.now c.args.since.now (steps_from Copy) None c.from_copy.result c.args.host.now c.discard.new.host c.from_copy.new.host
    (removes_ship g.H.Host.world g.H.Host.tells c.args.standby.now c.ship_name.result c.ship_name.ensures c.args.host.now c.discard.new.host (c.discard.ensures.removes tells))
    (gone_ship g.H.Host.world g.H.Host.tells c.args.standby.now c.ship_name.result c.ship_name.ensures c.discard.new.host (c.in_ok-discard.ensures.gone tells))
    (c.from_copy.ensures.takes tells)
