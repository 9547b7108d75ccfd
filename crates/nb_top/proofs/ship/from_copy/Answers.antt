use Rattle.std.proofs.Common.{[], ◌∷◌, sym, ap, subst, ◌∙◌, None, Ok, Err}
use Rattle.nb_top.proofs.Common.{Status, is_file}
use Rattle.nb_ship.specs.Names.{ship_of}
use Rattle.nb_ship.specs.declared.steps.Step.TheVariants.{Apply, Discard}
use Rattle.nb_top.specs.Done.{GoesOn}
use Rattle.nb_top.specs.Shipped.{copying}
use Rattle.nb_top.proofs.LongNames.{database_short, ship_file}
use Rattle.nb_top.proofs.ShipSteps.{copied_ship, copy_goes, copy_refused, copy_stops, stopped_by}
use Rattle.nb_top.proofs.ship.from_copy.Goals as goal

pub ship_name-requires : goal.ship_name-requires
ship_name-requires g c = database_short c.args.standby.now c.requires.standby

pub copy-requires-clause-ship : goal.copy-requires-clause-ship
copy-requires-clause-ship g c = ap is_file c.ship_name.ensures ∙ ship_file c.args.standby.now c.requires.standby

pub returns-in_err-copy-clause-takes : goal.returns-in_err-copy-clause-takes
returns-in_err-copy-clause-takes g c tells =
    let stop = c.in_err-copy.field-0.0 in
    copy_stops g.H.Host.world g.H.Host.tells c.args.primary.now c.args.standby.now c.args.since.now (Apply ∷ Discard ∷ []) None stop c.from_residual.result c.args.host.now c.copy.new.host (stopped_by c.from_residual.result stop c.from_residual.ensures)
    (copied_ship g.H.Host.world g.H.Host.tells c.args.standby.now c.ship_name.result c.ship_name.ensures c.args.primary.now c.args.since.now (Err stop) c.args.host.now c.copy.new.host c.in_err-copy.ensures.goes)

pub returns-in-Done-clause-takes : goal.returns-in-Done-clause-takes
returns-in-Done-clause-takes g c tells =
    let copies = copying c.args.primary.now c.args.since.now c.ship_name.result in
    copy_goes g.H.Host.world g.H.Host.tells c.args.primary.now c.args.standby.now c.args.since.now (Apply ∷ Discard ∷ []) None c.merge_last.result c.args.host.now c.copy.new.host c.merge_last.new.host
    (copied_ship g.H.Host.world g.H.Host.tells c.args.standby.now c.ship_name.result c.ship_name.ensures c.args.primary.now c.args.since.now _ c.args.host.now c.copy.new.host
    (subst (λ (s : Status). GoesOn g.H.Host.world g.H.Host.tells (Ok s) c.args.host.now c.copy.new.host copies) c.in-Done.is c.in_ok-copy.ensures.goes))
    (c.merge_last.ensures.takes c.args.primary.now c.args.since.now tells)

pub returns-in-Refused-clause-takes : goal.returns-in-Refused-clause-takes
returns-in-Refused-clause-takes g c tells =
    let copies = copying c.args.primary.now c.args.since.now c.ship_name.result in
    copy_refused g.H.Host.world g.H.Host.tells c.args.primary.now c.args.standby.now c.args.since.now (Apply ∷ Discard ∷ []) None c.args.host.now c.copy.new.host
    (copied_ship g.H.Host.world g.H.Host.tells c.args.standby.now c.ship_name.result c.ship_name.ensures c.args.primary.now c.args.since.now _ c.args.host.now c.copy.new.host
    (subst (λ (s : Status). GoesOn g.H.Host.world g.H.Host.tells (Ok s) c.args.host.now c.copy.new.host copies) c.in-Refused.is c.in_ok-copy.ensures.goes))
