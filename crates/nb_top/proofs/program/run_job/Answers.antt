use Rattle.std.proofs.Common.{subst}
use Rattle.nb_top.proofs.Common.{FitsJob}
use Rattle.nb_top.proofs.RequestLaws.{attach_askable}
use Rattle.nb_top.proofs.ShownLaws.{deed_unbroken, goes_as, run_unbroken, ship_unbroken, shown_as, unshown}
use Rattle.nb_top.proofs.DangerLaws.{attach_danger, other_danger}
use Rattle.nb_top.proofs.program.run_job.Goals as goal

pub run_asking-requires : goal.run_asking-requires
run_asking-requires g c =
    let fits = subst FitsJob c.in-Attach.is c.requires.fits in
    record { askable = attach_askable c.in-Attach.db c.in-Attach.ask fits.0 fits.1 }

pub run_turn-requires : goal.run_turn-requires
run_turn-requires g c = subst FitsJob c.in-Turn.is c.requires.fits

pub returns-in-Run-clause-goes : goal.returns-in-Run-clause-goes
returns-in-Run-clause-goes g c = goes_as c.run_file.result (g.H.Host.world c.args.host.now).files c.args.job.now _ c.in-Run.is g.H.Host.world g.H.Host.tells c.args.host.now c.run_file.new.host c.run_file.ensures.goes

pub returns-in-Run-clause-shown : goal.returns-in-Run-clause-shown
returns-in-Run-clause-shown g c tells = shown_as c.run_file.result (g.H.Host.world c.args.host.now).files c.args.job.now _ c.in-Run.is c.run_file.new.broken (c.run_file.ensures.shown tells)

pub returns-in-Gen-clause-goes : goal.returns-in-Gen-clause-goes
returns-in-Gen-clause-goes g c = goes_as c.run_generated.result (g.H.Host.world c.args.host.now).files c.args.job.now _ c.in-Gen.is g.H.Host.world g.H.Host.tells c.args.host.now c.run_generated.new.host c.run_generated.ensures.goes

pub returns-in-Gen-clause-shown : goal.returns-in-Gen-clause-shown
returns-in-Gen-clause-shown g c tells = shown_as c.run_generated.result (g.H.Host.world c.args.host.now).files c.args.job.now _ c.in-Gen.is c.args.broken.now (unshown c.run_generated.result c.args.broken.now _ c.requires.none (run_unbroken _))

pub returns-in-Attach-clause-goes : goal.returns-in-Attach-clause-goes
returns-in-Attach-clause-goes g c = goes_as c.run_asking.result (g.H.Host.world c.args.host.now).files c.args.job.now _ c.in-Attach.is g.H.Host.world g.H.Host.tells c.args.host.now c.run_asking.new.host c.run_asking.ensures.goes

pub returns-in-Attach-clause-shown : goal.returns-in-Attach-clause-shown
returns-in-Attach-clause-shown g c tells = shown_as c.run_asking.result (g.H.Host.world c.args.host.now).files c.args.job.now _ c.in-Attach.is c.args.broken.now (unshown c.run_asking.result c.args.broken.now _ c.requires.none (run_unbroken _))

pub returns-in-Turn-clause-goes : goal.returns-in-Turn-clause-goes
returns-in-Turn-clause-goes g c = goes_as c.run_turn.result (g.H.Host.world c.args.host.now).files c.args.job.now _ c.in-Turn.is g.H.Host.world g.H.Host.tells c.args.host.now c.run_turn.new.host c.run_turn.ensures.goes

pub returns-in-Turn-clause-shown : goal.returns-in-Turn-clause-shown
returns-in-Turn-clause-shown g c tells = shown_as c.run_turn.result (g.H.Host.world c.args.host.now).files c.args.job.now _ c.in-Turn.is c.args.broken.now (unshown c.run_turn.result c.args.broken.now _ c.requires.none (deed_unbroken _))

pub returns-in-Plan-clause-goes : goal.returns-in-Plan-clause-goes
returns-in-Plan-clause-goes g c = goes_as c.plan_list.result (g.H.Host.world c.args.host.now).files c.args.job.now _ c.in-Plan.is g.H.Host.world g.H.Host.tells c.args.host.now c.plan_list.new.host c.plan_list.ensures.goes

pub returns-in-Plan-clause-shown : goal.returns-in-Plan-clause-shown
returns-in-Plan-clause-shown g c tells = shown_as c.plan_list.result (g.H.Host.world c.args.host.now).files c.args.job.now _ c.in-Plan.is c.plan_list.new.broken (c.plan_list.ensures.shown tells)

pub run_ship-requires : goal.run_ship-requires
run_ship-requires g c =
    let fits = subst FitsJob c.in-Ship.is c.requires.fits in
    record { primary = fits.0; standby = fits.1 }

pub returns-in-Ship-clause-goes : goal.returns-in-Ship-clause-goes
returns-in-Ship-clause-goes g c = goes_as c.run_ship.result (g.H.Host.world c.args.host.now).files c.args.job.now _ c.in-Ship.is g.H.Host.world g.H.Host.tells c.args.host.now c.run_ship.new.host c.run_ship.ensures.goes

pub returns-in-Ship-clause-shown : goal.returns-in-Ship-clause-shown
returns-in-Ship-clause-shown g c tells = shown_as c.run_ship.result (g.H.Host.world c.args.host.now).files c.args.job.now _ c.in-Ship.is c.args.broken.now (unshown c.run_ship.result c.args.broken.now _ c.requires.none (ship_unbroken _ _))

pub returns-in-Run-clause-danger : goal.returns-in-Run-clause-danger
returns-in-Run-clause-danger g c tells = other_danger c.args.danger.now (g.H.Host.world c.args.host.now).files c.run_file.result c.args.job.now (λ db same. cc (c.in-Run.is, same))

pub returns-in-Gen-clause-danger : goal.returns-in-Gen-clause-danger
returns-in-Gen-clause-danger g c tells = other_danger c.args.danger.now (g.H.Host.world c.args.host.now).files c.run_generated.result c.args.job.now (λ db same. cc (c.in-Gen.is, same))

pub returns-in-Turn-clause-danger : goal.returns-in-Turn-clause-danger
returns-in-Turn-clause-danger g c tells = other_danger c.args.danger.now (g.H.Host.world c.args.host.now).files c.run_turn.result c.args.job.now (λ db same. cc (c.in-Turn.is, same))

pub returns-in-Plan-clause-danger : goal.returns-in-Plan-clause-danger
returns-in-Plan-clause-danger g c tells = other_danger c.args.danger.now (g.H.Host.world c.args.host.now).files c.plan_list.result c.args.job.now (λ db same. cc (c.in-Plan.is, same))

pub returns-in-Attach-clause-danger : goal.returns-in-Attach-clause-danger
returns-in-Attach-clause-danger g c tells = attach_danger c.run_asking.new.danger (g.H.Host.world c.args.host.now).files c.run_asking.result c.args.job.now c.in-Attach.db c.in-Attach.ask c.in-Attach.is (c.run_asking.ensures.danger tells)

pub returns-in-Ship-clause-danger : goal.returns-in-Ship-clause-danger
returns-in-Ship-clause-danger g c tells = other_danger c.args.danger.now (g.H.Host.world c.args.host.now).files c.run_ship.result c.args.job.now (λ db same. cc (c.in-Ship.is, same))
