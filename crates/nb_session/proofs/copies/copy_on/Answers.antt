use Rattle.std.proofs.Common.{arith, refl, subst, Ok, Err}
use Rattle.nb_copy.specs.Turns.{CopyCounts}
use Rattle.nb_session.proofs.ShortLaws.{device_sure}
use Rattle.nb_session.proofs.Common.{CopiesFile, Copying, Copy, Progress}
use Rattle.nb_session.proofs.CopyLaws.{copy_failed, copy_page, copy_last, copy_unlined}
use Rattle.nb_session.proofs.TurnLaws.{last_falls, last_fits}
use Rattle.nb_session.proofs.copies.copy_on.Goals as goal

pub returns-in_err-turn-clause-turn : goal.returns-in_err-turn-clause-turn
returns-in_err-turn-clause-turn g c now t more tells ready makes here goes =
    let copy : Copying = c.args.copier.now in
    copy_failed c.args.told (g.H.Host.world c.args.host.now) (g.H.Host.world c.turn.new.host) c.args.engine.now c.turn.new.engine t now c.args.session copy c.turn.new.self more ready makes here goes
    (g.met.H.Host.reads_left c.args.host.now tells copy.name) (g.met.H.Host.reads_left c.turn.new.host tells) c.in_err-turn.field-0.0 (λ stalled apart. c.in_err-turn.ensures.turn t tells ready.opened stalled goes.0 apart)
    c.from_residual.result c.from_residual.ensures.0 (device_sure c.from_residual.result c.from_residual.ensures.1)

pub returns-in-More-clause-turn : goal.returns-in-More-clause-turn
returns-in-More-clause-turn g c now t more tells ready makes here goes =
    let copy : Copying = c.args.copier.now in
    copy_page c.args.told (g.H.Host.world c.args.host.now) (g.H.Host.world c.turn.new.host) c.args.engine.now c.turn.new.engine t now c.args.session copy c.turn.new.self more ready makes here goes
    (g.met.H.Host.reads_left c.args.host.now tells copy.name) (g.met.H.Host.reads_left c.turn.new.host tells) c.in_ok-turn.field-0 c.in-More.is (λ stalled apart. c.in_ok-turn.ensures.turn t tells ready.opened stalled goes.0 apart)
    c.in_ok-turn.ensures.counts

pub returns-in_err-line-in-Finished-clause-turn : goal.returns-in_err-line-in-Finished-clause-turn
returns-in_err-line-in-Finished-clause-turn g c now t more tells ready makes here goes =
    let copy : Copying = c.args.copier.now in
    let old = g.H.Host.world c.args.host.now in
    let mid = g.H.Host.world c.turn.new.host in
    let reads = g.met.H.Host.reads_left c.args.host.now tells copy.name in
    copy_unlined c.args.told old mid c.args.engine.now c.turn.new.engine t now c.args.session copy c.turn.new.self more ready makes here goes reads (g.met.H.Host.reads_left c.turn.new.host tells)
    (λ stalled apart. subst (λ (p : Progress). CopiesFile (Ok p) old mid c.args.engine.now c.turn.new.engine copy c.turn.new.self t) c.in-Finished.is (c.in_ok-turn.ensures.turn t tells ready.opened stalled goes.0 apart))
    (subst (λ (p : Progress). CopyCounts (Ok p) copy c.turn.new.self) c.in-Finished.is c.in_ok-turn.ensures.counts) c.written-pages.result c.written-pages.ensures c.stop_running.new.engine c.stop_running.ensures.own
    c.from_residual-in_err-line-in-Finished.result c.from_residual-in_err-line-in-Finished.ensures.0

pub returns-in_ok-line-in-Finished-clause-turn : goal.returns-in_ok-line-in-Finished-clause-turn
returns-in_ok-line-in-Finished-clause-turn g c now t more tells ready makes here goes =
    let copy : Copying = c.args.copier.now in
    let old = g.H.Host.world c.args.host.now in
    let mid = g.H.Host.world c.turn.new.host in
    let reads = g.met.H.Host.reads_left c.args.host.now tells copy.name in
    copy_last c.args.told old mid c.args.engine.now c.turn.new.engine t now c.args.session copy c.turn.new.self more ready makes here goes reads (g.met.H.Host.reads_left c.turn.new.host tells)
    (λ stalled apart. subst (λ (p : Progress). CopiesFile (Ok p) old mid c.args.engine.now c.turn.new.engine copy c.turn.new.self t) c.in-Finished.is (c.in_ok-turn.ensures.turn t tells ready.opened stalled goes.0 apart))
    (subst (λ (p : Progress). CopyCounts (Ok p) copy c.turn.new.self) c.in-Finished.is c.in_ok-turn.ensures.counts) c.written-pages.result c.written-pages.ensures c.stop_running.new.engine c.stop_running.ensures.own
    (g.H.Host.world c.tell_last.new.host) c.tell_last.result c.tell_last.ensures.left (c.tell_last.ensures.line tells) (c.tell_last.ensures.brief refl)

pub returns-in_ok-line-in-Finished-clause-falls : goal.returns-in_ok-line-in-Finished-clause-falls
returns-in_ok-line-in-Finished-clause-falls g c = last_falls c.tell_last.result c.tell_last.ensures.left _ (Copy c.args.copier.now) (omega arith)

pub returns-in_ok-line-in-Finished-clause-fits : goal.returns-in_ok-line-in-Finished-clause-fits
returns-in_ok-line-in-Finished-clause-fits g c = last_fits c.tell_last.result c.tell_last.ensures.left _ c.args.session c.stop_running.new.engine
