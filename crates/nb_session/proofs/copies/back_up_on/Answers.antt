use Rattle.std.proofs.Common.{◌≡◌, refl, sym, ap, subst, Ok, Err}
use Rattle.nb_session.proofs.ShortLaws.{ran_same}
use Rattle.nb_session.proofs.Common.{Level, Progress, file_written, Backed, Taken}
use Rattle.nb_session.proofs.BackupLaws.{seen_with, backup_more, backup_closed, backup_lost}
use Rattle.nb_session.proofs.StepLaws.{counts_as, counts_handed}
use Rattle.nb_session.proofs.copies.back_up_on.Goals as goal

pub returns-in-Ok-More-clause-turn : goal.returns-in-Ok-More-clause-turn
returns-in-Ok-More-clause-turn g c how now t more tells ready makes here goes =
    let of = c.in-Ok-More.ensures in
    let copier : Backed = c.args.copier.now in
    backup_more how (g.H.Host.world c.args.host.now) (g.H.Host.world c.turn.new.host) c.args.engine.now c.turn.new.engine t now c.args.session copier c.turn.new.self more ready makes here goes of.goes
    (g.met.H.Host.reads_left c.args.host.now tells copier.backing.name) (g.met.H.Host.reads_left c.turn.new.host tells) c.in-Ok-More.field-0 c.in-Ok-More.field-0-is
    (λ given may most. of.turn (seen_with now given) t tells ready.base ready.opened may.stalled may.entry goes.0 may.below may.apart most) (λ may. of.asks t tells ready.opened may.stalled goes.0 may.apart)
    of.counts (ap (λ (x : Backed). x.backing) of.same)

pub returns-in-Ok-Finished-clause-turn : goal.returns-in-Ok-Finished-clause-turn
returns-in-Ok-Finished-clause-turn g c how now t more tells ready makes here goes =
    let of = c.in-Ok-Finished.ensures in
    let copier : Backed = c.args.copier.now in
    let later : Backed = c.turn.new.self in
    let says : Level c.level.result c.scn.result c.written.result c.guid.result ≡ Level later.backing.ask.level later.backing.scn (file_written later.file) later.backing.guid = rw (c.level.ensures.value, c.scn.ensures, c.written.ensures, c.guid.ensures) refl in
    backup_closed how (g.H.Host.world c.args.host.now) (g.H.Host.world c.turn.new.host) c.args.engine.now c.turn.new.engine t now c.args.session copier later more ready makes here goes of.goes
    (g.met.H.Host.reads_left c.args.host.now tells copier.backing.name) (g.met.H.Host.reads_left c.turn.new.host tells) c.in-Ok-Finished.field-0 c.in-Ok-Finished.field-0-is
    (λ given may most. of.turn (seen_with now given) t tells ready.base ready.opened may.stalled may.entry goes.0 may.below may.apart most) (λ may. of.asks t tells ready.opened may.stalled goes.0 may.apart)
    of.counts (ap (λ (x : Backed). x.backing) of.same) (Level c.level.result c.scn.result c.written.result c.guid.result) says c.under_way.result c.under_way.ensures

pub returns-in_err-end_early-in-Err-clause-turn : goal.returns-in_err-end_early-in-Err-clause-turn
returns-in_err-end_early-in-Err-clause-turn g c how now t more tells ready makes here goes =
    let of = c.in-Err.ensures in
    let copier : Backed = c.args.copier.now in
    backup_lost how (g.H.Host.world c.args.host.now) (g.H.Host.world c.turn.new.host) c.args.engine.now c.turn.new.engine t now c.args.session copier c.turn.new.self more ready makes here goes of.goes
    (g.met.H.Host.reads_left c.args.host.now tells copier.backing.name) (g.met.H.Host.reads_left c.turn.new.host tells) c.in-Err.fault
    (λ given may most. of.turn (seen_with now given) t tells ready.base ready.opened may.stalled may.entry goes.0 may.below may.apart most) (λ may. of.asks t tells ready.opened may.stalled goes.0 may.apart)
    (g.H.Host.world c.end_early.new.host) (Err c.in_err-end_early-in-Err.field-0.0) (c.end_early.new.host ≡ c.turn.new.host) (ap g.H.Host.world) (c.in_err-end_early-in-Err.ensures.ended tells) c.from_residual.result (λ failed. c.from_residual.ensures.0) (ran_same Taken c.from_residual.result _ c.from_residual.ensures.1)

pub returns-in_ok-end_early-in-Err-clause-turn : goal.returns-in_ok-end_early-in-Err-clause-turn
returns-in_ok-end_early-in-Err-clause-turn g c how now t more tells ready makes here goes =
    let of = c.in-Err.ensures in
    let copier : Backed = c.args.copier.now in
    backup_lost how (g.H.Host.world c.args.host.now) (g.H.Host.world c.turn.new.host) c.args.engine.now c.turn.new.engine t now c.args.session copier c.turn.new.self more ready makes here goes of.goes
    (g.met.H.Host.reads_left c.args.host.now tells copier.backing.name) (g.met.H.Host.reads_left c.turn.new.host tells) c.in-Err.fault
    (λ given may most. of.turn (seen_with now given) t tells ready.base ready.opened may.stalled may.entry goes.0 may.below may.apart most) (λ may. of.asks t tells ready.opened may.stalled goes.0 may.apart)
    (g.H.Host.world c.end_early.new.host) (Ok c.in_ok-end_early-in-Err.field-0) (c.end_early.new.host ≡ c.turn.new.host) (ap g.H.Host.world) (c.in_ok-end_early-in-Err.ensures.ended tells) _ (λ failed. failed) (λ ran. ran)

pub returns-in_err-end_early-in-Err-clause-cause : goal.returns-in_err-end_early-in-Err-clause-cause
returns-in_err-end_early-in-Err-clause-cause g c =
    counts_handed c.in_err-end_early-in-Err.field-0.0 Taken c.from_residual.result _ _ c.from_residual.ensures
    (c.in_err-end_early-in-Err.ensures.cause _ (counts_as Progress Taken c.in-Err.fault _ _ c.in-Err.ensures.cause))

pub returns-in_ok-end_early-in-Err-clause-cause : goal.returns-in_ok-end_early-in-Err-clause-cause
returns-in_ok-end_early-in-Err-clause-cause g c =
    c.in_ok-end_early-in-Err.ensures.cause (g.H.Host.faults c.args.host.now) (counts_as Progress Taken c.in-Err.fault _ _ c.in-Err.ensures.cause)
