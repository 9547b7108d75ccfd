use Rattle.std.proofs.Common.{◌≡◌, ℕ, [], length, refl, sym, ap, subst, Ok, Err, Some, None}
use Rattle.nb_session.proofs.Common.{Reply, Ends, left_refused, left_task, Other, Merge, Taken, IsBehind}
use Rattle.nb_session.proofs.ShortLaws.{ran_same}
use Rattle.nb_session.proofs.EventLaws.{marks_none}
use Rattle.nb_session.proofs.TouchingLaws.{ends_touch}
use Rattle.nb_session.proofs.MergeLaws.{ends_acts, ends_behind, ends_lost, ends_quiet}
use Rattle.nb_session.proofs.StepLaws.{counts_as, counts_handed}
use Rattle.nb_session.proofs.TurnLaws.{seen_now, turns_quiet}
use Rattle.nb_session.proofs.merges.end_backup.Goals as goal

pub returns-in-Ok-clause-turn : goal.returns-in-Ok-clause-turn
returns-in-Ok-clause-turn g c how now t more tells ready makes here runs =
    let old = g.H.Host.world c.args.host.now in
    let mid = g.H.Host.world c.end.new.host in
    let a = c.args.engine.now in
    let b = c.end.new.self in
    let quiet = ends_quiet old a t now c.args.session ready makes.going c.args.reply.now more here runs in
    let does = c.in-Ok.ensures.turn (seen_now now) t tells ready.base ready.running ready.opened in
    turns_quiet how (λ scn. None) (Ok c.in-Ok.field-0) left_refused (left_task _) old mid mid a b t now c.args.session (Ends c.args.reply.now) [] more [] (ends_touch c.args.session c.args.reply.now now) makes here
    (ends_acts old mid a b t now c.args.session ready c.args.reply.now quiet (Ok c.in-Ok.field-0) c.end.ensures.cap tt does) (λ acts. marks_none old mid a)
    (Other c.merge_of.result) tt (ap (λ (x : Taken). x.refused) c.merge_of.ensures) ready (λ said is. is)
    (λ told. subst (λ (x : Taken). IsBehind mid b c.args.session (Ends c.args.reply.now) [] now x.task) (sym c.merge_of.ensures)
    (subst (λ (r : Reply). IsBehind mid b c.args.session (Ends c.args.reply.now) [] now (Some (Merge (record { left = length b.files.entries; reply = r })))) (sym c.replace-reply.ensures.value)
    (ends_behind old mid a b t now c.args.session ready c.args.reply.now quiet (length b.files.entries) refl c.in-Ok.field-0 does)))

pub returns-in_err-end_early-in-Err-clause-turn : goal.returns-in_err-end_early-in-Err-clause-turn
returns-in_err-end_early-in-Err-clause-turn g c how now t more tells ready makes here runs =
    ends_lost how (left_task _) (g.H.Host.world c.args.host.now) (g.H.Host.world c.end.new.host) (g.H.Host.world c.end_early.new.host) c.args.engine.now c.end.new.self t now c.args.session c.args.reply.now more ready makes here runs c.end.ensures.cap
    c.in-Err.fault c.in-Err.ensures.takes_none (c.in-Err.ensures.turn (seen_now now) t tells ready.base ready.running ready.opened)
    (Err c.in_err-end_early-in-Err.field-0.0) (c.end_early.new.host ≡ c.end.new.host) (ap g.H.Host.world) (c.in_err-end_early-in-Err.ensures.ended tells) c.from_residual.result (λ failed. c.from_residual.ensures.0) (ran_same Taken c.from_residual.result _ c.from_residual.ensures.1)

pub returns-in_ok-end_early-in-Err-clause-turn : goal.returns-in_ok-end_early-in-Err-clause-turn
returns-in_ok-end_early-in-Err-clause-turn g c how now t more tells ready makes here runs =
    ends_lost how (left_task _) (g.H.Host.world c.args.host.now) (g.H.Host.world c.end.new.host) (g.H.Host.world c.end_early.new.host) c.args.engine.now c.end.new.self t now c.args.session c.args.reply.now more ready makes here runs c.end.ensures.cap
    c.in-Err.fault c.in-Err.ensures.takes_none (c.in-Err.ensures.turn (seen_now now) t tells ready.base ready.running ready.opened)
    (Ok c.in_ok-end_early-in-Err.field-0) (c.end_early.new.host ≡ c.end.new.host) (ap g.H.Host.world) (c.in_ok-end_early-in-Err.ensures.ended tells) _ (λ failed. failed) (λ ran. ran)

pub returns-in_err-end_early-in-Err-clause-cause : goal.returns-in_err-end_early-in-Err-clause-cause
returns-in_err-end_early-in-Err-clause-cause g c =
    counts_handed c.in_err-end_early-in-Err.field-0.0 Taken c.from_residual.result _ _ c.from_residual.ensures
    (c.in_err-end_early-in-Err.ensures.cause _ (counts_as ℕ Taken c.in-Err.fault _ _ c.in-Err.ensures.cause))

pub returns-in_ok-end_early-in-Err-clause-cause : goal.returns-in_ok-end_early-in-Err-clause-cause
returns-in_ok-end_early-in-Err-clause-cause g c =
    c.in_ok-end_early-in-Err.ensures.cause (g.H.Host.faults c.args.host.now) (counts_as ℕ Taken c.in-Err.fault _ _ c.in-Err.ensures.cause)
