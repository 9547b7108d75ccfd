use Rattle.std.proofs.Common.{◌≡◌, [], refl, sym, subst, arith, true, Ok, Err, Some}
use Rattle.nb_session.proofs.Common.{Device, Memory, Reply, SaysLine, told_line, told_reply, GoesOn, Progress, More, Finished, left_refused, left_task, Same, Merge}
use Rattle.nb_lines.specs.Brief.{is_brief}
use Rattle.nb_state.specs.Turns.{Merges}
use Rattle.nb_session.proofs.ActLaws.{nothing_acts}
use Rattle.nb_session.proofs.ShortLaws.{device_sure}
use Rattle.nb_session.proofs.EventLaws.{marks_none}
use Rattle.nb_session.proofs.TouchingLaws.{merges_touch}
use Rattle.nb_session.proofs.MergeLaws.{merge_said, merge_acts, more_behind, finished_behind}
use Rattle.nb_session.proofs.TurnLaws.{turns_failed, turns_quiet, turns_told, last_falls, last_fits, status_none}
use Rattle.nb_session.proofs.merges.merge_on.Goals as goal

pub returns-in_err-line-clause-turn : goal.returns-in_err-line-clause-turn
returns-in_err-line-clause-turn g c now t more tells ready makes here goes_on =
    let old = g.H.Host.world c.args.host.now in
    let a = c.args.engine.now in
    let m = c.args.merging.now in
    turns_failed c.args.told (merge_said m.reply) (Err Memory) left_refused (left_task _) old old old a a t now c.args.session _ _ more [] (merges_touch c.args.session m.left m.reply now) makes here
    (nothing_acts (merge_said m.reply) old a t now c.args.session _ (g.met.H.Host.timely c.args.host.now) ready) (λ acts. marks_none old old a) c.from_residual.result c.from_residual.ensures.0 (λ acts ran. acts.short)

pub returns-in_err-merge_turn-clause-turn : goal.returns-in_err-merge_turn-clause-turn
returns-in_err-merge_turn-clause-turn g c now t more tells ready makes here goes_on =
    let old = g.H.Host.world c.args.host.now in
    let mid = g.H.Host.world c.merge_turn.new.host in
    let a = c.args.engine.now in
    let b = c.merge_turn.new.self in
    let m = c.args.merging.now in
    turns_failed c.args.told (merge_said m.reply) (Err Device) left_refused (left_task _) old mid mid a b t now c.args.session _ _ more [] (merges_touch c.args.session m.left m.reply now) makes here
    (merge_acts old mid a b t now c.args.session m.reply ready c.merge_turn.ensures.cap (Err c.in_err-merge_turn.field-0.0) m.left c.requires.fits.0 (c.in_err-merge_turn.ensures.merges t tells ready.opened)) (λ acts. marks_none old mid a)
    c.from_residual-in_err-merge_turn.result c.from_residual-in_err-merge_turn.ensures.0 (λ acts ran. absurd (device_sure c.from_residual-in_err-merge_turn.result c.from_residual-in_err-merge_turn.ensures.1 ran))

pub returns-in-More-clause-turn : goal.returns-in-More-clause-turn
returns-in-More-clause-turn g c now t more tells ready makes here goes_on =
    let old = g.H.Host.world c.args.host.now in
    let mid = g.H.Host.world c.merge_turn.new.host in
    let a = c.args.engine.now in
    let b = c.merge_turn.new.self in
    let m = c.args.merging.now in
    let merges = subst (λ (p : Progress). Merges (Ok p) old mid a b t) c.in-More.is (c.in_ok-merge_turn.ensures.merges t tells ready.opened) in
    let goes = subst (λ (p : Progress). GoesOn p a b) c.in-More.is c.in_ok-merge_turn.ensures.goes in
    turns_quiet c.args.told (merge_said m.reply) (Ok More) left_refused (left_task _) old mid mid a b t now c.args.session _ _ more [] (merges_touch c.args.session m.left m.reply now) makes here
    (merge_acts old mid a b t now c.args.session m.reply ready c.merge_turn.ensures.cap (Ok More) m.left c.requires.fits.0 merges) (λ acts. marks_none old mid a)
    Same tt refl ready (λ said is. is) (λ told. more_behind c.args.session m.reply a b mid now m.left c.requires.fits.0 goes)

pub returns-in-Finished-clause-turn : goal.returns-in-Finished-clause-turn
returns-in-Finished-clause-turn g c now t more tells ready makes here goes_on =
    let old = g.H.Host.world c.args.host.now in
    let mid = g.H.Host.world c.merge_turn.new.host in
    let new = g.H.Host.world c.tell_last.new.host in
    let a = c.args.engine.now in
    let b = c.merge_turn.new.self in
    let m = c.args.merging.now in
    let merges = subst (λ (p : Progress). Merges (Ok p) old mid a b t) c.in-Finished.is (c.in_ok-merge_turn.ensures.merges t tells ready.opened) in
    let goes = subst (λ (p : Progress). GoesOn p a b) c.in-Finished.is c.in_ok-merge_turn.ensures.goes in
    let says = subst (λ (r : Reply). SaysLine c.tell_last.result mid new (told_line c.args.session (told_reply c.args.told (Some r)))) c.replace-reply.ensures.value (c.tell_last.ensures.line tells) in
    turns_told c.tell_last.result c.tell_last.ensures.left c.args.told (merge_said m.reply) (Ok Finished) _ old mid new a b t now c.args.session _ _ more [] (merges_touch c.args.session m.left m.reply now) makes here
    (merge_acts old mid a b t now c.args.session m.reply ready c.merge_turn.ensures.cap (Ok Finished) m.left c.requires.fits.0 merges) (λ acts. marks_none old mid a)
    tt m.reply (λ said is. is) ready says (λ brief. c.tell_last.ensures.brief (subst (λ (r : Reply). is_brief r ≡ true) (sym c.replace-reply.ensures.value) brief)) (status_none m.reply c.requires.fits.1) (finished_behind c.args.session m.reply a b new now m.left c.requires.fits.0 goes)

pub returns-in-Finished-clause-falls : goal.returns-in-Finished-clause-falls
returns-in-Finished-clause-falls g c = last_falls c.tell_last.result c.tell_last.ensures.left _ (Merge c.args.merging.now) (omega arith)

pub returns-in-Finished-clause-fits : goal.returns-in-Finished-clause-fits
returns-in-Finished-clause-fits g c = last_fits c.tell_last.result c.tell_last.ensures.left _ c.args.session c.merge_turn.new.self
