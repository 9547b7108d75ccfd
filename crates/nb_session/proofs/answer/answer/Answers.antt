use Rattle.std.proofs.Common.{◌≡◌, [], Err, sym, subst, if◌then◌else◌, Bool, None}
use Rattle.nb_session.proofs.Common.{Memory, status_after, Taken, some_said}
use Rattle.nb_session.proofs.ActLaws.{nothing_acts}
use Rattle.nb_session.proofs.ShortLaws.{ran_passed, ran_same}
use Rattle.nb_session.proofs.EventLaws.{marks_none}
use Rattle.nb_session.specs.Dangers.{danger_after}
use Rattle.nb_session.proofs.FindLaws.{ended_holds}
use Rattle.nb_session.proofs.KeepLaws.{one_single}
use Rattle.nb_session.proofs.TouchingLaws.{begins_touch, one_turn_plain}
use Rattle.nb_session.proofs.TurnLaws.{turns_failed, turns_unsaid, turns_said, status_told, single_behind}
use Rattle.nb_session.proofs.answer.answer.Goals as goal

pub returns-in_err-line-clause-turn : goal.returns-in_err-line-clause-turn
returns-in_err-line-clause-turn g c now t more tells ready makes here =
    let old = g.H.Host.world c.args.host.now in
    turns_failed c.args.told some_said (Err Memory) (λ (x : Taken). x.refused) (λ (x : Taken). x.task) old old old _ _ t now c.args.session _ [] more [] (begins_touch c.args.session c.args.statement.now now (one_turn_plain c.args.statement.now c.requires.single)) makes here
    (nothing_acts some_said old c.args.engine.now t now c.args.session _ (g.met.H.Host.timely c.args.host.now) ready) (λ acts. marks_none old old _) c.from_residual.result c.from_residual.ensures.0 (λ acts ran. acts.short)

pub returns-in_err-reply-clause-turn : goal.returns-in_err-reply-clause-turn
returns-in_err-reply-clause-turn g c now t more tells ready makes here =
    let old = g.H.Host.world c.args.host.now in
    let mid = g.H.Host.world c.do_statement.new.host in
    turns_failed c.args.told some_said _ (λ (x : Taken). x.refused) (λ (x : Taken). x.task) old mid mid _ _ t now c.args.session _ [] more [] (begins_touch c.args.session c.args.statement.now now (one_turn_plain c.args.statement.now c.requires.single)) makes here
    (c.do_statement.ensures.turn now t c.args.session tells ready) (λ acts. marks_none old mid _) c.from_residual-in_err-reply.result c.from_residual-in_err-reply.ensures.0
    (λ acts ran. ran_passed Taken c.do_statement.result _ c.in_err-reply.ensures.failed _ acts.short (ran_same Taken c.from_residual-in_err-reply.result _ c.from_residual-in_err-reply.ensures.1 ran))

pub returns-in_err-tell-clause-turn : goal.returns-in_err-tell-clause-turn
returns-in_err-tell-clause-turn g c now t more tells ready makes here =
    let old = g.H.Host.world c.args.host.now in
    let mid = g.H.Host.world c.do_statement.new.host in
    turns_unsaid c.args.told some_said _ (λ (x : Taken). x.refused) (λ (x : Taken). x.task) old mid (g.H.Host.world c.tell.new.host) _ _ t now c.args.session _ [] more [] (begins_touch c.args.session c.args.statement.now now (one_turn_plain c.args.statement.now c.requires.single)) makes here
    (c.do_statement.ensures.turn now t c.args.session tells ready) (λ acts. marks_none old mid _)
    c.in_ok-reply.ensures.ended c.in_ok-reply.reply c.in_ok-reply.ensures.said c.tell.result (c.tell.ensures.line tells) ready
    c.from_residual-in_err-tell.result c.from_residual-in_err-tell.ensures.0
    (λ brief ran. c.in_err-tell.ensures.brief brief (ran_same (Unit {0}) c.from_residual-in_err-tell.result _ c.from_residual-in_err-tell.ensures.1 ran))

pub returns-clause-turn : goal.returns-clause-turn
returns-clause-turn g c now t more tells ready makes here =
    let old = g.H.Host.world c.args.host.now in
    let mid = g.H.Host.world c.do_statement.new.host in
    let new = g.H.Host.world c.tell.new.host in
    turns_said c.args.told some_said _ (λ (x : Taken). x.refused) (λ (x : Taken). x.task) old mid new _ _ t now c.args.session _ [] more [] (begins_touch c.args.session c.args.statement.now now (one_turn_plain c.args.statement.now c.requires.single)) makes here
    (c.do_statement.ensures.turn now t c.args.session tells ready) (λ acts. marks_none old mid _)
    c.in_ok-reply.ensures.ended c.in_ok-reply.reply c.in_ok-reply.ensures.said c.tell.result (c.tell.ensures.line tells) ready
    (record { task = None; refused = c.is_refusal-refused.result }) (c.in_ok-tell.ensures.line tells).said
    (λ is. subst (λ (b : Bool). status_after c.in_ok-reply.reply ≡ (if b then 1 else 0)) (sym c.is_refusal-refused.ensures) (status_told c.args.session c.args.statement.now now c.in_ok-reply.reply is))
    (λ told. single_behind new _ c.args.session c.args.statement.now now (one_single c.args.statement.now c.requires.single))

pub returns-clause-danger : goal.returns-clause-danger
returns-clause-danger g c t tells opened =
    ended_holds (c.do_statement.new.danger ≡ danger_after c.args.statement.now t.base.image c.args.danger.now) c.do_statement.result c.in_ok-reply.ensures.ended (c.do_statement.ensures.danger t tells opened)
