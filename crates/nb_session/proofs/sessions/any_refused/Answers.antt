use Rattle.std.proofs.Common.{ap, ◌∙◌, arith}
use Rattle.nb_session.proofs.Common.{take_all, any_refused}
use Rattle.nb_session.proofs.AnyLaws.{any_more}
use Rattle.nb_session.proofs.sessions.any_refused.Goals as goal

pub loop-session-preserved : goal.loop-session-preserved
loop-session-preserved c =
    any_more c.args.sessions.now c.loop-session.session-index c.session-item.result _ _ c.loop-session-test.true c.session-item.is c.loop-session.invariant c.refused-any.ensures

pub returns : goal.returns
returns c = c.loop-session.invariant ∙ ap any_refused (take_all c.loop-session.session-index c.args.sessions.now (omega (arith, c.loop-session-test.false)))
