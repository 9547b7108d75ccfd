use Rattle.std.proofs.Common.{◌∙◌}
use Rattle.nb_session.proofs.ShortLaws.{device_sure}
use Rattle.nb_session.proofs.SaysLaws.{says_line, says_other, err_unsaid}
use Rattle.nb_session.proofs.answer.say_in.Goals as goal

pub returns-in_err-say-clause-line : goal.returns-in_err-say-clause-line
returns-in_err-say-clause-line g c tells =
    says_other _ _ _ _ _ (c.deref.ensures.value ∙ c.in-Ok.ensures.line)
    (says_line g.H.Host.tells tells _ c.from_residual.result (g.H.Host.world c.args.host.now) (g.H.Host.world c.say.new.self) c.deref.result.now (g.met.H.Host.timely c.args.host.now) c.say.ensures.files c.say.ensures.log c.say.ensures.time
    (err_unsaid _ c.from_residual.result c.from_residual.ensures.0))

pub returns-clause-line : goal.returns-clause-line
returns-clause-line g c tells =
    says_other _ _ _ _ _ (c.deref.ensures.value ∙ c.in-Ok.ensures.line)
    (says_line g.H.Host.tells tells _ _ (g.H.Host.world c.args.host.now) (g.H.Host.world c.say.new.self) c.deref.result.now (g.met.H.Host.timely c.args.host.now) c.say.ensures.files c.say.ensures.log c.say.ensures.time
    (c.in_ok-say.ensures.log.said tells))

pub returns-in_err-say-clause-brief : goal.returns-in_err-say-clause-brief
returns-in_err-say-clause-brief g c brief = device_sure c.from_residual.result c.from_residual.ensures.1
