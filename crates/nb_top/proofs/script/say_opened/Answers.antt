use Rattle.std.proofs.Common.{ap, ◌∙◌}
use Rattle.nb_top.proofs.Common.{line_text, says_other, opened_reply}
use Rattle.nb_top.proofs.script.say_opened.Goals as goal

pub returns-in-All-clause-line : goal.returns-in-All-clause-line
returns-in-All-clause-line g c tells =
    let plan = c.args.script.now in
    let held = c.args.engine.now in
    let line = ap (λ s. line_text s c.first_reply-reply.result) c.first_session.ensures.value
    ∙ ap (line_text plan.first_session) (c.first_reply-reply.ensures ∙ ap (λ s. opened_reply s c.count.result c.state.result) c.first.ensures ∙ ap (λ n. opened_reply plan.first n c.state.result) c.count.ensures.value
    ∙ ap (opened_reply plan.first held.files.count) (c.state.ensures.value ∙ ap (λ h. h.files.state) c.store.ensures)) in
    rw c.in-All.is (says_other _ _ _ _ _ line (c.say.ensures.line tells))
