use Rattle.std.proofs.Common.{ℕ, List, ap, ◌∙◌, sym, Err}
use Rattle.nb_chain.proofs.Common.{ChainLevel, First, IsRefused, passed}
use Rattle.nb_chain.proofs.AnswerLaws.{level_unread, level_first}
use Rattle.nb_chain.proofs.first_file.refuse_level.Goals as goal

pub returns-in_err-head-clause-answer : goal.returns-in_err-head-clause-answer
returns-in_err-head-clause-answer g c tells bytes there begins =
    passed First (λ r. IsRefused c.args.name.now bytes r) c.from_residual.result c.in_err-head.field-0.0 c.from_residual.ensures
    (level_unread _ _ bytes (g.H.Host.world c.args.host.now).reads (g.H.Host.world c.whole.new.host).reads _ there begins (c.in_err-head.ensures.answer tells))

pub returns-clause-answer : goal.returns-clause-answer
returns-clause-answer g c tells bytes there begins =
    level_first _ _ bytes _ _ _ there begins (c.in_ok-head.ensures.answer tells)
    ∙ ap (λ (m : List ℕ). Err (ChainLevel m c.in_ok-head.head.level 0)) (sym c.copied.ensures) ∙ ap (λ (n : ℕ). Err (ChainLevel c.copied.result n 0)) (sym c.from.ensures)

pub returns-in_err-head-clause-within : goal.returns-in_err-head-clause-within
returns-in_err-head-clause-within g c tells = c.whole.ensures.within tells

pub returns-clause-within : goal.returns-clause-within
returns-clause-within g c tells = c.whole.ensures.within tells
