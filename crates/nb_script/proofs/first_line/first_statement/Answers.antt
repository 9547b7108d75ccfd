use Rattle.std.proofs.Common.{Some, None, ap, ◌∙◌}
use Rattle.nb_script.proofs.Common.{first_at}
use Rattle.nb_script.proofs.FirstLaws.{no_first_session, its_first, first_again}
use Rattle.nb_script.proofs.first_line.first_statement.Goals as goal

pub returns-in_err-session-clause-again : goal.returns-in_err-session-clause-again
returns-in_err-session-clause-again c asks asked low high fits is = c.from_residual.ensures ∙ no_first_session c.args.line.now c.in_err-session.ensures.exact ∙ ap first_at is ∙ first_again asks asked low high fits

pub returns-in_err-statement-clause-again : goal.returns-in_err-statement-clause-again
returns-in_err-statement-clause-again c asks asked low high fits is =
    c.from_residual-in_err-statement.ensures ∙ its_first c.args.line.now c.in_ok-session.session c.in_ok-session.rest.now None c.in_ok-session.ensures.exact c.in_err-statement.ensures ∙ ap first_at is ∙ first_again asks asked low high fits

pub returns-clause-again : goal.returns-clause-again
returns-clause-again c asks asked low high fits is =
    its_first c.args.line.now c.in_ok-session.session c.in_ok-session.rest.now (Some c.in_ok-statement.statement) c.in_ok-session.ensures.exact c.in_ok-statement.ensures ∙ ap first_at is ∙ first_again asks asked low high fits
