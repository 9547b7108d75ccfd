use Rattle.std.proofs.Common.{Some, None, ap, sym, ◌∙◌}
use Rattle.nb_script.proofs.Common.{statement_at}
use Rattle.nb_script.proofs.StatementLaws.{no_session, its_statement, statement_again}
use Rattle.nb_script.proofs.statements.statement.Goals as goal

pub returns-in_default-clause-again : goal.returns-in_default-clause-again
returns-in_default-clause-again c asks asked low high fits is = no_session c.args.line.now c.in_default.ensures.exact ∙ ap statement_at is ∙ statement_again asks asked low high fits

pub returns-in-Some-2-clause-again : goal.returns-in-Some-2-clause-again
returns-in-Some-2-clause-again c asks asked low high fits is =
    its_statement c.args.line.now c.in-Some.session c.in-Some.rest.now (Some c.in-Some-2.statement) c.in-Some.ensures.exact (sym c.in-Some-2.is ∙ c.in_ok-statement.ensures.ok) ∙ ap statement_at is ∙ statement_again asks asked low high fits

pub returns-in-None-clause-again : goal.returns-in-None-clause-again
returns-in-None-clause-again c asks asked low high fits is =
    its_statement c.args.line.now c.in-Some.session c.in-Some.rest.now None c.in-Some.ensures.exact (sym c.in-None.is ∙ c.in_ok-statement.ensures.ok) ∙ ap statement_at is ∙ statement_again asks asked low high fits
