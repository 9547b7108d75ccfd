use Rattle.std.proofs.Common.{sym, ap, ◌∙◌}
use Rattle.nb_table.proofs.Common.{need_cause}
use Rattle.nb_table.proofs.dropping.check_none.Goals as goal

pub returns-in-Some-clause-test : goal.returns-in-Some-clause-test
returns-in-Some-clause-test c pages e = sym e ∙ ap need_cause c.in-Some.is

pub returns-in-None-clause-test : goal.returns-in-None-clause-test
returns-in-None-clause-test c pages e = sym e ∙ ap need_cause c.in-None.is
