use Rattle.std.proofs.Common.{sym, ap, ◌∙◌}
use Rattle.nb_table.proofs.Common.{need_cause}
use Rattle.nb_table.proofs.CheckLaws.{lower_second}
use Rattle.nb_table.proofs.dropping.lower.Goals as goal

pub returns-in-Some : goal.returns-in-Some
returns-in-Some c pages more e f = c.lower_of.ensures pages more (sym (ap need_cause c.in-Some.is) ∙ e) f

pub returns-in-None : goal.returns-in-None
returns-in-None c pages more e f = lower_second pages more (need_cause c.args.second) (sym (ap need_cause c.in-None.is) ∙ e) f
