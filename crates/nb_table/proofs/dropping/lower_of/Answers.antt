use Rattle.std.proofs.Common.{ℕ, sym, ap, ◌∙◌, Some}
use Rattle.nb_table.proofs.Common.{NotDatabase, need_cause}
use Rattle.nb_table.proofs.CheckLaws.{lower_both, lower_first}
use Rattle.nb_table.proofs.dropping.lower_of.Goals as goal

pub returns-in-Some : goal.returns-in-Some
returns-in-Some c pages more e f =
    ap (λ (n : ℕ). Some (NotDatabase n)) c.min.ensures ∙ lower_both pages more c.args.page c.in-Some.other e (sym (ap need_cause c.in-Some.is) ∙ f)

pub returns-in-None : goal.returns-in-None
returns-in-None c pages more e f = lower_first pages more c.args.page e (sym (ap need_cause c.in-None.is) ∙ f)
