use Rattle.std.proofs.Common.{sym, ap, ◌∙◌, Some}
use Rattle.nb_alloc.proofs.Common.{NotDatabase}
use Rattle.nb_alloc.proofs.BehindLaws.{judged_page, judged_other}
use Rattle.nb_alloc.proofs.behind.lower.Goals as goal

pub returns-in-NotDatabase : goal.returns-in-NotDatabase
returns-in-NotDatabase c pages full is =
    judged_page c.args.page c.in-NotDatabase.other pages full (is ∙ ap Some c.in-NotDatabase.is) ∙ ap (λ n. Some (NotDatabase n)) (sym c.min.ensures)

pub returns-in_default : goal.returns-in_default
returns-in_default c pages full is = judged_other c.args.page c.args.refusal pages full c.in_default.not-NotDatabase is
