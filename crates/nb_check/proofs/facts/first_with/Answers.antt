use Rattle.std.proofs.Common.{subst, arith}
use Rattle.nb_check.proofs.Common.{IsFirstBelow}
use Rattle.nb_check.proofs.PassLaws.{first_kept, first_begun, first_lower}
use Rattle.nb_check.proofs.facts.first_with.Goals as goal

pub returns-in-None : goal.returns-in-None
returns-in-None c image first lowest = first_begun image c.args.here.page c.args.here.fact (subst (IsFirstBelow image c.args.here.page) c.in-None.is first) lowest

pub returns-then-number : goal.returns-then-number
returns-then-number c image first lowest = first_kept image c.args.here.page c.in-Some.first c.args.here.fact (subst (IsFirstBelow image c.args.here.page) c.in-Some.is first) lowest (omega arith)

pub returns-else-number : goal.returns-else-number
returns-else-number c image first lowest = first_lower image c.args.here.page c.in-Some.first c.args.here.fact (subst (IsFirstBelow image c.args.here.page) c.in-Some.is first) lowest (omega arith)
