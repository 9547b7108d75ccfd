use Rattle.std.proofs.Common.{subst}
use Rattle.nb_check.proofs.Common.{IsLowestAt}
use Rattle.nb_check.proofs.PassLaws.{first_still}
use Rattle.nb_check.proofs.facts.first_of.Goals as goal

pub returns-in-None : goal.returns-in-None
returns-in-None c image first none = first_still image c.args.page c.args.broken first (subst (IsLowestAt image c.args.page) c.in-None.is none)

pub returns-in-Some : goal.returns-in-Some
returns-in-Some c image first lowest = c.first_with.ensures image first (subst (IsLowestAt image c.args.page) c.in-Some.is lowest)
