use Rattle.std.proofs.Common.{sym, subst}
use Rattle.nb_cases.proofs.Common.{AreTheCases}
use Rattle.nb_cases.proofs.EventLaws.{the_cases}
use Rattle.nb_cases.proofs.events.table.Goals as goal

pub returns : goal.returns
returns c = subst AreTheCases (sym c.cases.ensures) the_cases
