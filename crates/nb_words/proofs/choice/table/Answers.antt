use Rattle.std.proofs.Common.{sym, subst}
use Rattle.nb_words.proofs.Common.{IsTheChoice}
use Rattle.nb_words.proofs.Table.{is_the_choice}
use Rattle.nb_words.proofs.choice.table.Goals as goal

pub returns-clause-meaning : goal.returns-clause-meaning
returns-clause-meaning c = subst IsTheChoice (sym c.cases.ensures) is_the_choice
