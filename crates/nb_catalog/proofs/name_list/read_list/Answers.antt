use Rattle.std.proofs.Common.{[], ap, sym, ◌∙◌}
use Rattle.nb_catalog.proofs.Common.{names_on}
use Rattle.nb_catalog.proofs.DistinctLaws.{names_distinct, none_twice}
use Rattle.nb_catalog.proofs.ListLaws.{some_names}
use Rattle.nb_catalog.proofs.name_list.read_list.Goals as goal

pub returns-clause-some : goal.returns-clause-some
returns-clause-some c = some_names _ _ c.in_ok-names.names (ap (names_on 1000 []) (sym c.in-Some.ensures.line) ∙ c.in_ok-names.ensures.exact)

pub returns-clause-distinct : goal.returns-clause-distinct
returns-clause-distinct c = names_distinct 1000 [] _ c.in_ok-names.names none_twice c.in_ok-names.ensures.exact
