use Rattle.std.proofs.Common.{◌≡◌}
use Rattle.nb_check.proofs.Common.{filter, range_with_len, has}
use Rattle.nb_check.proofs.report.list_of.Given as goal

abbrev pub invariant-loop-page : goal.invariant-loop-page
invariant-loop-page l = l.list ≡ filter (has l.pages) (range_with_len 0 l.page)
