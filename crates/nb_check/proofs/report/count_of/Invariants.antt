use Rattle.std.proofs.Common.{◌≡◌, length}
use Rattle.nb_check.proofs.Common.{filter, range_with_len, has}
use Rattle.nb_check.proofs.report.count_of.Given as goal

abbrev pub invariant-loop-page : goal.invariant-loop-page
invariant-loop-page l = l.count ≡ length (filter (has l.pages) (range_with_len 0 l.page))
