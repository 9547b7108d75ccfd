use Rattle.std.proofs.Common.{◌≡◌, ◌+◌, length}
use Rattle.nb_check.proofs.Common.{filter, range_with_len, has}
use Rattle.nb_check.proofs.report.page_of.Given as goal

-- so many pages of the set are still to come, or lie after
abbrev pub invariant-loop-page : goal.invariant-loop-page
invariant-loop-page l = l.left + length (filter (has l.pages) (range_with_len 0 l.page)) ≡ l.fn.i
