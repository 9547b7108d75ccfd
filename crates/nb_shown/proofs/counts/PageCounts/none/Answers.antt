use Rattle.std.proofs.Common.{refl}
use Rattle.nb_shown.proofs.Common.{count_from}
use Rattle.nb_shown.proofs.counts.PageCounts.none.Goals as goal

pub returns-clause-none : goal.returns-clause-none
unfolding count_from
returns-clause-none c image = refl
