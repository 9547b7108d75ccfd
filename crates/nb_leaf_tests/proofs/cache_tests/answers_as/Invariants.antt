use Rattle.std.proofs.Common.{◌≡◌}
use Rattle.nb_leaf_tests.proofs.cache_tests.answers_as.Given as goal

abbrev pub invariant-loop-turn : goal.invariant-loop-turn
invariant-loop-turn l = l.cache.page_size ≡ 4
