use Rattle.std.proofs.Common.{ap, ◌∙◌}
use Rattle.nb_cache.specs.Held.{Held, rank_of}
use Rattle.nb_cache.proofs.ShownLaws.{rank_of-cleaned}
use Rattle.nb_leaf_tests.proofs.cache_tests.drop_page.Goals as goal

pub drop_page-requires : goal.drop_page-requires
drop_page-requires c = ap (λ (h : Held). rank_of h.pages c.args.page) c.clean.ensures ∙ rank_of-cleaned c.args.page c.args.cache.now.pages
