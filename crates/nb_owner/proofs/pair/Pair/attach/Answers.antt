use Rattle.std.proofs.Common.{sym, subst, arith}
use Rattle.nb_owner.proofs.Common.{NoneWaits}
use Rattle.nb_owner.proofs.OpenLaws.{valid_blank}
use Rattle.nb_owner.proofs.pair.Pair.attach.Goals as goal

pub invariant_of-result : goal.invariant_of-result
invariant_of-result g c = (
  valid_blank c.in_ok-cache.cache _ _ _ c.in_ok-cache.ensures.ok (sym c.page_size-page_size.ensures.value) c.requires.some,
  omega (arith, c.in_ok-page.ensures.len, c.page_size-page_size.ensures.value),
  (λ stalled. subst (λ (h : Rattle.nb_cache.specs.Held.Held). NoneWaits h.pages) (sym c.in_ok-cache.ensures.ok) tt),
)
