use Rattle.std.proofs.Common.{refl, sym, subst}
use Rattle.nb_owner.proofs.Common.{NoneWaits, Held}
use Rattle.nb_owner.proofs.RankLaws.{none_found}
use Rattle.nb_owner.proofs.OpenLaws.{valid_dropped, none_waits_gone}
use Rattle.nb_owner.proofs.pair.Pair.forget.Goals as goal

pub drop_page-requires : goal.drop_page-requires
drop_page-requires c = none_found c.self.inside.cache.pages (subst (λ (h : Held). NoneWaits h.pages) (sym c.self.view_is) c.requires.none) c.args.number

pub invariant_of-self : goal.invariant_of-self
invariant_of-self c = (
  valid_dropped c.self.inside.cache c.drop_page.new.self c.self.inside.files.page_size c.self.inside.files.page_size c.self.invariant.0 refl c.args.number c.drop_page.ensures,
  c.self.invariant.1,
  (λ merges. subst (λ (h : Rattle.nb_cache.specs.Held.Held). NoneWaits h.pages) (sym c.drop_page.ensures)
      (none_waits_gone c.self.inside.cache.pages c.self.invariant.0.once c.args.number (subst (λ (h : Held). NoneWaits h.pages) (sym c.self.view_is) c.requires.none))),
)

pub returns-clause-none : goal.returns-clause-none
returns-clause-none c = subst (λ (h : Rattle.nb_cache.specs.Held.Held). NoneWaits h.pages) (sym c.drop_page.ensures)
    (none_waits_gone c.self.inside.cache.pages c.self.invariant.0.once c.args.number (subst (λ (h : Held). NoneWaits h.pages) (sym c.self.view_is) c.requires.none))
