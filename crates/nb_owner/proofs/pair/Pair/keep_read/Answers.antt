use Rattle.std.proofs.Common.{refl, sym, subst}
use Rattle.nb_owner.proofs.Common.{NoneWaits, Held, Pages}
use Rattle.nb_owner.proofs.OpenLaws.{valid_kept, kept_pages, none_waits_kept}
use Rattle.nb_owner.proofs.pair.Pair.keep_read.Goals as goal

pub invariant_of-self : goal.invariant_of-self
invariant_of-self c = (
  valid_kept c.self.inside.cache c.keep.new.self c.self.inside.files.page_size c.self.inside.files.page_size c.self.invariant.0 refl c.args.number _ c.keep.ensures,
  c.self.invariant.1,
  (λ stalled. subst (λ (ps : Pages). NoneWaits ps) (sym (kept_pages c.self.inside.cache c.keep.new.self c.self.inside.files.page_size c.self.inside.files.page_size c.self.invariant.0 refl c.args.number _ c.keep.ensures))
      (none_waits_kept c.self.inside.cache.pages c.self.invariant.0.once c.self.inside.cache.cap c.args.number c.args.page.now (c.self.invariant.2 stalled))),
)

pub returns-then-is_none-clause-none_waits : goal.returns-then-is_none-clause-none_waits
returns-then-is_none-clause-none_waits c none =
    subst (λ (ps : Pages). NoneWaits ps) (sym (kept_pages c.self.inside.cache c.keep.new.self c.self.inside.files.page_size c.self.inside.files.page_size c.self.invariant.0 refl c.args.number _ c.keep.ensures))
    (none_waits_kept c.self.inside.cache.pages c.self.invariant.0.once c.self.inside.cache.cap c.args.number c.args.page.now (subst (λ (h : Held). NoneWaits h.pages) (sym c.self.view_is) none))
