use Rattle.std.proofs.Common.{refl, ap, arith}
use Rattle.nb_owner.proofs.Common.{Held}
use Rattle.nb_owner.proofs.OpenLaws.{valid_kept, valid_marked}
use Rattle.nb_owner.proofs.pair.Pair.keep_waiting.Goals as goal

pub invariant_of-self : goal.invariant_of-self
invariant_of-self c = (
  valid_marked c.keep.new.self c.dirty.new.self c.self.inside.files.page_size c.self.inside.files.page_size
      (valid_kept c.self.inside.cache c.keep.new.self c.self.inside.files.page_size c.self.inside.files.page_size c.self.invariant.0 refl c.args.number _ c.keep.ensures) refl c.args.number _ c.dirty.ensures.ranked,
  c.self.invariant.1,
  (λ merges. absurd (omega (arith, merges, ap (λ (h : Held). h.files.state) c.self.view_is, c.requires.early))),
)
