use Rattle.std.proofs.Common.{◌≡◌, ℕ, length, sym, subst, ap, ◌∙◌, arith, None, Some, IsTrue}
use Rattle.nb_owner.proofs.Common.{take_at, Only, Changes, Page, page_at, delta_name, Trail, StandsIn, GoesIn, MaySlot, rank_of, with_rank, NoneWaits, Held, GoesSlot, waits, the_view}
use Rattle.nb_owner.proofs.RankLaws.{marked_none}
use Rattle.nb_owner.proofs.OpenLaws.{peeked, valid_marked}
use Rattle.nb_owner.proofs.SlotLaws.{may_slot, waits_later, slot_out}
use Rattle.nb_owner.proofs.pair.Pair.flush_slot.Goals as goal
use Rattle.nb_owner.proofs.pair.Pair.flush_slot.Goals.{After-put_slot}

-- The page is in memory, and goes into its slot.
module _ (g : _) (c : goal.After-put_slot g) (f t : Trail) (tells : IsTrue g.H.Host.tells) (given : GoesSlot (g.H.Host.world c.args.host.now) c.args.self.now f t) where
  out : GoesSlot (g.H.Host.world c.args.host.now) (the_view c.self.inside) f t
  out = subst (λ (h : Held). GoesSlot (g.H.Host.world c.args.host.now) h f t) (sym c.self.view_is) given

  ranked : rank_of c.self.inside.cache.pages c.args.number ≡ Some c.requires.waits.0
  ranked = ap (λ (h : Held). rank_of h.pages c.args.number) c.self.view_is ∙ c.requires.waits.1

  may : MaySlot t c.args.number c.deref.result.now
  may =
      let into : length c.peek.new.into ≡ c.self.inside.page.len = omega (arith, c.peek.auto.into, c.deref_mut.ensures.len) in
      let peek : c.peek.new.into ≡ page_at t.base.image c.args.number = peeked t.base.image c.self.inside.cache.pages c.args.number c.requires.waits.0 c.peek.new.into _ ranked out.pages c.peek.ensures.filled in
      let is : c.deref.result.now ≡ page_at t.base.image c.args.number = c.deref.ensures.value ∙ take_at c.peek.new.into _ c.self.inside.page.len into ∙ peek in
      subst (λ (x : Page). MaySlot t c.args.number x) (sym is)
      (may_slot (g.H.Host.world c.args.host.now) (the_view c.self.inside) f t out c.args.number c.requires.waits.0 ranked (sym (ap length peek) ∙ into ∙ c.self.invariant.1))

  left : Changes (g.H.Host.world c.args.host.now) (g.H.Host.world c.put_slot.new.host) (Only (delta_name c.args.self.now.files.name)) (StandsIn c.args.self.now.files.name t)
  left = subst (λ (h : Held). Changes (g.H.Host.world c.args.host.now) (g.H.Host.world c.put_slot.new.host) (Only (delta_name h.files.name)) (StandsIn h.files.name t)) c.self.view_is
      (c.put_slot.ensures.left f t (waits c.self.inside.cache.pages) tells out.goes may)

pub returns-in_err-put_slot-clause-left : goal.returns-in_err-put_slot-clause-left
returns-in_err-put_slot-clause-left g c f t tells given = left g (goal.at.returns-in_err-put_slot-clause-left g c).After-put_slot f t tells given

pub invariant_of-self-2 : goal.invariant_of-self-2
invariant_of-self-2 g c =
    let same = ap (λ f. f.page_size) c.put_slot.ensures.same in (
      valid_marked c.self.inside.cache c.clean.new.self c.self.inside.files.page_size c.put_slot.new.self.page_size c.self.invariant.0 same c.args.number _ c.clean.ensures,
      c.self.invariant.1 ∙ sym same,
      (λ merges. subst (λ k. NoneWaits k) (sym (ap (λ (h : Rattle.nb_cache.specs.Held.Held). h.pages) c.clean.ensures))
          (marked_none c.args.number c.self.inside.cache.pages (c.self.invariant.2 (sym (ap (λ f. f.state) c.put_slot.ensures.same) ∙ merges)))),
    )

pub returns-clause-left : goal.returns-clause-left
returns-clause-left g c f t tells given = left g (goal.at.returns-clause-left g c).After-put_slot f t tells given

pub returns-clause-out : goal.returns-clause-out
returns-clause-out g c f t tells given =
    let paths = (goal.at.returns-clause-out g c).After-put_slot in
    let old = g.H.Host.world c.args.host.now in
    let new = g.H.Host.world c.put_slot.new.host in
    let goes_out = out g paths f t tells given in
    let rank = ranked g paths f t tells given in
    let later : ℕ → _ = waits (with_rank c.args.number None c.self.inside.cache.pages) in
    let goes = c.in_ok-put_slot.ensures.put f t (waits c.self.inside.cache.pages) later tells goes_out.goes (may g paths f t tells given) (waits_later old (the_view c.self.inside) f t goes_out c.args.number c.requires.waits.0 rank) in
    let after = slot_out old (the_view c.self.inside) f t goes_out c.args.number c.requires.waits.0 rank new (subst (λ (h : Rattle.nb_base.specs.Open.Held). GoesIn new h f t later) c.put_slot.ensures.same goes) in
    subst (λ (k : Rattle.nb_cache.specs.Held.Held). let h : Held = record { files = c.put_slot.new.self; pages = k.pages; cap = k.cap } in GoesSlot new h f t) (sym c.clean.ensures)
    (subst (λ (b : Rattle.nb_base.specs.Open.Held). let h : Held = record { files = b; pages = with_rank c.args.number None c.self.inside.cache.pages; cap = c.self.inside.cache.cap } in GoesSlot new h f t) (sym c.put_slot.ensures.same) after)
