-- The pages that wait go into their slots in the stalled state.
use Rattle.std.proofs.Common.{◌≡◌, ◌≢◌, inl, inr, ℕ, ◌<◌, ◌≤◌, [], length, refl, sym, ap, ◌∙◌, arith, length-append, true, Option, Some, None, is_some}
use Rattle.nb_owner.proofs.Common.{true≢false, eqb_tells, stalled_state, World, IsTimely, Only, Changes, begun, page_at, delta_name, entry_for, Trail, StandsIn, way_left, GoesIn, MaySlot, rank_of, with_rank, Held, waits, IsOpen, GoesSlot, none_some}
use Rattle.nb_base.proofs.SlotLaws.{goes_in}
use Rattle.nb_owner.proofs.RankLaws.{rank_marked, rank_marked_other, waits_there, marked_of}
use Rattle.nb_owner.proofs.WaitLaws.{drafted_waits}

-- The way begins.
pub start_slots : (w : World) (held : Held) (t : Trail) (is : IsOpen w held t) → held.files.state ≡ stalled_state → t.earlier ≢ [] → GoesSlot w held is.sees t
start_slots w held t is stalled unsettled = record {
  goes = goes_in w held.files is.sees t (waits held.pages) is.files is.waits.behind is.agrees stalled unsettled
      (omega (arith, ap length is.waits.drafts.all, length-append is.sees.base.diverted is.waits.drafts.drafts, is.waits.drafts.many)) is.waits.clean (drafted_waits held.pages held.files.drafted is.sees t is.waits)
      (λ p waiting. by p (rank_of held.pages p) refl waiting);
  pages = is.pages;
  each = is.waits.each;
}
  where
    by : (p : ℕ) (o : Option ℕ) → rank_of held.pages p ≡ o → is_some (rank_of held.pages p) ≡ true → (1 ≤ p) × (p < length t.base.image) × ((k : ℕ) × (entry_for p t.base.diverted ≡ Some k))
    by p None e waiting = absurd (true≢false (sym waiting ∙ ap is_some e))
    by p (Some rank) e waiting = let one = is.waits.each p rank e in (one.some, one.low, one.named (sym is.agrees.state ∙ stalled))

-- what a crash leaves then
pub slots_begun : (w : World) (held : Held) (f t : Trail) → GoesSlot w held f t → IsTimely w → Changes w w (Only (delta_name held.files.name)) (StandsIn held.files.name t)
slots_begun w held f t out timely = begun w (Only (delta_name held.files.name)) (StandsIn held.files.name t) timely
    (λ files all. let s = out.goes.left files all in record { base = s.base; opens = s.opens; left = way_left f t out.goes.behind s.base out.goes.unsettled s.is })

-- A page that waits may go.
module _ (w : World) (held : Held) (f t : Trail) (out : GoesSlot w held f t) (p rank : ℕ) (at : rank_of held.pages p ≡ Some rank) where
  pub may_slot : length (page_at t.base.image p) ≡ held.files.page_size → MaySlot t p (page_at t.base.image p)
  may_slot size =
      let one = out.each p rank at in
      record { some = one.some; low = one.low; below = one.below; long = size ∙ out.goes.agrees.page_size; other = one.other; named = one.named (sym out.goes.agrees.state ∙ out.goes.stalled); same = refl }

  -- and waits no longer then
  pub waits_later : (q : ℕ) → q ≢ p → waits (with_rank p None held.pages) q ≡ waits held.pages q
  waits_later q ne = ap is_some (rank_marked_other p q None held.pages ne)

  pub slot_out : (new : World) → GoesIn new held.files f t (waits (with_rank p None held.pages)) → GoesSlot new (record held { pages = with_rank p None held.pages }) f t
  slot_out new goes = record {
    goes = goes;
    pages = marked_of t.base.image p None held.pages out.pages;
    each = λ q r still. elim (eqb_tells q p) [
      | inl e ↦ absurd (none_some {X = ℕ} _ (sym (rank_marked p None held.pages (waits_there p rank held.pages at)) ∙ sym (ap (rank_of (with_rank p None held.pages)) e.1) ∙ still))
      | inr e ↦ out.each q r (sym (rank_marked_other p q None held.pages e.1) ∙ still)
    ];
  }
