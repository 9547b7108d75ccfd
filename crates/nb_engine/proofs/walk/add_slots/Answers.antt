use Rattle.std.proofs.Common.{◌≡◌, ℕ, [], ◌∷◌, ◌++◌, length, sym, ap, ◌∙◌, arith, Bool}
use Rattle.nb_engine.proofs.Common.{History, Slot, is_slot, slot_inside, test_first, passes_here, passes_next, comes_first, comes_next, comes_last, gathered, IsPlaced}
use Rattle.nb_engine.proofs.walk.add_slots.Goals as goal

abbrev test : Slot → Bool
test = is_slot History

pub loop-slot-init : goal.loop-slot-init
loop-slot-init c =
    let page = c.args.page.now in
    let count : ℕ = c.slot_count-count.result in
    record {
      many = c.slot_count-count.ensures;
      form = sym (test_first test page count c.slot_count-count.ensures) ∙ c.requires.form;
      comes = λ ss is. comes_first (λ xs. c.args.walked.now ≡ gathered c.args.wanted.now xs) ss page c.args.number count c.slot_count-count.ensures is;
      placed = λ placed. placed;
    }

pub slot_at-requires : goal.slot_at-requires
slot_at-requires c = slot_inside (length c.args.page.now) c.slot_count-count.result c.loop-slot.slot c.slot_count-count.ensures c.loop-slot-test.true

pub add_slot-requires-clause-form : goal.add_slot-requires-clause-form
add_slot-requires-clause-form c = ap test c.slot_at.ensures.bytes ∙ passes_here test c.args.page.now c.slot_count-count.result c.loop-slot.slot c.loop-slot-test.true c.loop-slot.invariant.form

pub loop-slot-preserved : goal.loop-slot-preserved
loop-slot-preserved c =
    let wanted = c.args.wanted.now in
    let page = c.args.page.now in
    let count : ℕ = c.slot_count-count.result in
    let slot : ℕ = c.loop-slot.slot in
    let place : IsPlaced (length page) (record { page = c.args.number; slot = slot }) = record { low = c.requires.low; high = c.requires.high; inside = slot_inside (length page) count slot c.slot_count-count.ensures c.loop-slot-test.true } in
    record {
      many = c.loop-slot.invariant.many;
      form = passes_next test page count slot c.loop-slot-test.true c.loop-slot.invariant.form;
      comes = λ ss is.
          comes_next (λ xs. c.loop-slot.walked ≡ gathered wanted xs) (λ xs. c.add_slot.new.walked ≡ gathered wanted xs) ss page c.args.number count slot c.loop-slot-test.true (c.loop-slot.invariant.comes ss is)
          (λ front was.
          c.add_slot.ensures.walked front was
          ∙ ap (λ (b : Slot). gathered wanted (front ++ record { page = c.args.number; slot = slot; bytes = b } ∷ [])) c.slot_at.ensures.bytes);
      placed = λ placed. c.add_slot.ensures.placed (length page) place (c.loop-slot.invariant.placed placed);
    }

pub returns-clause-walked : goal.returns-clause-walked
returns-clause-walked c ss is =
    comes_last (λ xs. c.loop-slot.walked ≡ gathered c.args.wanted.now xs) ss c.args.page.now c.args.number c.slot_count-count.result c.loop-slot.slot (omega (arith, c.loop-slot-test.false)) (c.loop-slot.invariant.comes ss is)
