use Rattle.std.proofs.Common.{◌≡◌, ℕ, length, sym, ap, ◌∙◌, arith, Bool}
use Rattle.nb_table.proofs.Common.{Slot, is_slot, chain_of, gathered, IsPlaced, slot_inside, test_first, passes_here, passes_next, comes_first, comes_last}
use Rattle.nb_table.proofs.GatherLaws.{gathered_next}
use Rattle.nb_table.proofs.walk.add_slots.Goals as goal

pub loop-slot-init : goal.loop-slot-init
loop-slot-init c =
    let test : Slot → Bool = is_slot (chain_of c.args.sought.now) in
    let page = c.args.page.now in
    let count : ℕ = c.slot_count-count.result in
    record {
      many = c.slot_count-count.ensures;
      form = sym (test_first test page count c.slot_count-count.ensures) ∙ c.requires.form;
      comes = λ ss is. comes_first (λ xs. c.args.walked.now ≡ gathered c.args.sought.now xs) ss page c.args.number count c.slot_count-count.ensures is;
      found = λ found. found;
      filled = λ filled. filled;
      room = λ room. room;
    }

pub slot_at-requires : goal.slot_at-requires
slot_at-requires c = slot_inside (length c.args.page.now) c.slot_count-count.result c.loop-slot.slot c.slot_count-count.ensures c.loop-slot-test.true

pub add_slot-requires-clause-form : goal.add_slot-requires-clause-form
add_slot-requires-clause-form c =
    let test : Slot → Bool = is_slot (chain_of c.args.sought.now) in
    ap test c.slot_at.ensures.bytes ∙ passes_here test c.args.page.now c.slot_count-count.result c.loop-slot.slot c.loop-slot-test.true c.loop-slot.invariant.form

pub loop-slot-preserved : goal.loop-slot-preserved
loop-slot-preserved c =
    let test : Slot → Bool = is_slot (chain_of c.args.sought.now) in
    let page = c.args.page.now in
    let count : ℕ = c.slot_count-count.result in
    let slot : ℕ = c.loop-slot.slot in
    let placed : IsPlaced (length page) (record { page = c.args.number; slot = slot }) = record { low = c.requires.low; high = c.requires.high; inside = slot_inside (length page) count slot c.slot_count-count.ensures c.loop-slot-test.true } in
    record {
      many = c.loop-slot.invariant.many;
      form = passes_next test page count slot c.loop-slot-test.true c.loop-slot.invariant.form;
      comes = λ ss is.
          gathered_next c.args.sought.now c.loop-slot.walked c.add_slot.new.walked ss page c.args.number count slot c.loop-slot-test.true _ c.slot_at.ensures.bytes c.add_slot.ensures.walked (c.loop-slot.invariant.comes ss is);
      found = λ found. c.add_slot.ensures.found (length page) placed (c.loop-slot.invariant.found found);
      filled = λ filled. c.add_slot.ensures.filled (c.loop-slot.invariant.filled filled);
      room = λ room. c.add_slot.ensures.room (length page) placed (c.loop-slot.invariant.room room);
    }

pub returns-clause-walked : goal.returns-clause-walked
returns-clause-walked c ss is =
    comes_last (λ xs. c.loop-slot.walked ≡ gathered c.args.sought.now xs) ss c.args.page.now c.args.number c.slot_count-count.result c.loop-slot.slot (omega (arith, c.loop-slot-test.false)) (c.loop-slot.invariant.comes ss is)
