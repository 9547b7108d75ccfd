use Rattle.std.proofs.Common.{length, sym, ap, ◌∙◌, arith, Bool}
use Rattle.nb_walk.proofs.Common.{list_all, Slot, is_slot, slots_in, chain_by}
use Rattle.nb_walk.proofs.SlotLaws.{slot_inside, test_first, test_here, test_next, test_last}
use Rattle.nb_walk.proofs.page.are_slots.Goals as goal

pub loop-slot-init : goal.loop-slot-init
loop-slot-init c = record { many = c.slot_count-count.ensures; form = test_first (is_slot (chain_by c.args.chain)) c.args.page.now c.slot_count-count.result c.slot_count-count.ensures }

pub slot_at-requires : goal.slot_at-requires
slot_at-requires c = slot_inside (length c.args.page.now) c.slot_count-count.result c.loop-slot.slot c.slot_count-count.ensures c.loop-slot-test.true

pub returns-then-not-is_slot : goal.returns-then-not-is_slot
returns-then-not-is_slot c =
    let test : Slot → Bool = is_slot (chain_by c.args.chain) in
    let page = c.args.page.now in
    sym (test_here test page c.slot_count-count.result c.loop-slot.slot c.loop-slot-test.true (list_all test (slots_in page)) c.loop-slot.invariant.form
    (ap test (sym c.slot_at.ensures.bytes) ∙ sym c.is_slot.ensures ∙ c.if-not-is_slot.true))

pub loop-slot-preserved : goal.loop-slot-preserved
loop-slot-preserved c =
    let test : Slot → Bool = is_slot (chain_by c.args.chain) in
    let page = c.args.page.now in
    record {
      many = c.loop-slot.invariant.many;
      form = test_next test page c.slot_count-count.result c.loop-slot.slot c.loop-slot-test.true (list_all test (slots_in page)) c.loop-slot.invariant.form
          (ap test (sym c.slot_at.ensures.bytes) ∙ sym c.is_slot.ensures ∙ c.if-not-is_slot.false);
    }

pub returns : goal.returns
returns c =
    let test : Slot → Bool = is_slot (chain_by c.args.chain) in
    sym (test_last test (list_all test (slots_in c.args.page.now)) c.args.page.now c.slot_count-count.result c.loop-slot.slot (omega (arith, c.loop-slot-test.false)) c.loop-slot.invariant.form)
