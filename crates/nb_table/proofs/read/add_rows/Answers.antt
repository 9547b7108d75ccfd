use Rattle.std.proofs.Common.{◌≡◌, ℕ, length, sym, ap, ◌∙◌, arith, Bool}
use Rattle.nb_table.proofs.Common.{RowsFrom, Slot, is_slot, rows_in, slot_inside, test_first, passes_here, passes_next, comes_first, comes_next, comes_last}
use Rattle.nb_table.proofs.read.add_rows.Goals as goal

pub loop-slot-init : goal.loop-slot-init
loop-slot-init c =
    let test : Slot → Bool = is_slot (RowsFrom 0) in
    let page = c.args.page.now in
    let count : ℕ = c.slot_count-count.result in
    record {
      many = c.slot_count-count.ensures;
      form = sym (test_first test page count c.slot_count-count.ensures) ∙ c.requires.form;
      comes = λ ss number is. comes_first (λ xs. c.args.rows.now.entries ≡ rows_in xs) ss page number count c.slot_count-count.ensures is;
    }

pub slot_at-requires : goal.slot_at-requires
slot_at-requires c = slot_inside (length c.args.page.now) c.slot_count-count.result c.loop-slot.slot c.slot_count-count.ensures c.loop-slot-test.true

pub add_row-requires-clause-form : goal.add_row-requires-clause-form
add_row-requires-clause-form c =
    let test : Slot → Bool = is_slot (RowsFrom 0) in
    ap test c.slot_at.ensures.bytes ∙ passes_here test c.args.page.now c.slot_count-count.result c.loop-slot.slot c.loop-slot-test.true c.loop-slot.invariant.form

pub loop-slot-preserved : goal.loop-slot-preserved
loop-slot-preserved c =
    let test : Slot → Bool = is_slot (RowsFrom 0) in
    let page = c.args.page.now in
    let count : ℕ = c.slot_count-count.result in
    let slot : ℕ = c.loop-slot.slot in
    record {
      many = c.loop-slot.invariant.many;
      form = passes_next test page count slot c.loop-slot-test.true c.loop-slot.invariant.form;
      comes = λ ss number is.
          comes_next (λ xs. c.loop-slot.rows.entries ≡ rows_in xs) (λ xs. c.add_row.new.rows.entries ≡ rows_in xs) ss page number count slot c.loop-slot-test.true (c.loop-slot.invariant.comes ss number is)
          (λ front was. c.in_ok-add_row.ensures.rows front _ was (sym c.slot_at.ensures.bytes));
    }

pub returns-clause-rows : goal.returns-clause-rows
returns-clause-rows c ss number is =
    comes_last (λ xs. c.loop-slot.rows.entries ≡ rows_in xs) ss c.args.page.now number c.slot_count-count.result c.loop-slot.slot (omega (arith, c.loop-slot-test.false)) (c.loop-slot.invariant.comes ss number is)
