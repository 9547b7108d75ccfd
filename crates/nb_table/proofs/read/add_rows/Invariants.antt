use Rattle.std.proofs.Common.{◌≡◌, ℕ, ◌+◌, ◌-◌, ◌*◌, ◌/◌, List, length, true}
use Rattle.nb_table.proofs.Common.{list_all, RowsFrom, Spot, is_slot, slots_from, rows_in, Comes}
use Rattle.nb_table.proofs.read.add_rows.Given as goal

abbrev pub invariant-loop-slot : goal.invariant-loop-slot
invariant-loop-slot l = record {
  many : l.count ≡ (length l.fn.page - 32) / 256;
  form : list_all (is_slot (RowsFrom 0)) (slots_from (l.count - l.slot) (32 + 256 * l.slot) l.fn.page) ≡ true;
  comes : (ss : List Spot) (number : ℕ) → l.fn.rows.entries ≡ rows_in ss → Comes (λ xs. l.rows.entries ≡ rows_in xs) ss l.fn.page number l.count l.slot;
}

abbrev pub decreases-loop-slot : goal.decreases-loop-slot
decreases-loop-slot l = l.count - l.slot
