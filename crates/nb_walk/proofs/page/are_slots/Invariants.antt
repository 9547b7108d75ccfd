use Rattle.std.proofs.Common.{◌≡◌, ◌+◌, ◌-◌, ◌*◌, ◌/◌, length}
use Rattle.nb_walk.proofs.Common.{list_all, is_slot, slots_from, slots_in, chain_by}
use Rattle.nb_walk.proofs.page.are_slots.Given as goal

abbrev pub invariant-loop-slot : goal.invariant-loop-slot
invariant-loop-slot l = record {
  many : l.count ≡ (length l.fn.page - 32) / 256;
  form : list_all (is_slot (chain_by l.fn.chain)) (slots_in l.fn.page) ≡ list_all (is_slot (chain_by l.fn.chain)) (slots_from (l.count - l.slot) (32 + 256 * l.slot) l.fn.page);
}

abbrev pub decreases-loop-slot : goal.decreases-loop-slot
decreases-loop-slot l = l.count - l.slot
