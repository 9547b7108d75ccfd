use Rattle.std.proofs.Common.{◌≡◌, ◌+◌, ◌-◌, ◌*◌, ◌/◌, List, length, IfSome, IsTrue, true}
use Rattle.nb_table.proofs.Common.{list_all, Spot, is_slot, is_filled, slots_from, chain_of, gathered, IsPlaced, Comes}
use Rattle.nb_table.proofs.walk.add_slots.Given as goal

abbrev pub invariant-loop-slot : goal.invariant-loop-slot
invariant-loop-slot l = record {
  many : l.count ≡ (length l.fn.page - 32) / 256;
  form : list_all (is_slot (chain_of l.fn.sought)) (slots_from (l.count - l.slot) (32 + 256 * l.slot) l.fn.page) ≡ true;
  comes : (ss : List Spot) → l.fn.walked ≡ gathered l.fn.sought ss → Comes (λ xs. l.walked ≡ gathered l.fn.sought xs) ss l.fn.page l.fn.number l.count l.slot;
  found : IfSome l.fn.walked.found (λ f. IsPlaced (length l.fn.page) f.place) → IfSome l.walked.found (λ f. IsPlaced (length l.fn.page) f.place);
  filled : IfSome l.fn.walked.found (λ f. IsTrue (is_filled (chain_of l.fn.sought) f.bytes)) → IfSome l.walked.found (λ f. IsTrue (is_filled (chain_of l.fn.sought) f.bytes));
  room : IfSome l.fn.walked.room (IsPlaced (length l.fn.page)) → IfSome l.walked.room (IsPlaced (length l.fn.page));
}

abbrev pub decreases-loop-slot : goal.decreases-loop-slot
decreases-loop-slot l = l.count - l.slot
