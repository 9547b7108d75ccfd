use Rattle.std.proofs.Common.{◌≡◌, ◌+◌, ◌-◌, ◌*◌, ◌/◌, List, length, IfSome, true}
use Rattle.nb_engine.proofs.Common.{list_all, History, Spot, is_slot, slots_from, Comes, gathered, IsPlaced}
use Rattle.nb_engine.proofs.walk.add_slots.Given as goal

abbrev pub invariant-loop-slot : goal.invariant-loop-slot
invariant-loop-slot l = record {
  many : l.count ≡ (length l.fn.page - 32) / 256;
  form : list_all (is_slot History) (slots_from (l.count - l.slot) (32 + 256 * l.slot) l.fn.page) ≡ true;
  comes : (ss : List Spot) → l.fn.walked ≡ gathered l.fn.wanted ss → Comes (λ xs. l.walked ≡ gathered l.fn.wanted xs) ss l.fn.page l.fn.number l.count l.slot;
  placed : IfSome l.fn.walked.room (IsPlaced (length l.fn.page)) → IfSome l.walked.room (IsPlaced (length l.fn.page));
}

abbrev pub decreases-loop-slot : goal.decreases-loop-slot
decreases-loop-slot l = l.count - l.slot
