use Rattle.std.proofs.Common.{◌≡◌, take, drop, [], reverse}
use Rattle.nb_mem.proofs.Common.{begun, placed_all, names_in}
use Rattle.nb_mem.proofs.LeftLaws.{IsLeftSoFar}
use Rattle.nb_mem.proofs.history.History.left.Given as goal

abbrev pub invariant-loop-slot : goal.invariant-loop-slot
invariant-loop-slot l = record {
  so_far : IsLeftSoFar (reverse l.self-inside.calls.items) l.left (take l.slot-index l.self-inside.slots.items);
  by_choices : placed_all (reverse l.self-inside.calls.items) (names_in (drop l.slot-index l.self-inside.slots.items)) l.left l.choices
      ≡ placed_all (reverse l.self-inside.calls.items) (names_in l.self-inside.slots.items) [] (begun l.fn.pick);
}
