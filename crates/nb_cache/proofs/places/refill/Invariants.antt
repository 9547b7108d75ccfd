use Rattle.std.proofs.Common.{◌≡◌, ◌≤◌, ◌+◌, ◌*◌, ◌++◌, length}
use Rattle.nb_cache.proofs.Common.{Frames, Finds, places, left_in, room_of}
use Rattle.nb_cache.proofs.places.refill.Given as goal

abbrev pub invariant-loop-key : goal.invariant-loop-key
invariant-loop-key l = record {
  before : Frames;
  parts : l.frames.entries ≡ before ++ l.key-iterator;
  size : length before + l.left ≡ l.held;
  finds : Finds l.index (places before);
  room : 2 * length l.frames.entries ≤ room_of l.index;
  left : 2 * length l.frames.entries ≤ left_in l.index + length before;
}
