use Rattle.std.proofs.Common.{◌≡◌, ◌+◌, ◌++◌, length, map}
use Rattle.nb_cache.proofs.Common.{IsNext, Frames, slot_in}
use Rattle.nb_cache.proofs.next.next_waiting.Given as goal

abbrev pub invariant-loop-frame : goal.invariant-loop-frame
invariant-loop-frame l = (before : Frames) × (l.frames.entries ≡ before ++ l.frame-iterator) × (length before + l.left ≡ l.held) × IsNext (map slot_in before) l.next
