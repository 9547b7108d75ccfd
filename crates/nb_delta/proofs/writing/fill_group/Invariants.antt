use Rattle.std.proofs.Common.{◌≡◌, ℕ, ◌+◌, ◌-◌, ◌*◌, ◌<◌, length, drop, replicate, slice_index}
use Rattle.nb_delta.proofs.Common.{number_in, slots_in}
use Rattle.nb_delta.proofs.writing.fill_group.Given as goal

abbrev pub invariant-loop-i : goal.invariant-loop-i
invariant-loop-i l = record {
  count : number_in 0 4 l.page ≡ l.count;
  behind : drop (4 + 4 * l.i) l.page ≡ replicate (length l.fn.page - (4 + 4 * l.i)) 0;
  numbers : (j : ℕ) → j < l.i → number_in (4 + 4 * j) 4 l.page ≡ slice_index l.entries (l.group * slots_in (length l.fn.page) + j);
}
