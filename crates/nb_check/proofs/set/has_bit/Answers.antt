use Rattle.std.proofs.Common.{ℕ, ◌/◌, ◌%◌, sym, ap, arith, ◌==◌, slice_index}
use Rattle.nb_check.proofs.Common.{shr_and_one, has}
use Rattle.nb_check.proofs.SetBits.{past}
use Rattle.nb_check.proofs.set.has_bit.Goals as goal

pub returns-then-at-bytes : goal.returns-then-at-bytes
returns-then-at-bytes c = sym (past c.args.bytes.now c.args.page (omega arith))

pub returns : goal.returns
unfolding has
returns c = ap (λ (n : ℕ). n == 1) (shr_and_one (slice_index c.args.bytes.now (c.args.page / 8)) (c.args.page % 8))
