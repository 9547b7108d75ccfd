use Rattle.std.proofs.Common.{ℕ, ◌+◌, ◌%◌, ◌/◌, ap, arith, rules}
use Rattle.nb_pip.proofs.Common.{set}
use Rattle.nb_pip.proofs.BitLaws.{SetsBit-clear, bits-set, set_byte}
use Rattle.nb_pip.proofs.bits.take.Goals as goal

pub returns-clause-bits : goal.returns-clause-bits
returns-clause-bits c = rw c.byte_of.ensures (bits-set c.args.map.now c.args.bit _ 0 c.requires.bit (SetsBit-clear _ (c.args.bit % 8) (omega arith)))

pub returns-clause-page : goal.returns-clause-page
returns-clause-page c = rw c.byte_of.ensures (ap (λ (byte : ℕ). set c.args.map.now (32 + c.args.bit / 8) byte) (set_byte _ _ (c.args.bit % 8) 0 (search rules) (search rules) (omega arith) (SetsBit-clear _ (c.args.bit % 8) (omega arith))))
