use Rattle.std.proofs.Common.{ℕ, ◌+◌, ◌*◌, ◌/◌, ◌%◌, ◌^◌, ◌<◌, ap, arith, rules, bit_or, slice_index}
use Rattle.nb_pip.proofs.Common.{set, or_lt, byte_of}
use Rattle.nb_pip.proofs.BitLaws.{SetsBit-or, bits-set, set_byte}
use Rattle.nb_pip.proofs.bits.give.Goals as goal

pub returns-clause-bits : goal.returns-clause-bits
returns-clause-bits c = rw c.byte_of.ensures (bits-set c.args.map.now c.args.bit _ 1 c.requires.bit (SetsBit-or _ (c.args.bit % 8) (omega arith)))

pub returns-clause-page : goal.returns-clause-page
returns-clause-page c =
    let byte : ℕ = slice_index c.args.map.now (byte_of c.args.bit) in
    let low : byte < 256 = search rules in
    let new : ℕ = bit_or byte (1 * 2 ^ (c.args.bit % 8) % 256) in
    let high : new < 256 = or_lt 8 byte (1 * 2 ^ (c.args.bit % 8) % 256) low (omega arith) in
    rw c.byte_of.ensures (ap (λ (n : ℕ). set c.args.map.now (32 + c.args.bit / 8) n) (set_byte byte new (c.args.bit % 8) 1 low high (omega arith) (SetsBit-or byte (c.args.bit % 8) (omega arith))))
