use Rattle.std.proofs.Common.{arith}
use Rattle.nb_pip.proofs.LowestLaws.{IsLowestFree-in_byte, AreUsed-in_byte, AreUsed-none}
use Rattle.nb_pip.proofs.bits.lowest_free.Goals as goal

pub returns-then-free-below : goal.returns-then-free-below
returns-then-free-below c =
    let lowest = rw c.byte_of.ensures at c.in-Some.ensures in
    let loop = c.loop-bit.invariant in
    IsLowestFree-in_byte c.args.map.now c.args.from c.loop-bit.bit loop.none_before c.args.below c.in-Some.i c.requires.below lowest loop.not_before c.if-free-below.true

pub returns-else-free-below : goal.returns-else-free-below
returns-else-free-below c =
    let lowest = rw c.byte_of.ensures at c.in-Some.ensures in
    AreUsed-in_byte c.args.map.now c.args.from c.loop-bit.bit c.loop-bit.invariant.none_before c.args.below c.in-Some.i c.requires.below lowest c.if-free-below.false

pub returns : goal.returns
returns c = AreUsed-none c.args.map.now c.args.from c.args.below c.requires.below (λ k low high. c.loop-bit.invariant.none_before k low (omega arith))
