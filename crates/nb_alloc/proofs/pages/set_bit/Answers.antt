use Rattle.std.proofs.Common.{true, false}
use Rattle.nb_alloc.proofs.MarkLaws.{bit_written}
use Rattle.nb_alloc.proofs.pages.set_bit.Goals as goal

pub returns-then-free : goal.returns-then-free
returns-then-free c = bit_written c.args.index c.args.free true _ _ c.if-free.true c.give.ensures.page

pub returns-else-free : goal.returns-else-free
returns-else-free c = bit_written c.args.index c.args.free false _ _ c.if-free.false c.take.ensures.page
