use Rattle.nb_pip.proofs.LowestLaws.{AreZeros-rest, IsLowestOne-rest}
use Rattle.nb_pip.proofs.bits.lowest_one.Goals as goal

pub returns-then-rest-eq0 : goal.returns-then-rest-eq0
returns-then-rest-eq0 c = AreZeros-rest c.args.byte c.args.from c.if-rest-eq0.true

pub returns-else-rest-eq0 : goal.returns-else-rest-eq0
returns-else-rest-eq0 c = IsLowestOne-rest c.args.byte c.args.from c.ranges.byte.fits c.if-rest-eq0.false
