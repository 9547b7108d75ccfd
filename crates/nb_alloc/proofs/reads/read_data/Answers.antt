use Rattle.std.proofs.Common.{arith}
use Rattle.nb_alloc.proofs.DataLaws.{no_data_first}
use Rattle.nb_alloc.proofs.reads.read_data.Goals as goal

pub returns-then-number-eq0-clause-reads : goal.returns-then-number-eq0-clause-reads
returns-then-number-eq0-clause-reads g c t tells is = record { test = no_data_first t.base.image c.args.owner c.args.number is.files.agrees.header c.if-number-eq0.true; page = tt }

pub returns-clause-high : goal.returns-clause-high
returns-clause-high g c = omega (arith, c.in_ok-read_system.ensures.below, c.count-count.ensures.value, c.count-count.ensures.most)
