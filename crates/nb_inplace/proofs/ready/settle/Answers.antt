use Rattle.std.proofs.Common.{arith}
use Rattle.nb_inplace.proofs.MostLaws.{stamps_tested}
use Rattle.nb_inplace.proofs.ready.settle.Goals as goal

pub returns-clause-within : goal.returns-clause-within
returns-clause-within g c tells = let read = stamps_tested c.args.found.now.is_begun _ _ _ c.if-found.false (c.test_stamps.ensures.within tells) in omega (arith, read, c.sync.ensures.log.reads)
