use Rattle.std.proofs.Common.{length}
use Rattle.nb_base.proofs.MakingLaws.{MakesFile}
use Rattle.nb_base.proofs.beginnings.make_file.Given as goal

abbrev pub invariant-loop-number : goal.invariant-loop-number
invariant-loop-number g l = MakesFile g.H.Host.tells g.H.Host.world g.H.Host.faults l.fn.host l.host l.name (length l.fn.page) l.raw l.number
