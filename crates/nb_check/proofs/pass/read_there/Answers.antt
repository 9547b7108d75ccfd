use Rattle.std.proofs.Common.{arith}
use Rattle.nb_check.proofs.pass.read_there.Goals as goal

pub returns-then-number-count-clause-page : goal.returns-then-number-count-clause-page
returns-then-number-count-clause-page g c t tells is low = absurd (omega (arith, low, c.if-number-count.true, c.count.ensures.value, is.files.agrees.count))
