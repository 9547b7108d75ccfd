use Rattle.std.proofs.Common.{◌%◌, arith}
use Rattle.nb_check.proofs.Common.{SetsBit-or}
use Rattle.nb_check.proofs.SetBits.{inserted}
use Rattle.nb_check.proofs.set.set_bit.Goals as goal

pub returns : goal.returns
returns c p = inserted c.args.bytes.now c.args.page _ (omega (arith, c.requires)) (SetsBit-or _ (c.args.page % 8) (omega arith)) p
