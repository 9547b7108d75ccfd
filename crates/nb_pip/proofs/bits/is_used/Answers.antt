use Rattle.nb_pip.proofs.Common.{eqb-true, eq-eqb}
use Rattle.nb_pip.proofs.BitLaws.{shr_and_one-bits}
use Rattle.nb_pip.proofs.bits.is_used.Goals as goal

pub returns : goal.returns
returns c = rw (c.byte_of.ensures, shr_and_one-bits c.args.map.now c.args.bit c.requires.bit) (eqb-true _ _, eq-eqb _ _)
