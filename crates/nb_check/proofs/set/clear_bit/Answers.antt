use Rattle.std.proofs.Common.{◌%◌, arith}
use Rattle.nb_check.proofs.Common.{SetsBit-clear}
use Rattle.nb_check.proofs.SetBits.{removed, removed_past}
use Rattle.nb_check.proofs.set.clear_bit.Goals as goal

pub returns-then-at-bytes : goal.returns-then-at-bytes
returns-then-at-bytes c = removed_past c.args.bytes.now c.args.page (omega arith)

pub returns : goal.returns
returns c = removed c.args.bytes.now c.args.page _ (omega arith) (SetsBit-clear _ (c.args.page % 8) (omega arith))
