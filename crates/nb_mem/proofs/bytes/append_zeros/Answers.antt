use Rattle.std.proofs.Common.{◌∙◌, ◌+◌, arith}
use Rattle.nb_mem.proofs.PutLaws.{padded-more}
use Rattle.nb_mem.proofs.bytes.append_zeros.Goals as goal

pub returns-clause-ok : goal.returns-clause-ok
returns-clause-ok c = c.in_ok-extend_to.ensures.ok ∙ padded-more c.args.kept.now.items c.args.count (c.len-2.result + c.args.count) (omega arith)
