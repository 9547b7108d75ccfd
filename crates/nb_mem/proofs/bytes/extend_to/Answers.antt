use Rattle.std.proofs.Common.{◌∙◌, sym, vec_len, arith}
use Rattle.nb_mem.proofs.Common.{padded-short}
use Rattle.nb_mem.proofs.PutLaws.{padded-long}
use Rattle.nb_mem.proofs.bytes.extend_to.Goals as goal

pub returns-in_ok-resize-clause-ok : goal.returns-in_ok-resize-clause-ok
returns-in_ok-resize-clause-ok c = c.in_ok-resize.ensures.items ∙ padded-long c.args.kept.now.items c.args.len (vec_len c.args.kept.now) (omega arith) (omega arith)

pub returns-else-len-clause-ok : goal.returns-else-len-clause-ok
returns-else-len-clause-ok c = sym (padded-short c.args.kept.now.items c.args.len (omega arith))
