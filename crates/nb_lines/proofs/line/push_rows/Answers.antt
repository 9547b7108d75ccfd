use Rattle.std.proofs.Common.{sym, arith}
use Rattle.nb_lines.proofs.Common.{append-nil, spaced}
use Rattle.nb_lines.proofs.WordLaws.{one_row_more}
use Rattle.nb_lines.proofs.line.push_rows.Goals as goal

pub loop-i-init : goal.loop-i-init
unfolding spaced
loop-i-init c = sym (append-nil c.args.line.now.items)

pub loop-i-preserved : goal.loop-i-preserved
loop-i-preserved c = one_row_more c.args.rows.now c.loop-i.i _ c.args.line.now.items c.loop-i.line.items c.push_words.new.line.items (omega arith) c.row-key.ensures c.loop-i.invariant c.in_ok-push_words.ensures
