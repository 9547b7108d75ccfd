use Rattle.std.proofs.Common.{sym, arith}
use Rattle.nb_lines.proofs.Common.{append-nil, spaced}
use Rattle.nb_lines.proofs.WordLaws.{one_page_more}
use Rattle.nb_lines.proofs.line.push_pages.Goals as goal

pub loop-page-init : goal.loop-page-init
unfolding spaced
loop-page-init c = sym (append-nil c.args.line.now.items)

pub loop-page-preserved : goal.loop-page-preserved
loop-page-preserved c = one_page_more c.args.pages.now c.loop-page.page-index 0 c.args.line.now.items c.loop-page.line.items c.push_words.new.line.items (omega arith) c.loop-page.invariant c.in_ok-push_words.ensures
