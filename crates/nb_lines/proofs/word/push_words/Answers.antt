use Rattle.std.proofs.Common.{sym}
use Rattle.nb_lines.proofs.Common.{append-nil, spaced}
use Rattle.nb_lines.proofs.WordLaws.{one_word_more}
use Rattle.nb_lines.proofs.word.push_words.Goals as goal

pub loop-word-init : goal.loop-word-init
unfolding spaced
loop-word-init c = sym (append-nil c.args.line.now.items)

pub loop-word-preserved : goal.loop-word-preserved
loop-word-preserved c =
    one_word_more c.args.words.now c.loop-word.word-index c.word-item.result c.args.line.now.items c.loop-word.line.items c.push.new.self.items c.push_word.new.line.items c.loop-word-test.true c.loop-word.invariant c.in_ok-push.ensures.items (rw c.word-item.is at c.in_ok-push_word.ensures)
