use Rattle.nb_lines.proofs.Common.{spaced, word_text}
use Rattle.nb_lines.proofs.brief.push_done.Goals as goal

pub returns-clause-words : goal.returns-clause-words
unfolding spaced word_text
returns-clause-words c = c.in_ok-extend_from_slice.ensures.items
