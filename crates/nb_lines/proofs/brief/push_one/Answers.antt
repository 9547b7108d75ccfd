use Rattle.nb_lines.proofs.WordLaws.{words_then}
use Rattle.nb_lines.proofs.brief.push_one.Goals as goal

pub returns-clause-words : goal.returns-clause-words
returns-clause-words c = words_then _ _ _ _ _ c.in_ok-push_done.ensures.words c.in_ok-push_field.ensures.words
