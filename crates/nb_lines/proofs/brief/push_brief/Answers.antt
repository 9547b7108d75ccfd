use Rattle.nb_lines.proofs.WordLaws.{words_then}
use Rattle.nb_lines.proofs.brief.push_brief.Goals as goal

pub returns-in_ok-push_field-in-ScnPages-clause-words : goal.returns-in_ok-push_field-in-ScnPages-clause-words
returns-in_ok-push_field-in-ScnPages-clause-words c = rw c.in-ScnPages.is (words_then _ _ _ _ _ c.in_ok-push_one-in-ScnPages.ensures.words c.in_ok-push_field-in-ScnPages.ensures.words)

pub returns-in_ok-push_field-in-Activated-clause-words : goal.returns-in_ok-push_field-in-Activated-clause-words
returns-in_ok-push_field-in-Activated-clause-words c = rw c.in-Activated.is (words_then _ _ _ _ _ c.in_ok-push_one-in-Activated.ensures.words c.in_ok-push_field-in-Activated.ensures.words)
