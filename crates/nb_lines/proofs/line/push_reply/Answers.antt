use Rattle.nb_lines.proofs.WordLaws.{words_then}
use Rattle.nb_lines.proofs.line.push_reply.Goals as goal

pub returns-in-Opened-clause-words : goal.returns-in-Opened-clause-words
returns-in-Opened-clause-words c = rw c.in-Opened.is c.push_two.ensures

pub returns-in-Value-clause-words : goal.returns-in-Value-clause-words
returns-in-Value-clause-words c = rw (c.in-Value.is, ← c.as_slice.ensures) c.push_words.ensures

pub returns-in-Leaked-clause-words : goal.returns-in-Leaked-clause-words
returns-in-Leaked-clause-words c = rw c.in-Leaked.is c.push_leaked.ensures

pub returns-in-Planned-clause-words : goal.returns-in-Planned-clause-words
returns-in-Planned-clause-words c = rw c.in-Planned.is c.push_plan.ensures

pub returns-in_ok-push_rows-in-Rows-clause-words : goal.returns-in_ok-push_rows-in-Rows-clause-words
returns-in_ok-push_rows-in-Rows-clause-words c = rw (c.in-Rows.is, ← c.len.ensures) (words_then _ _ _ _ _ c.in_ok-push_ok-in-Rows.ensures c.in_ok-push_rows-in-Rows.ensures)

pub returns-in_ok-push_refusal-in-Refused-clause-words : goal.returns-in_ok-push_refusal-in-Refused-clause-words
returns-in_ok-push_refusal-in-Refused-clause-words c = rw c.in-Refused.is (words_then _ _ _ _ _ c.in_ok-push_words-in-Refused.ensures c.in_ok-push_refusal-in-Refused.ensures)
