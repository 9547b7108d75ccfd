use Rattle.nb_lines.proofs.Common.{refusal_words}
use Rattle.nb_lines.proofs.WordLaws.{all_then}
use Rattle.nb_lines.proofs.line.push_refusal.Goals as goal

pub returns : goal.returns
returns c = all_then 2 (refusal_words c.args.refusal.now) _ _ _ (rw (← c.name_of-code.ensures) c.in_ok-push_words.ensures) c.in_ok-push_fields.ensures
