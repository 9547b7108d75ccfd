use Rattle.nb_lines.proofs.WordLaws.{words_then}
use Rattle.nb_lines.proofs.line.push_leaked.Goals as goal

pub returns : goal.returns
returns c = rw (← c.len.ensures, ← c.as_slice.ensures) (words_then _ _ _ _ _ c.in_ok-push_ok.ensures c.in_ok-push_pages.ensures)
