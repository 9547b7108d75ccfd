use Rattle.nb_lines.proofs.WordLaws.{plan_said}
use Rattle.nb_lines.proofs.line.push_plan.Goals as goal

pub returns : goal.returns
returns c = rw (← c.len.ensures, ← c.len-2.ensures, ← c.as_slice.ensures, ← c.as_slice-2.ensures) (plan_said _ _ _ _ _ _ _ c.in_ok-push_ok.ensures c.in_ok-push_names.ensures c.in_ok-push_names-2.ensures)
