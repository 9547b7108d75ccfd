use Rattle.nb_catalog.proofs.lines.+is_in_line_at.Given as goal

abbrev pub decreases-is_in_line_at : goal.decreases-is_in_line_at
decreases-is_in_line_at l = l.level
