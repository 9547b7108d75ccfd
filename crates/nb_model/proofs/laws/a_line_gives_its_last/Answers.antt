use Rattle.nb_model.proofs.LineLaws.{line_applied}
use Rattle.nb_model.proofs.laws.a_line_gives_its_last.Goals as goal

pub returns : goal.returns
returns c = line_applied
