use Rattle.nb_model.proofs.ControlWell.{begin_well, ends_well, finish_well}
use Rattle.nb_model.proofs.laws.control_strokes_keep_well.Goals as goal

pub returns-clause-begin : goal.returns-clause-begin
returns-clause-begin c = λ kept b guid ask w. begin_well kept b w guid ask

pub returns-clause-ends : goal.returns-clause-ends
returns-clause-ends c = ends_well

pub returns-clause-finish : goal.returns-clause-finish
returns-clause-finish c = finish_well
