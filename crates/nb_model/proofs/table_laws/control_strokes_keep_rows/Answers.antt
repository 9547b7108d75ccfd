use Rattle.nb_model.proofs.ControlRows.{begin_rows, ends_rows, finish_rows}
use Rattle.nb_model.proofs.table_laws.control_strokes_keep_rows.Goals as goal

pub returns-clause-begins : goal.returns-clause-begins
returns-clause-begins c = λ b guid ask header is neat scn sixteen. begin_rows b header is neat guid ask scn sixteen

pub returns-clause-ends : goal.returns-clause-ends
returns-clause-ends c = ends_rows

pub returns-clause-finishes : goal.returns-clause-finishes
returns-clause-finishes c = finish_rows
