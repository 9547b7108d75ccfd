use Rattle.nb_model.proofs.ReadTurns.{turn_strokes, turn_next, turn_made, run_reads}
use Rattle.nb_model.proofs.history_laws.statements_that_only_read_write_nothing.Goals as goal

pub returns-clause-strokes : goal.returns-clause-strokes
returns-clause-strokes c = turn_strokes

pub returns-clause-next : goal.returns-clause-next
returns-clause-next c = turn_next

pub returns-clause-file : goal.returns-clause-file
returns-clause-file c = turn_made

pub returns-clause-run : goal.returns-clause-run
returns-clause-run c = run_reads
