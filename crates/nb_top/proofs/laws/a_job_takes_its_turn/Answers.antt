use Rattle.nb_top.proofs.JobLaws.{turn_done}
use Rattle.nb_top.proofs.laws.a_job_takes_its_turn.Goals as goal

pub returns : goal.returns
returns c = λ files deed name turn account is. turn_done files deed (name, turn) account is
