use Rattle.nb_top.proofs.RequestLaws.{read_fits}
use Rattle.nb_trials.proofs.play.tell_broken.Goals as goal

pub run_read-status-requires-clause-read : goal.run_read-status-requires-clause-read
run_read-status-requires-clause-read c = read_fits _ c.read_job.result c.read_job.ensures.job c.read_job.ensures.refusal
