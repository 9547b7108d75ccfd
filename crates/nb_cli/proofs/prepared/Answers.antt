use Rattle.nb_cli.proofs.ArgLaws.{begins_without, read_without}
use Rattle.nb_cli.proofs.prepared.Goals as goal

pub returns-in-Ok-clause-begins : goal.returns-in-Ok-clause-begins
returns-in-Ok-clause-begins g c = record {
  read = c.job_named-job.ensures;
  held = c.in-Ok.ensures.held;
  told = λ tells. c.in-Ok.ensures.script tells;
  still = c.prepare.ensures.files;
  silent = c.prepare.ensures.log;
  passes = c.prepare.ensures.time;
}

pub returns-in-Err-clause-begins : goal.returns-in-Err-clause-begins
returns-in-Err-clause-begins g c =
    begins_without g.H.Host.tells g.H.Host.world g.H.Beside.alone c.args.words.now c.job_named-job.result c.without_memory.result _ c.args.host.now c.prepare.new.self c.job_named-job.ensures c.without_memory.ensures c.prepare.ensures.files c.prepare.ensures.log c.prepare.ensures.time

pub returns-in-Err-clause-read : goal.returns-in-Err-clause-read
returns-in-Err-clause-read g c = read_without c.args.words.now c.job_named-job.result c.without_memory.result c.job_named-job.ensures c.without_memory.ensures
