use Rattle.std.proofs.Common.{map, string_bytes}
use Rattle.nb_top.proofs.RequestLaws.{read_asks, read_fits}
use Rattle.nb_top.proofs.program.run.Goals as goal

pub run_read-requires-clause-read : goal.run_read-requires-clause-read
run_read-requires-clause-read g c = read_fits (map string_bytes c.args.words.now) c.read_job.result c.read_job.ensures.job c.read_job.ensures.refusal

pub returns-clause-performs : goal.returns-clause-performs
returns-clause-performs g c =
    let old = g.H.Host.world c.args.host.now in
    let words = map string_bytes c.args.words.now in
    c.run_read.ensures.runs _ (read_asks old.files words c.read_job.result c.read_job.ensures.job c.read_job.ensures.refusal)
