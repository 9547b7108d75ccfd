use Rattle.std.proofs.Common.{subst, Err, refl}
use Rattle.nb_host.specs.declared.faults.RunError.{RunError}
use Rattle.nb_top.specs.Goes.{Goes}
use Rattle.nb_top.proofs.GoesLaws.{run_ends}
use Rattle.nb_top.proofs.RequestLaws.{read_can}
use Rattle.nb_top.proofs.program.run_read.Goals as goal

pub returns-in-Ok-clause-runs : goal.returns-in-Ok-clause-runs
returns-in-Ok-clause-runs g c asked by =
    let old = g.H.Host.world c.args.host.now in
    run_ends g.H.Host.world g.H.Host.tells c.args.host.now c.do_job.new.host asked (read_can old.files c.args.job.now asked c.requires.read by) (g.met.H.Host.reads_left c.args.host.now) (g.met.H.Host.timely c.do_job.new.host)
    (g.met.H.Host.reads_left c.do_job.new.host) _ (c.in-Ok.ensures.goes asked by)

pub returns-in-Err-Device-clause-runs : goal.returns-in-Err-Device-clause-runs
returns-in-Err-Device-clause-runs g c asked by =
    let old = g.H.Host.world c.args.host.now in
    run_ends g.H.Host.world g.H.Host.tells c.args.host.now c.do_job.new.host asked (read_can old.files c.args.job.now asked c.requires.read by) (g.met.H.Host.reads_left c.args.host.now) (g.met.H.Host.timely c.do_job.new.host)
    (g.met.H.Host.reads_left c.do_job.new.host) _ (subst (λ (e : RunError). Goes g.H.Host.world g.H.Host.tells (Err e) c.args.host.now c.do_job.new.host asked) c.in-Err-Device.field-0-is (c.in-Err-Device.ensures.goes asked by))

pub returns-in-Err-Memory-clause-runs : goal.returns-in-Err-Memory-clause-runs
returns-in-Err-Memory-clause-runs g c asked by =
    let old = g.H.Host.world c.args.host.now in
    run_ends g.H.Host.world g.H.Host.tells c.args.host.now c.do_job.new.host asked (read_can old.files c.args.job.now asked c.requires.read by) (g.met.H.Host.reads_left c.args.host.now) (g.met.H.Host.timely c.do_job.new.host)
    (g.met.H.Host.reads_left c.do_job.new.host) _ (subst (λ (e : RunError). Goes g.H.Host.world g.H.Host.tells (Err e) c.args.host.now c.do_job.new.host asked) c.in-Err-Memory.field-0-is (c.in-Err-Memory.ensures.goes asked by))

pub returns-in-Ok-clause-danger : goal.returns-in-Ok-clause-danger
returns-in-Ok-clause-danger g c tells not_device not_memory db is = c.in-Ok.ensures.danger tells db is

pub returns-in-Err-Device-clause-danger : goal.returns-in-Err-Device-clause-danger
returns-in-Err-Device-clause-danger g c tells not_device not_memory db is = absurd (not_device refl)

pub returns-in-Err-Memory-clause-danger : goal.returns-in-Err-Memory-clause-danger
returns-in-Err-Memory-clause-danger g c tells not_device not_memory db is = absurd (not_memory refl)
