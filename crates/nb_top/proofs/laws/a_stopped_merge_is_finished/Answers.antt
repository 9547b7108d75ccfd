use Rattle.nb_top.proofs.StoppedMerges.{durable_left, run_stopped, run_reads, run_finishes, starts_durable, two_runs, way_first}
use Rattle.nb_top.proofs.Common.{delta_name}
use Rattle.nb_top.proofs.laws.a_stopped_merge_is_finished.Goals as goal

pub returns-clause-runs : goal.returns-clause-runs
returns-clause-runs g c = λ told db name bytes contents first second mergeable own beside level run left said is starts next device memory.
    let before = g.H.Host.world c.args._before.now in
    two_runs g.H.Host.world g.H.Host.tells told db name bytes contents first second c.args._before.now c.args._stopped.now c.args._again.now c.args._behind.now (g.met.H.Host.timely c.args._behind.now) mergeable
    (durable_left before db own) (durable_left before (delta_name db) beside) (durable_left before name level) run left said is starts next device memory

pub returns-clause-begins : goal.returns-clause-begins
returns-clause-begins g c = λ files db name bytes contents mergeable. way_first files db name bytes contents mergeable

pub returns-clause-stopped : goal.returns-clause-stopped
returns-clause-stopped g c = λ told start db name bytes contents status mergeable way own beside level run.
    let again = g.H.Host.world c.args._again.now in
    run_stopped g.H.Host.world g.H.Host.tells told start db name bytes contents mergeable status c.args._again.now c.args._behind.now run way (durable_left again db own) (durable_left again (delta_name db) beside) (durable_left again name level)

pub returns-clause-reads : goal.returns-clause-reads
returns-clause-reads g c = λ told start db name bytes contents status mergeable way run. run_reads g.H.Host.world g.H.Host.tells told start db name bytes contents mergeable status c.args._again.now c.args._behind.now run way

pub returns-clause-finishes : goal.returns-clause-finishes
returns-clause-finishes g c = λ told start db name bytes contents status mergeable way own beside level run device memory.
    let again = g.H.Host.world c.args._again.now in
    run_finishes g.H.Host.world g.H.Host.tells told start db name bytes contents mergeable status c.args._again.now c.args._behind.now run way (g.met.H.Host.timely c.args._behind.now)
    (durable_left again db own) (durable_left again (delta_name db) beside) (durable_left again name level) device memory

pub returns-clause-starts : goal.returns-clause-starts
returns-clause-starts g c = λ files name starts. starts_durable (g.H.Host.world c.args._again.now) files starts name
