use Rattle.nb_top.proofs.ForcedRuns.{prefix_left, prefix_moments, prefix_ended, forced_pages, forced_new}
use Rattle.nb_top.proofs.laws.forced_writes_leave_a_prefix.Goals as goal

pub returns-clause-moment : goal.returns-clause-moment
returns-clause-moment g c = λ account target events files said left forced. prefix_left account target events forced (g.H.Host.world c.args._before.now) files said left

pub returns-clause-moments : goal.returns-clause-moments
returns-clause-moments g c = λ status asked account given target performs is forced.
    prefix_moments status (g.H.Host.world c.args._before.now) (g.H.Host.world c.args._behind.now) asked account given target performs is forced

pub returns-clause-ended : goal.returns-clause-ended
returns-clause-ended g c = λ told status asked account given target performs is forced finished.
    prefix_ended status (g.H.Host.world c.args._before.now) (g.H.Host.world c.args._behind.now) asked account given target performs is forced (g.met.H.Host.reads_left c.args._behind.now told) finished

pub returns-clause-opened : goal.returns-clause-opened
returns-clause-opened g c = λ b strokes forced pages. forced_pages b strokes forced pages

pub returns-clause-created : goal.returns-clause-created
returns-clause-created g c = λ b size raw strokes pages. forced_new b size raw strokes pages
