use Rattle.std.proofs.Common.{ap, ◌∙◌}
use Rattle.nb_fold.proofs.Common.{head_of}
use Rattle.nb_fold.proofs.FoldLaws.{first_there, last_there, head_is}
use Rattle.nb_fold.proofs.folding.folded_head.Goals as goal

pub returns-clause-head : goal.returns-clause-head
returns-clause-head c files names cs opened =
    head_is c.head-level.result c.head-scn.result cs (ap head_of c.head-level.ensures.value ∙ first_there files names c.args.sources.now cs c.index-sources-0.result opened c.requires c.index-sources-0.is)
    (ap head_of c.head-scn.ensures.value ∙ last_there files names c.args.sources.now cs c.index-sources-sources.result opened c.requires c.index-sources-sources.is)
