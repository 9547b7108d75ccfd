use Rattle.std.proofs.Common.{sym, subst}
use Rattle.nb_cases.proofs.Common.{AreTheSyncs}
use Rattle.nb_cases.proofs.SyncLaws.{the_syncs}
use Rattle.nb_cases.proofs.syncs.table.Goals as goal

pub returns : goal.returns
returns c = subst AreTheSyncs (sym c.cases.ensures) the_syncs
