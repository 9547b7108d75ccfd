use Rattle.nb_mem.proofs.CrashLaws.{synced_may, others_may}
use Rattle.nb_mem.proofs.laws.synced_stay.Goals as goal

pub returns : goal.returns
returns c = record { synced = synced_may; others = others_may }
