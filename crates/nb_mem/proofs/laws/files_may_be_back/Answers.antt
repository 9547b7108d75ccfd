use Rattle.nb_mem.proofs.CrashLaws.{made_may, removed_may}
use Rattle.nb_mem.proofs.laws.files_may_be_back.Goals as goal

pub returns : goal.returns
returns c = record { made = made_may; removed = removed_may }
