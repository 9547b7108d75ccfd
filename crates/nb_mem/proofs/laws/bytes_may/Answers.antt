use Rattle.nb_mem.proofs.CrashLaws.{append_may, append_back}
use Rattle.nb_mem.proofs.laws.bytes_may.Goals as goal

pub returns : goal.returns
returns c = record { now = append_may; back = append_back }
