use Rattle.nb_mem.proofs.CrashLaws.{page_may, page_back}
use Rattle.nb_mem.proofs.laws.pages_may.Goals as goal

pub returns : goal.returns
returns c = record { now = page_may; back = page_back }
