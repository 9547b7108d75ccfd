use Rattle.nb_top.proofs.MemoryLaws.{new_starts, placed_starts, left_starts}
use Rattle.nb_top.proofs.laws.hosts_in_memory_begin_so.Goals as goal

pub returns-clause-none : goal.returns-clause-none
returns-clause-none c = new_starts

pub returns-clause-placed : goal.returns-clause-placed
returns-clause-placed c = placed_starts

pub returns-clause-left : goal.returns-clause-left
returns-clause-left c = λ stopped left is. (is.files, left_starts stopped left is)
