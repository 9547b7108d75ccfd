use Rattle.nb_file.proofs.TableLaws.{free_for_named}
use Rattle.nb_file.proofs.table.Table.make.Goals as goal

pub empty-outcome-requires : goal.empty-outcome-requires
empty-outcome-requires g c = let name = rw c.in-Some.is at c.in_ok-i.ensures.name in record { mine = free_for_named (λ held. held.name) c.claim.new.self.files.items _ c.in-Some.i c.args.name.now c.index_mut.ensures.value name _ (c.in_ok-i.ensures.free c.turn_to.ensures.free) }
