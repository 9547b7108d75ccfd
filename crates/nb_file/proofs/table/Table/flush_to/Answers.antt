use Rattle.nb_file.proofs.TableLaws.{free_for_named}
use Rattle.nb_file.proofs.table.Table.flush_to.Goals as goal

pub flush-outcome-requires : goal.flush-outcome-requires
flush-outcome-requires g c = record { mine = free_for_named (λ held. held.name) c.args.self.now.files.items _ c.in-Some.i c.args.name.now c.index_mut.ensures.value c.in-Some.ensures.name _ c.requires }
