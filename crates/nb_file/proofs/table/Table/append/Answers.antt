use Rattle.std.proofs.Common.{subst}
use Rattle.nb_file.proofs.Common.{IsFreeFor, on_ok}
use Rattle.nb_file.proofs.TableLaws.{free_for_named, free_for_name}
use Rattle.nb_file.proofs.table.Table.append.Goals as goal

pub append-outcome-requires : goal.append-outcome-requires
append-outcome-requires g c = record { mine = free_for_named (λ held. held.name) c.claim_or_make.new.self.files.items _ c.in_ok-i.i c.args.name.now c.index_mut.ensures.value c.in_ok-i.ensures.name _ (c.in_ok-i.ensures.free c.turn_to.ensures.free) }

pub returns : goal.returns
returns g c = on_ok c.named.result (free_for_name (λ held. held.name) c.claim_or_make.new.self.files.items _ c.in_ok-i.i c.args.name.now c.index_mut.ensures.value c.in_ok-i.ensures.name c.append-outcome.new.waiting.name (subst (λ n. IsFreeFor c.append-outcome.new.waiting.name n) c.append-outcome.ensures.same.0 c.append-outcome.ensures.mine))
