use Rattle.std.proofs.Common.{subst}
use Rattle.nb_file.proofs.Common.{IsFreeFor, on_ok}
use Rattle.nb_file.proofs.TableLaws.{free_for_named, free_for_name}
use Rattle.nb_file.proofs.table.Table.write_page.Goals as goal

pub write_page-outcome-requires : goal.write_page-outcome-requires
write_page-outcome-requires g c = record { some = c.requires.some; short = c.requires.short; mine = free_for_named (λ held. held.name) c.claim_or_make.new.self.files.items _ c.in_ok-i.i c.args.name.now c.index_mut.ensures.value c.in_ok-i.ensures.name _ (c.in_ok-i.ensures.free c.turn_to.ensures.free) }

pub returns : goal.returns
returns g c = on_ok c.named.result (free_for_name (λ held. held.name) c.claim_or_make.new.self.files.items _ c.in_ok-i.i c.args.name.now c.index_mut.ensures.value c.in_ok-i.ensures.name c.write_page-outcome.new.waiting.name (subst (λ n. IsFreeFor c.write_page-outcome.new.waiting.name n) c.write_page-outcome.ensures.same.0 c.write_page-outcome.ensures.mine))
