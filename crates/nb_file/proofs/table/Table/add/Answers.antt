use Rattle.std.proofs.Common.{arith, ◌∙◌}
use Rattle.nb_file.proofs.TableLaws.{last_named}
use Rattle.nb_file.proofs.table.Table.add.Goals as goal

pub returns-clause-name : goal.returns-clause-name
returns-clause-name g c =
    let name = rw c.in_ok-named.ensures.value at c.new-held.ensures.name in
    last_named (λ held. held.name) c.args.self.now.files.items _ c.in_ok-named.field-0 _ _ c.in_ok-push.ensures.items (omega (arith, c.len.ensures, c.in_ok-push.ensures.len)) (name ∙ c.copied.ensures)
