use Rattle.std.proofs.Common.{List, ℕ, ap, ◌∙◌, ◌||◌, sym, Bool}
use Rattle.nb_ship.proofs.Common.{Files, has_delta}
use Rattle.nb_ship.proofs.ReadLaws.{foreign}
use Rattle.nb_ship.proofs.looking.is_foreign.Goals as goal

pub returns-then-is_database-clause-answer : goal.returns-then-is_database-clause-answer
returns-then-is_database-clause-answer g c tells =
    let files : Files = (g.H.Host.world c.args.host.now).files in
    let name : List ℕ = c.args.name.now in
    let beside : Bool = c.in_ok-has_delta.has_delta in
    let there = c.in_ok-has_delta.ensures.answer tells ∙ ap (λ (f : Files). has_delta f name) c.in_ok-count.ensures.files.files in
    c.if-is_database.true ∙ sym (ap (λ (t : Bool). t || beside) c.if-is_database.true)
    ∙ foreign files name _ c.is_database.result beside (c.in_ok-count.ensures.answer tells).bytes c.is_database.ensures there

pub returns-else-is_database-clause-answer : goal.returns-else-is_database-clause-answer
returns-else-is_database-clause-answer g c tells =
    let files : Files = (g.H.Host.world c.args.host.now).files in
    let name : List ℕ = c.args.name.now in
    let beside : Bool = c.in_ok-has_delta.has_delta in
    let there = c.in_ok-has_delta.ensures.answer tells ∙ ap (λ (f : Files). has_delta f name) c.in_ok-count.ensures.files.files in
    sym (ap (λ (t : Bool). t || beside) c.if-is_database.false)
    ∙ foreign files name _ c.is_database.result beside (c.in_ok-count.ensures.answer tells).bytes c.is_database.ensures there
