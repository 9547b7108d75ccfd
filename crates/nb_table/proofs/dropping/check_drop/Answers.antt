use Rattle.std.proofs.Common.{ℕ, List, Option, None}
use Rattle.nb_table.proofs.Common.{lowest_broken, entry_broken, tested_on, drop_broken, none_some, looks_then}
use Rattle.nb_table.proofs.dropping.check_drop.Goals as goal

pub returns-in_err-lacking-clause-test : goal.returns-in_err-lacking-clause-test
returns-in_err-lacking-clause-test g c t pages tells is found =
    let image = t.base.image in
    let noted : List ℕ = entry_broken image c.args.rows.now.table.place.page in
    tested_on (Option ℕ) (Unit {0}) _ _ None (lowest_broken (drop_broken image pages noted)) c.from_residual.ensures (λ r e. absurd (none_some r e)) tt

pub returns-clause-test : goal.returns-clause-test
returns-clause-test g c t pages tells is found =
    let image = t.base.image in
    let noted : List ℕ = entry_broken image c.args.rows.now.table.place.page in
    let ready = c.in_ok-lacking.ensures in
    c.check_chain.ensures.test t pages noted tells (ready.looks.opened t tells is) found (ready.value t tells is)

pub returns-clause-looks : goal.returns-clause-looks
returns-clause-looks g c = looks_then c.in_ok-lacking.ensures.looks c.check_chain.ensures.looks
