use Rattle.std.proofs.Common.{◌≡◌, ℕ, ◌+◌, List, sym, ap, ◌∙◌, Option}
use Rattle.nb_copy.proofs.Common.{NoGuid, LevelHead, ask_of, level_behind, broken_at, History, Spot, pages_of, HistoryRow, tested_on, earlier_cause, Guid}
use Rattle.nb_copy.proofs.StartCauses.{row_of_guid, chain_broken, none_found, one_found, row_asked, row_level, level_more}
use Rattle.nb_copy.proofs.since.find_guid.Goals as goal

pub returns-in_err-row-clause-test : goal.returns-in_err-row-clause-test
returns-in_err-row-clause-test g c t tells is =
    let guid : List ℕ = c.args.guid.now in
    tested_on (Option HistoryRow) LevelHead c.from_residual.result c.in_err-row.field-0.0 (broken_at (pages_of History t.base.image)) (earlier_cause (Guid guid) t.base.image) c.from_residual.ensures
    (chain_broken t.base.image (row_of_guid guid t.base.image) (NoGuid guid)) (c.in_err-row.ensures.test t tells is)

pub returns-in-None-clause-test : goal.returns-in-None-clause-test
returns-in-None-clause-test g c t tells is =
    let guid : List ℕ = c.args.guid.now in
    none_found t.base.image (row_of_guid guid t.base.image) (NoGuid guid) (c.in_ok-row.ensures.test t tells is) c.in_ok-row.field-0 c.in-None.is (c.in_ok-row.ensures.row t tells is)

pub returns-in-Some-clause-test : goal.returns-in-Some-clause-test
returns-in-Some-clause-test g c t tells is =
    let guid : List ℕ = c.args.guid.now in
    one_found t.base.image (row_of_guid guid t.base.image) (NoGuid guid) (c.in_ok-row.ensures.test t tells is) c.in_ok-row.field-0 c.in-Some.row c.in-Some.is (c.in_ok-row.ensures.row t tells is)

pub returns-in-Some-clause-head : goal.returns-in-Some-clause-head
returns-in-Some-clause-head g c t tells is =
    let row : Option Spot = row_of_guid c.args.guid.now t.base.image in
    let found = c.in_ok-row.ensures.row t tells is in
    let level : c.min-level.result + 1 ≡ level_behind row =
    ap (λ (n : ℕ). n + 1) c.min-level.ensures ∙ level_more c.in-Some.row.level ∙ sym (row_level row c.in_ok-row.field-0 c.in-Some.row c.in-Some.is found) in
    c.bare_head.ensures.asks ∙ row_asked row c.in_ok-row.field-0 c.in-Some.row c.in-Some.is found (c.min-level.result + 1) ∙ ap (λ (n : ℕ). ask_of n row) level
