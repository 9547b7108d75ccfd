use Rattle.std.proofs.Common.{◌≡◌, ℕ, suc, ◌-◌, sym, ap, ◌∙◌, arith, Option, Some}
use Rattle.nb_copy.proofs.Common.{NoHistory, LevelHead, broken_at, History, pages_of, HistoryRow, tested_on, earlier_cause, Level}
use Rattle.nb_copy.proofs.StartCauses.{none_asked, row_below, level_cause, level_asked, chain_broken, none_found, one_found, row_asked}
use Rattle.nb_copy.proofs.since.find_level.Goals as goal

pub returns-then-level-eq0-clause-head : goal.returns-then-level-eq0-clause-head
returns-then-level-eq0-clause-head g c t tells is = c.bare_head.ensures.asks ∙ none_asked c.args.level t.base.image c.if-level-eq0.true

pub returns-in_err-row-clause-test : goal.returns-in_err-row-clause-test
returns-in_err-row-clause-test g c t tells is =
    let below : ℕ = c.args.level - 1 in
    let e : c.args.level ≡ suc below = omega (arith, c.if-level-eq0.false) in
    tested_on (Option HistoryRow) LevelHead c.from_residual.result c.in_err-row.field-0.0 (broken_at (pages_of History t.base.image)) (earlier_cause (Level c.args.level) t.base.image) c.from_residual.ensures
    (λ r broken. level_cause c.args.level below t.base.image e ∙ chain_broken t.base.image (row_below below t.base.image) (NoHistory below) r broken) (c.in_err-row.ensures.test t tells is)

pub returns-in-None-clause-test : goal.returns-in-None-clause-test
returns-in-None-clause-test g c t tells is =
    let below : ℕ = c.args.level - 1 in
    let e : c.args.level ≡ suc below = omega (arith, c.if-level-eq0.false) in
    level_cause c.args.level below t.base.image e
    ∙ none_found t.base.image (row_below below t.base.image) (NoHistory below) (c.in_ok-row.ensures.test t tells is) c.in_ok-row.field-0 c.in-None.is (c.in_ok-row.ensures.row t tells is)
    ∙ ap (λ (n : ℕ). Some (NoHistory n)) (sym c.from.ensures)

pub returns-in-Some-clause-test : goal.returns-in-Some-clause-test
returns-in-Some-clause-test g c t tells is =
    let below : ℕ = c.args.level - 1 in
    let e : c.args.level ≡ suc below = omega (arith, c.if-level-eq0.false) in
    level_cause c.args.level below t.base.image e
    ∙ one_found t.base.image (row_below below t.base.image) (NoHistory below) (c.in_ok-row.ensures.test t tells is) c.in_ok-row.field-0 c.in-Some.row c.in-Some.is (c.in_ok-row.ensures.row t tells is)

pub returns-in-Some-clause-head : goal.returns-in-Some-clause-head
returns-in-Some-clause-head g c t tells is =
    let below : ℕ = c.args.level - 1 in
    let e : c.args.level ≡ suc below = omega (arith, c.if-level-eq0.false) in
    c.bare_head-in-Some.ensures.asks ∙ row_asked (row_below below t.base.image) c.in_ok-row.field-0 c.in-Some.row c.in-Some.is (c.in_ok-row.ensures.row t tells is) c.args.level
    ∙ level_asked c.args.level below t.base.image e
