use Rattle.std.proofs.Common.{ℕ, List, [], refl}
use Rattle.nb_table.proofs.Common.{Done, read_only, too_long, not_of_form, Seen, drop_turn, done, seeing, tested_does, tries_after, tries_does, tries_stops, not_passed, Rows, dropped, rows_cause, spot_of}
use Rattle.nb_table.proofs.DropTurnLaws.{drop_refused, whole_table, drop_says}
use Rattle.nb_table.proofs.ChangeLaws.{said}
use Rattle.nb_table.proofs.dropping.drop_table.Goals as goal

pub returns-in_err-rows-clause-turn : goal.returns-in_err-rows-clause-turn
returns-in_err-rows-clause-turn g c s t tells same is =
    let image = t.base.image in
    let table : List ℕ = c.args.table.now in
    let found = c.in_err-rows.ensures in
    tested_does Rows (Unit {0}) done _ _ _ _ _ _ t s (λ (x : Seen). drop_turn x table) (rows_cause image (read_only image) table (too_long [])) c.from_residual.ensures same found.looks.same found.looks.quiet is (found.looks.opened t tells is)
    (found.test t tells is) (drop_refused (seeing s t.base) table)

pub returns-clause-turn : goal.returns-clause-turn
returns-clause-turn g c s t tells same is =
    let image = t.base.image in
    let table : List ℕ = c.args.table.now in
    let found = c.in_ok-rows.ensures in
    let spot = spot_of c.in_ok-rows.rows.table in
    let w = g.H.Host.world c.args.host.now in
    let mid = g.H.Host.world c.find_rows.new.host in
    let new = g.H.Host.world c.drop_rows.new.host in
    let now = seeing s t.base in
    let none = found.test t tells is in
    let has = whole_table now table none spot (found.table t tells is) in
    let whole = dropped image spot in
    tries_does done c.drop_rows.result w new c.args.engine.now c.drop_rows.new.engine t s (λ (x : Seen). drop_turn x table) (not_of_form whole) Done refl whole.strokes same
    (drop_says now table none spot has) (said c.drop_rows.result)
    (tries_after c.drop_rows.result w mid new c.args.engine.now c.find_rows.new.engine c.drop_rows.new.engine t (not_of_form whole) whole.strokes found.looks.same found.looks.quiet is
    (c.drop_rows.ensures.tries t table tells (found.looks.opened t tells is) has))

pub returns-in_err-rows-clause-on_memory : goal.returns-in_err-rows-clause-on_memory
returns-in_err-rows-clause-on_memory g c s t tells same is = not_passed c.from_residual.result c.in_err-rows.field-0.0 _ c.from_residual.ensures c.in_err-rows.ensures.takes_none

pub returns-clause-on_memory : goal.returns-clause-on_memory
returns-clause-on_memory g c s t tells same is =
    let image = t.base.image in
    let table : List ℕ = c.args.table.now in
    let found = c.in_ok-rows.ensures in
    let spot = spot_of c.in_ok-rows.rows.table in
    let now = seeing s t.base in
    let none = found.test t tells is in
    let has = whole_table now table none spot (found.table t tells is) in
    let whole = dropped image spot in
    tries_stops c.drop_rows.result _ _ _ _ t s (λ (x : Seen). drop_turn x table) (not_of_form whole) Done whole.strokes same (drop_says now table none spot has)
    (tries_after c.drop_rows.result _ _ _ _ _ _ t (not_of_form whole) whole.strokes found.looks.same found.looks.quiet is (c.drop_rows.ensures.tries t table tells (found.looks.opened t tells is) has))
