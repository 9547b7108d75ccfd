use Rattle.std.proofs.Common.{◌<◌, ℕ, List, subst, ◌∙◌, arith, IsTrue, Err}
use Rattle.nb_table.proofs.Common.{is_page_size, lowest_broken, not_of_form, RowsFrom, first_in, found_pages, image_scn, entry_broken, Tries, tries_early, tries_passed, tries_after, dropped, drop_broken, spot_of}
use Rattle.nb_engine.proofs.NewTurn.{header_of, shaped_of}
use Rattle.nb_table.proofs.DropLaws.{table_least, drop_cause, its_chain, its_kind, drop_front, drop_then, drop_opened, drop_shaped, drop_chain, drop_givable}
use Rattle.nb_table.proofs.dropping.drop_rows.Goals as goal

pub returns-in_err-check_drop-clause-tries : goal.returns-in_err-check_drop-clause-tries
returns-in_err-check_drop-clause-tries g c t table tells is has =
    let image = t.base.image in
    let spot = spot_of c.args.rows.now.table in
    let pages : List ℕ = found_pages (RowsFrom (first_in spot.bytes)) image in
    let scn : image_scn image < 4294967296 = omega (arith, is.agrees.scn, is.agrees.four) in
    let header = header_of _ _ t is scn in
    let size : IsTrue (is_page_size c.args.engine.now.files.page_size) = subst (λ (n : ℕ). IsTrue (is_page_size n)) c.requires.room c.requires.size in
    let shaped = shaped_of _ _ t is size (table_least image table spot has) in
    let check = c.in_err-check_drop.ensures in
    tries_early (Unit {0}) (Unit {0}) _ _ _ _ _ _ t (lowest_broken (drop_broken image pages (entry_broken image spot.page))) (not_of_form (dropped image spot)) (dropped image spot).strokes c.from_residual.ensures check.takes_none
    (λ r e. drop_cause image header shaped table spot has ∙ e)
    (check.test t pages tells is (its_chain t header shaped table spot has c.args.rows.now.first c.requires.first)) check.looks.same check.looks.quiet is (check.looks.opened t tells is)

pub returns-in_err-put_slot-clause-tries : goal.returns-in_err-put_slot-clause-tries
returns-in_err-put_slot-clause-tries g c t table tells is has =
    let image = t.base.image in
    let spot = spot_of c.args.rows.now.table in
    let pages : List ℕ = found_pages (RowsFrom (first_in spot.bytes)) image in
    let w = g.H.Host.world c.args.host.now in
    let mid = g.H.Host.world c.check_drop.new.host in
    let new = g.H.Host.world c.put_slot.new.host in
    let fault = c.in_err-put_slot.field-0.0 in
    let scn : image_scn image < 4294967296 = omega (arith, is.agrees.scn, is.agrees.four) in
    let header = header_of _ _ t is scn in
    let size : IsTrue (is_page_size c.args.engine.now.files.page_size) = subst (λ (n : ℕ). IsTrue (is_page_size n)) c.requires.room c.requires.size in
    let shaped = shaped_of _ _ t is size (table_least image table spot has) in
    let check = c.in_ok-check_drop.ensures in
    let none = check.test t pages tells is (its_chain t header shaped table spot has c.args.rows.now.first c.requires.first) in
    let still = check.looks.opened t tells is in
    tries_passed c.from_residual-in_err-put_slot.result fault (λ r. Tries r w new c.args.engine.now c.put_slot.new.engine t (not_of_form (dropped image spot)) (dropped image spot).strokes) c.from_residual-in_err-put_slot.ensures
    (tries_after {T = Unit {0}} (Err fault) w mid new c.args.engine.now c.check_drop.new.engine c.put_slot.new.engine t (not_of_form (dropped image spot)) (dropped image spot).strokes check.looks.same check.looks.quiet is
    (drop_front t header shaped table spot has none fault mid new c.check_drop.new.engine c.put_slot.new.engine (c.in_err-put_slot.ensures.tries t tells still (its_kind t header shaped table spot has))))

pub returns-clause-tries : goal.returns-clause-tries
returns-clause-tries g c t table tells is has =
    let image = t.base.image in
    let spot = spot_of c.args.rows.now.table in
    let first : ℕ = c.args.rows.now.first in
    let pages : List ℕ = found_pages (RowsFrom (first_in spot.bytes)) image in
    let w = g.H.Host.world c.args.host.now in
    let mid = g.H.Host.world c.check_drop.new.host in
    let then = g.H.Host.world c.put_slot.new.host in
    let new = g.H.Host.world c.give_all_back.new.host in
    let scn : image_scn image < 4294967296 = omega (arith, is.agrees.scn, is.agrees.four) in
    let header = header_of _ _ t is scn in
    let size : IsTrue (is_page_size c.args.engine.now.files.page_size) = subst (λ (n : ℕ). IsTrue (is_page_size n)) c.requires.room c.requires.size in
    let shaped = shaped_of _ _ t is size (table_least image table spot has) in
    let check = c.in_ok-check_drop.ensures in
    let none = check.test t pages tells is (its_chain t header shaped table spot has first c.requires.first) in
    let still = check.looks.opened t tells is in
    let one = c.in_ok-put_slot.ensures.tries t tells still (its_kind t header shaped table spot has) in
    tries_after c.give_all_back.result w mid new c.args.engine.now c.check_drop.new.engine c.give_all_back.new.engine t (not_of_form (dropped image spot)) (dropped image spot).strokes check.looks.same check.looks.quiet is
    (drop_then t header shaped table spot has none c.give_all_back.result mid then new c.check_drop.new.engine c.put_slot.new.engine c.give_all_back.new.engine one
    (c.give_all_back.ensures.tries _ pages tells (drop_opened t header shaped table spot has none mid then c.check_drop.new.engine c.put_slot.new.engine one)
    (drop_shaped t header shaped table spot has none) (drop_chain t header shaped table spot has none first c.requires.first) (drop_givable t header shaped table spot has none)))
