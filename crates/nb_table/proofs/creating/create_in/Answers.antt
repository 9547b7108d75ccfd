use Rattle.std.proofs.Common.{ℕ, List, refl, ◌∙◌, Err}
use Rattle.nb_table.proofs.Common.{after_strokes, unmade, unmade_behind, Tries, tries_early, tries_passed, tries_after, first_made, created_in}
use Rattle.nb_table.proofs.CreateLaws.{first, first_short, in_named, kind_then, in_front, in_then}
use Rattle.nb_table.proofs.creating.create_in.Goals as goal

pub returns-in_err-room_for-clause-tries : goal.returns-in_err-room_for-clause-tries
returns-in_err-room_for-clause-tries g c t tells is kind =
    let table : List ℕ = c.args.table.now in
    let place = c.args.place in
    let image = t.base.image in
    let made = created_in image table place in
    let room = c.in_err-room_for.ensures in
    tries_early (Unit {0}) (Unit {0}) _ _ _ _ _ _ t (unmade_behind image (first_made image).0 place.page) (unmade image made) made.strokes c.from_residual.ensures room.takes_none (λ r e. in_named image table place ∙ e)
    (room.one t first tells is first_short kind refl) room.looks.same room.looks.quiet is (room.looks.opened t tells is)

pub returns-in_err-first-clause-tries : goal.returns-in_err-first-clause-tries
returns-in_err-first-clause-tries g c t tells is kind =
    let table : List ℕ = c.args.table.now in
    let place = c.args.place in
    let image = t.base.image in
    let made = created_in image table place in
    let room = c.in_ok-room_for.ensures in
    let none = room.one t first tells is first_short kind refl in
    let still = room.looks.opened t tells is in
    let w = g.H.Host.world c.args.host.now in
    let mid = g.H.Host.world c.room_for.new.host in
    let then = g.H.Host.world c.data_new.new.host in
    let fault = c.in_err-first.field-0.0 in
    tries_passed c.from_residual-in_err-first.result fault (λ r. Tries r w then c.args.engine.now c.data_new.new.self t (unmade image made) made.strokes) c.from_residual-in_err-first.ensures
    (tries_after {T = Unit {0}} (Err fault) w mid then c.args.engine.now c.room_for.new.self c.data_new.new.self t (unmade image made) made.strokes room.looks.same room.looks.quiet is
    (in_front t table place none fault mid then c.room_for.new.self c.data_new.new.self (c.in_err-first.ensures.makes t tells still)))

pub returns-clause-tries : goal.returns-clause-tries
returns-clause-tries g c t tells is kind =
    let table : List ℕ = c.args.table.now in
    let place = c.args.place in
    let image = t.base.image in
    let made = created_in image table place in
    let room = c.in_ok-room_for.ensures in
    let new = c.in_ok-first.ensures in
    let none = room.one t first tells is first_short kind refl in
    let still = room.looks.opened t tells is in
    tries_after c.put_slot.result _ _ _ _ _ _ t (unmade image made) made.strokes room.looks.same room.looks.quiet is
    (in_then t table place none c.in_ok-first.first c.put_slot.result _ _ _ _ _ _ (new.makes t tells still) (new.value t tells still) c.table_bytes.result c.table_bytes.ensures
    (λ opened. c.put_slot.ensures.tries (after_strokes t (first_made image).0.strokes) tells opened (kind_then t table place none)))
