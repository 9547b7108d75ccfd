use Rattle.std.proofs.Common.{ℕ, List, refl, ◌∙◌, Ok, Err}
use Rattle.nb_table.proofs.Common.{Catalogue, found_pages, after_strokes, second_data, unmade, unmade_behind, Tries, tries_early, tries_passed, tries_after, first_made, created_behind}
use Rattle.nb_table.proofs.CreateLaws.{first, first_short, second, data_then, behind_front, behind_by, behind_then, second_short}
use Rattle.nb_table.proofs.creating.create_behind.Goals as goal

pub returns-in_err-room_for-clause-tries : goal.returns-in_err-room_for-clause-tries
returns-in_err-room_for-clause-tries g c t tells is last =
    let table : List ℕ = c.args.table.now in
    let image = t.base.image in
    let made = created_behind image table in
    let room = c.in_err-room_for.ensures in
    tries_early (Unit {0}) (Unit {0}) _ _ _ _ _ _ t (unmade_behind image (second_data first (second image table) image).0 c.args.last) (unmade image made) made.strokes c.from_residual.ensures room.takes_none (λ r e. behind_by image table c.args.last last.is ∙ e)
    (room.two t first (second image table) tells is first_short (second_short image table c.requires.name) last.kind refl) room.looks.same room.looks.quiet is (room.looks.opened t tells is)

pub returns-in_err-first-clause-tries : goal.returns-in_err-first-clause-tries
returns-in_err-first-clause-tries g c t tells is last =
    let table : List ℕ = c.args.table.now in
    let image = t.base.image in
    let made = created_behind image table in
    let room = c.in_ok-room_for.ensures in
    let none = behind_by image table c.args.last last.is ∙ room.two t first (second image table) tells is first_short (second_short image table c.requires.name) last.kind refl in
    let w = g.H.Host.world c.args.host.now in
    let mid = g.H.Host.world c.room_for.new.host in
    let then = g.H.Host.world c.data_new.new.host in
    let fault = c.in_err-first.field-0.0 in
    tries_passed c.from_residual-in_err-first.result fault (λ r. Tries r w then c.args.engine.now c.data_new.new.self t (unmade image made) made.strokes) c.from_residual-in_err-first.ensures
    (tries_after {T = Unit {0}} (Err fault) w mid then c.args.engine.now c.room_for.new.self c.data_new.new.self t (unmade image made) made.strokes room.looks.same room.looks.quiet is
    (behind_front t table none fault mid then c.room_for.new.self c.data_new.new.self (c.in_err-first.ensures.makes t tells (room.looks.opened t tells is))))

pub returns-in_err-data_grow-clause-tries : goal.returns-in_err-data_grow-clause-tries
returns-in_err-data_grow-clause-tries g c t tells is last =
    let table : List ℕ = c.args.table.now in
    let image = t.base.image in
    let made = created_behind image table in
    let room = c.in_ok-room_for.ensures in
    let new = c.in_ok-first.ensures in
    let none = behind_by image table c.args.last last.is ∙ room.two t first (second image table) tells is first_short (second_short image table c.requires.name) last.kind refl in
    let still = room.looks.opened t tells is in
    let is_data = data_then t table c.args.last (room.still t first tells is first_short last.kind refl) in
    let fault = c.in_err-data_grow.field-0.0 in
    tries_passed c.from_residual-in_err-data_grow.result fault (λ r. Tries r (g.H.Host.world c.args.host.now) (g.H.Host.world c.data_grow.new.host) c.args.engine.now c.data_grow.new.self t (unmade image made) made.strokes)
    c.from_residual-in_err-data_grow.ensures
    (tries_after {T = Unit {0}} (Err fault) _ _ _ _ _ _ t (unmade image made) made.strokes room.looks.same room.looks.quiet is
    (behind_then t table none c.in_ok-first.first (Err fault) _ _ _ _ _ _ (new.makes t tells still) (new.value t tells still) c.table_bytes.result c.table_bytes.ensures
    (λ opened. c.in_err-data_grow.ensures.makes (after_strokes t (first_made image).0.strokes) Catalogue (found_pages Catalogue image) tells opened refl last.is is_data)))

pub returns-clause-tries : goal.returns-clause-tries
returns-clause-tries g c t tells is last =
    let table : List ℕ = c.args.table.now in
    let image = t.base.image in
    let made = created_behind image table in
    let room = c.in_ok-room_for.ensures in
    let new = c.in_ok-first.ensures in
    let none = behind_by image table c.args.last last.is ∙ room.two t first (second image table) tells is first_short (second_short image table c.requires.name) last.kind refl in
    let still = room.looks.opened t tells is in
    let is_data = data_then t table c.args.last (room.still t first tells is first_short last.kind refl) in
    tries_after {T = Unit {0}} (Ok tt) _ _ _ _ _ _ t (unmade image made) made.strokes room.looks.same room.looks.quiet is
    (behind_then t table none c.in_ok-first.first (Ok c.in_ok-data_grow.field-0) _ _ _ _ _ _ (new.makes t tells still) (new.value t tells still) c.table_bytes.result c.table_bytes.ensures
    (λ opened. c.in_ok-data_grow.ensures.makes (after_strokes t (first_made image).0.strokes) Catalogue (found_pages Catalogue image) tells opened refl last.is is_data))
