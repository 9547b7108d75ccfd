use Rattle.std.proofs.Common.{◌≡◌, ℕ, List, refl, sym, ap, ◌∙◌, arith, Option}
use Rattle.nb_table.proofs.Common.{data_kind, quiet_begun, Done, read_only, is_kind, NotDatabase, unmade, Catalogue, is_read_only, Seen, create_turn, name_short, done, seeing, tested_does, tries_after, tries_does, tries_stops, not_passed, Held, Place, new_cause, created_in, created_behind, is_so}
use Rattle.nb_table.proofs.CreateTurnLaws.{create_denied, create_refused, create_at, create_last, new_formed, place_data}
use Rattle.nb_table.proofs.PlaceLaws.{last_is_data}
use Rattle.nb_table.proofs.ChangeLaws.{said}
use Rattle.nb_table.proofs.creating.create.Goals as goal

pub returns-in_err-check_access-clause-turn : goal.returns-in_err-check_access-clause-turn
returns-in_err-check_access-clause-turn g c s t tells same is =
    let image = t.base.image in
    let table : List ℕ = c.args.table.now in
    let w = g.H.Host.world c.args.host.now in
    let closed : c.is_read_only.result ≡ is_read_only image = c.is_read_only.ensures ∙ ap (λ (h : Held). h.read_only) c.store.ensures ∙ is.agrees.read_only in
    tested_does (Unit {0}) (Unit {0}) done _ _ w w c.args.engine.now c.args.engine.now t s (λ (x : Seen). create_turn x table) (read_only image) c.from_residual.ensures same refl (quiet_begun w (g.met.H.Host.timely c.args.host.now)) is is
    (c.in_err-check_access.ensures.test image closed) (create_denied (seeing s t.base) table)

pub returns-in_err-free-clause-turn : goal.returns-in_err-free-clause-turn
returns-in_err-free-clause-turn g c s t tells same is =
    let image = t.base.image in
    let table : List ℕ = c.args.table.now in
    let closed : c.is_read_only.result ≡ is_read_only image = c.is_read_only.ensures ∙ ap (λ (h : Held). h.read_only) c.store.ensures ∙ is.agrees.read_only in
    let tests = c.in_err-free.ensures in
    tested_does (Option Place × ℕ) (Unit {0}) done _ _ _ _ _ _ t s (λ (x : Seen). create_turn x table) (new_cause image table) c.from_residual-in_err-free.ensures same tests.looks.same tests.looks.quiet is (tests.looks.opened t tells is) (tests.test t tells is)
    (create_refused (seeing s t.base) table (c.in_ok-check_access.ensures.test image closed))

pub returns-in-Some-clause-turn : goal.returns-in-Some-clause-turn
returns-in-Some-clause-turn g c s t tells same is =
    let image = t.base.image in
    let table : List ℕ = c.args.table.now in
    let closed : c.is_read_only.result ≡ is_read_only image = c.is_read_only.ensures ∙ ap (λ (h : Held). h.read_only) c.store.ensures ∙ is.agrees.read_only in
    let tests = c.in_ok-free.ensures in
    let new = tests.test t tells is in
    let place = c.in-Some.place in
    let at = sym c.in-Some.is ∙ tests.room t tells is in
    let kind = is_so (is_kind image data_kind place.page) (NotDatabase place.page) (place_data image (new_formed image table new) place at).1 in
    let made = created_in image table place in
    tries_does done c.create_in.result _ _ _ _ t s (λ (x : Seen). create_turn x table) (unmade image made) Done refl made.strokes same
    (create_at (seeing s t.base) table (c.in_ok-check_access.ensures.test image closed) new place at) (said c.create_in.result)
    (tries_after c.create_in.result _ _ _ _ _ _ t (unmade image made) made.strokes tests.looks.same tests.looks.quiet is (c.create_in.ensures.tries t tells (tests.looks.opened t tells is) kind))

pub returns-in-None-clause-turn : goal.returns-in-None-clause-turn
returns-in-None-clause-turn g c s t tells same is =
    let image = t.base.image in
    let table : List ℕ = c.args.table.now in
    let closed : c.is_read_only.result ≡ is_read_only image = c.is_read_only.ensures ∙ ap (λ (h : Held). h.read_only) c.store.ensures ∙ is.agrees.read_only in
    let tests = c.in_ok-free.ensures in
    let new = tests.test t tells is in
    let last = tests.last t tells is in
    let kind = last_is_data Catalogue image (new_formed image table new) _ last in
    let made = created_behind image table in
    tries_does done c.create_behind.result _ _ _ _ t s (λ (x : Seen). create_turn x table) (unmade image made) Done refl made.strokes same
    (create_last (seeing s t.base) table (c.in_ok-check_access.ensures.test image closed) new (sym c.in-None.is ∙ tests.room t tells is)) (said c.create_behind.result)
    (tries_after c.create_behind.result _ _ _ _ _ _ t (unmade image made) made.strokes tests.looks.same tests.looks.quiet is (c.create_behind.ensures.tries t tells (tests.looks.opened t tells is) (record { is = last; kind = kind })))

pub create_behind-requires-clause-name : goal.create_behind-requires-clause-name
create_behind-requires-clause-name g c = omega (arith, name_short c.args.table.now c.as_str-name.ensures.name)

pub returns-in_err-check_access-clause-on_memory : goal.returns-in_err-check_access-clause-on_memory
returns-in_err-check_access-clause-on_memory g c s t tells same is = not_passed c.from_residual.result c.in_err-check_access.field-0.0 _ c.from_residual.ensures c.in_err-check_access.ensures.takes_none

pub returns-in_err-free-clause-on_memory : goal.returns-in_err-free-clause-on_memory
returns-in_err-free-clause-on_memory g c s t tells same is = not_passed c.from_residual-in_err-free.result c.in_err-free.field-0.0 _ c.from_residual-in_err-free.ensures c.in_err-free.ensures.takes_none

pub returns-in-Some-clause-on_memory : goal.returns-in-Some-clause-on_memory
returns-in-Some-clause-on_memory g c s t tells same is =
    let image = t.base.image in
    let table : List ℕ = c.args.table.now in
    let closed : c.is_read_only.result ≡ is_read_only image = c.is_read_only.ensures ∙ ap (λ (h : Held). h.read_only) c.store.ensures ∙ is.agrees.read_only in
    let tests = c.in_ok-free.ensures in
    let new = tests.test t tells is in
    let place = c.in-Some.place in
    let at = sym c.in-Some.is ∙ tests.room t tells is in
    let kind = is_so (is_kind image data_kind place.page) (NotDatabase place.page) (place_data image (new_formed image table new) place at).1 in
    let made = created_in image table place in
    tries_stops c.create_in.result _ _ _ _ t s (λ (x : Seen). create_turn x table) (unmade image made) Done made.strokes same
    (create_at (seeing s t.base) table (c.in_ok-check_access.ensures.test image closed) new place at)
    (tries_after c.create_in.result _ _ _ _ _ _ t (unmade image made) made.strokes tests.looks.same tests.looks.quiet is (c.create_in.ensures.tries t tells (tests.looks.opened t tells is) kind))

pub returns-in-None-clause-on_memory : goal.returns-in-None-clause-on_memory
returns-in-None-clause-on_memory g c s t tells same is =
    let image = t.base.image in
    let table : List ℕ = c.args.table.now in
    let closed : c.is_read_only.result ≡ is_read_only image = c.is_read_only.ensures ∙ ap (λ (h : Held). h.read_only) c.store.ensures ∙ is.agrees.read_only in
    let tests = c.in_ok-free.ensures in
    let new = tests.test t tells is in
    let last = tests.last t tells is in
    let kind = last_is_data Catalogue image (new_formed image table new) _ last in
    let made = created_behind image table in
    tries_stops c.create_behind.result _ _ _ _ t s (λ (x : Seen). create_turn x table) (unmade image made) Done made.strokes same
    (create_last (seeing s t.base) table (c.in_ok-check_access.ensures.test image closed) new (sym c.in-None.is ∙ tests.room t tells is))
    (tries_after c.create_behind.result _ _ _ _ _ _ t (unmade image made) made.strokes tests.looks.same tests.looks.quiet is (c.create_behind.ensures.tries t tells (tests.looks.opened t tells is) (record { is = last; kind = kind })))
