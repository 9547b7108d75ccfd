use Rattle.std.proofs.Common.{ℕ, [], refl, sym, ap, ◌∙◌, arith, None}
use Rattle.nb_engine.proofs.Common.{drafted, no_scn, History, grown, behind_cause, new_behind, no_rows, grow_cause, tries_early, tries_after, Held, tries_named, told, grown_judged}
use Rattle.nb_engine.proofs.GrowLaws.{rows_are, no_rows_short, grow_refused, grow_spent, grow_free}
use Rattle.nb_engine.proofs.room.grow.Goals as goal

pub returns-in_err-first-clause-makes : goal.returns-in_err-first-clause-makes
returns-in_err-first-clause-makes g c t pages tells is shaped last is_data =
    let image = t.base.image in
    let tests = c.in_err-first.ensures in
    tries_early ℕ ℕ _ _ _ _ _ _ t (behind_cause (new_behind History [] image).0 c.args.last) (grow_cause image pages) _ c.from_residual.ensures tests.takes_none
    (λ r e. grow_refused image pages r (grown_judged History pages [] (drafted image) ∙ ap (behind_cause (new_behind History [] image).0) (sym last) ∙ e)) (tests.one t (told no_rows) tells is shaped (λ p. no_rows_short) is_data refl) tests.looks.same tests.looks.quiet is (tests.looks.opened t tells is)

pub returns-in_err-check_scn-clause-makes : goal.returns-in_err-check_scn-clause-makes
returns-in_err-check_scn-clause-makes g c t pages tells is shaped last is_data =
    let image = t.base.image in
    let tests = c.in_ok-first.ensures in
    let none = tests.one t (told no_rows) tells is shaped (λ p. no_rows_short) is_data refl in
    let room = grown_judged History pages [] (drafted image) ∙ ap (behind_cause (new_behind History [] image).0) (sym last) ∙ none in
    tries_early (Unit {0}) ℕ _ _ _ _ _ _ t (no_scn image) (grow_cause image pages) _ c.from_residual-in_err-check_scn.ensures c.in_err-check_scn.ensures.takes_none (grow_spent image pages room)
    (c.in_err-check_scn.ensures.test image (c.scn-scn.ensures ∙ is.agrees.scn)) tests.looks.same tests.looks.quiet is (tests.looks.opened t tells is)

pub returns-clause-makes : goal.returns-clause-makes
returns-clause-makes g c t pages tells is shaped last is_data =
    let image = t.base.image in
    let w = g.H.Host.world c.args.host.now in
    let tests = c.in_ok-first.ensures in
    let none = tests.one t (told no_rows) tells is shaped (λ p. no_rows_short) is_data refl in
    let room = grown_judged History pages [] (drafted image) ∙ ap (behind_cause (new_behind History [] image).0) (sym last) ∙ none in
    let spent = c.in_ok-check_scn.ensures.test image (c.scn-scn.ensures ∙ is.agrees.scn) in
    let still = tests.looks.opened t tells is in
    let strokes = (grown History pages [] (drafted image)).0.strokes in
    let new = g.H.Host.world c.grow_from.new.host in
    tries_named c.grow_from.result w new c.args.store.now c.grow_from.new.store t None (grow_cause image pages) strokes strokes (sym (grow_free image pages room spent)) refl
    (tries_after c.grow_from.result w (g.H.Host.world c.check_rooms.new.host) new _ _ _ t _ _ tests.looks.same tests.looks.quiet is
    (c.grow_from.ensures.tries t History pages [] tells still (record { at = tests.value t tells is; holds = tests.map t tells is refl; searchable = shaped; free = none; bytes = rows_are }) last))

pub returns-clause-grown : goal.returns-clause-grown
returns-clause-grown g c t pages tells is shaped is_data =
    let tests = c.in_ok-first.ensures in
    let none = tests.one t (told no_rows) tells is shaped (λ p. no_rows_short) is_data refl in
    c.grow_from.ensures.grown t History pages [] tells (tests.looks.opened t tells is) (record { at = tests.value t tells is; holds = tests.map t tells is refl; searchable = shaped; free = none; bytes = rows_are })

pub grow_from-requires-clause-inside : goal.grow_from-requires-clause-inside
grow_from-requires-clause-inside g c = omega (arith, c.in_ok-first.ensures.within c.requires.least, ap (λ (h : Held). h.files.count) c.in_ok-first.ensures.looks.same)
