use Rattle.std.proofs.Common.{◌≡◌, ◌<◌, ℕ, List, length, sym, subst, ◌∙◌, arith, None, IsTrue, Ok, Err}
use Rattle.nb_engine.proofs.Common.{is_page_size, drafted, image_size, grown, draft_cause, after_strokes, new_behind, new_of, Tries, tries_passed, tries_opened, free_behind}
use Rattle.nb_engine.proofs.GrowLaws.{grown_number, new_below, grown_below, grown_front, grown_failed, grown_done}
use Rattle.nb_engine.proofs.grow.grow_from.Goals as goal

pub returns-in_err-number-clause-tries : goal.returns-in_err-number-clause-tries
returns-in_err-number-clause-tries g c t chain pages slots tells is may last =
    let image = t.base.image in
    let w = g.H.Host.world c.args.host.now in
    let free = free_behind (new_behind chain slots image).0 c.args.last may.free in
    let full = subst (λ (xs : List ℕ). draft_cause (new_of 5 (λ p. xs) image).0 ≡ None) (sym may.bytes) free.clear in
    let fault = c.in_err-number.field-0.0 in
    let new = g.H.Host.world c.make_new.new.host in
    let made = subst (λ (xs : List ℕ). Tries {T = ℕ} (Err fault) w new c.args.store.now c.make_new.new.store t None (new_of 5 (λ p. xs) image).0.strokes) may.bytes (c.in_err-number.ensures.makes t tells is may.at may.holds may.searchable full) in
    tries_passed c.from_residual.result fault (λ r. Tries r w new c.args.store.now c.make_new.new.store t None (grown chain pages slots (drafted image)).0.strokes) c.from_residual.ensures
    (grown_front chain slots t pages fault w new c.args.store.now c.make_new.new.store made)

pub returns-in_err-link-clause-tries : goal.returns-in_err-link-clause-tries
returns-in_err-link-clause-tries g c t chain pages slots tells is may last =
    let image = t.base.image in
    let w = g.H.Host.world c.args.host.now in
    let free = free_behind (new_behind chain slots image).0 c.args.last may.free in
    let full = subst (λ (xs : List ℕ). draft_cause (new_of 5 (λ p. xs) image).0 ≡ None) (sym may.bytes) free.clear in
    let fault = c.in_err-link.field-0.0 in
    let mid = g.H.Host.world c.make_new.new.host in
    let new = g.H.Host.world c.link.new.host in
    let n : ℕ = c.in_ok-number.number in
    let made = subst (λ (xs : List ℕ). Tries (Ok n) w mid c.args.store.now c.make_new.new.store t None (new_of 5 (λ p. xs) image).0.strokes) may.bytes (c.in_ok-number.ensures.makes t tells is may.at may.holds may.searchable full) in
    let number = subst (λ (xs : List ℕ). n ≡ (new_of 5 (λ p. xs) image).1) may.bytes (c.in_ok-number.ensures.value t tells is may.at may.holds may.searchable full) in
    let opened = tries_opened n w mid c.args.store.now c.make_new.new.store t None (new_behind chain slots image).0.strokes made in
    let size : IsTrue (is_page_size (image_size (after_strokes t (new_behind chain slots image).0.strokes).base.image)) =
    subst (λ (k : ℕ). IsTrue (is_page_size k)) (c.requires.room ∙ sym c.in_ok-number.ensures.goes.page_size ∙ opened.files.agrees.page_size) c.requires.size in
    tries_passed c.from_residual-in_err-link.result fault (λ r. Tries r w new c.args.store.now c.link.new.store t None (grown chain pages slots (drafted image)).0.strokes) c.from_residual-in_err-link.ensures
    (grown_failed chain slots t pages c.args.last free size last n fault w mid new c.args.store.now c.make_new.new.store c.link.new.store number made
    (c.in_err-link.ensures.tries (after_strokes t (new_behind chain slots image).0.strokes) tells opened))

pub returns-clause-tries : goal.returns-clause-tries
returns-clause-tries g c t chain pages slots tells is may last =
    let image = t.base.image in
    let w = g.H.Host.world c.args.host.now in
    let free = free_behind (new_behind chain slots image).0 c.args.last may.free in
    let full = subst (λ (xs : List ℕ). draft_cause (new_of 5 (λ p. xs) image).0 ≡ None) (sym may.bytes) free.clear in
    let mid = g.H.Host.world c.make_new.new.host in
    let new = g.H.Host.world c.link.new.host in
    let n : ℕ = c.in_ok-number.number in
    let made = subst (λ (xs : List ℕ). Tries (Ok n) w mid c.args.store.now c.make_new.new.store t None (new_of 5 (λ p. xs) image).0.strokes) may.bytes (c.in_ok-number.ensures.makes t tells is may.at may.holds may.searchable full) in
    let number = subst (λ (xs : List ℕ). n ≡ (new_of 5 (λ p. xs) image).1) may.bytes (c.in_ok-number.ensures.value t tells is may.at may.holds may.searchable full) in
    let opened = tries_opened n w mid c.args.store.now c.make_new.new.store t None (new_behind chain slots image).0.strokes made in
    let size : IsTrue (is_page_size (image_size (after_strokes t (new_behind chain slots image).0.strokes).base.image)) =
    subst (λ (k : ℕ). IsTrue (is_page_size k)) (c.requires.room ∙ sym c.in_ok-number.ensures.goes.page_size ∙ opened.files.agrees.page_size) c.requires.size in
    grown_done chain slots t pages c.args.last free size last n w mid new c.args.store.now c.make_new.new.store c.link.new.store number made
    (c.in_ok-link.ensures.tries (after_strokes t (new_behind chain slots image).0.strokes) tells opened)

pub returns-clause-grown : goal.returns-clause-grown
returns-clause-grown g c t chain pages slots tells is may =
    let image = t.base.image in
    let free = free_behind (new_behind chain slots image).0 c.args.last may.free in
    let full = subst (λ (xs : List ℕ). draft_cause (new_of 5 (λ p. xs) image).0 ≡ None) (sym may.bytes) free.clear in
    let n : ℕ = c.in_ok-number.number in
    let strokes = (new_of 5 (λ p. c.args.payload.now) image).0.strokes in
    let opened = tries_opened n _ _ _ _ t None strokes (c.in_ok-number.ensures.makes t tells is may.at may.holds may.searchable full) in
    let low : n < length (after_strokes t strokes).base.image = omega (arith, c.in_ok-number.ensures.added, opened.files.agrees.count) in
    let inside = subst (λ (xs : List ℕ). n < length (new_of 5 (λ p. xs) image).0.image) may.bytes (new_below t 5 (λ p. c.args.payload.now) n low) in
    record {
      is = subst (λ (xs : List ℕ). n ≡ (new_of 5 (λ p. xs) image).1) may.bytes (c.in_ok-number.ensures.value t tells is may.at may.holds may.searchable full) ∙ sym (grown_number chain slots image pages);
      below = grown_below chain slots image pages n inside;
    }
