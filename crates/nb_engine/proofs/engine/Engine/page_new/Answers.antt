use Rattle.std.proofs.Common.{◌≡◌, ℕ, List, [], ◌∷◌, length, refl, sym, subst, ◌∙◌, arith, ap, true, false, None, IfOk}
use Rattle.nb_engine.proofs.Common.{text_payload, Access, NotDatabase, quiet_begun, is_read_only, says, new_turn, draft_cause, Held, IsOpen, but_pages, Tries, new_raw, new_of, page_made, seeing, tries_after, not_passed, tested_does, refused_does}
use Rattle.nb_model.specs.declared.reply.Reply.TheVariants.{Refused as RefusedBy}
use Rattle.nb_model.proofs.NewSound.{empty_text}
use Rattle.nb_engine.proofs.NewTurn.{empty_is, ready_of, new_closed, new_short, new_refused, new_says, made_does, made_stops}
use Rattle.nb_alloc.proofs.NewReads.{new_read}
use Rattle.nb_engine.proofs.engine.Engine.page_new.Goals as goal

pub returns-then-is_read_only-clause-turn : goal.returns-then-is_read_only-clause-turn
returns-then-is_read_only-clause-turn g c s t tells same is =
    let w = g.H.Host.world c.args.host.now in
    let here = subst (λ (h : Held). IsOpen w h t) (sym c.self.view_is) is in
    let closed : is_read_only t.base.image ≡ true = sym here.agrees.read_only ∙ sym c.is_read_only.ensures ∙ c.if-is_read_only.true in
    refused_does page_made (Access 1) w w _ _ t s new_turn same refl (quiet_begun w (g.met.H.Host.timely c.args.host.now)) is is (new_closed (seeing s t.base) closed)

pub returns-then-count-lt-FIRST_TO_GIVE-clause-turn : goal.returns-then-count-lt-FIRST_TO_GIVE-clause-turn
returns-then-count-lt-FIRST_TO_GIVE-clause-turn g c s t tells same is =
    let w = g.H.Host.world c.args.host.now in
    let here = subst (λ (h : Held). IsOpen w h t) (sym c.self.view_is) is in
    let image = t.base.image in
    let free : is_read_only image ≡ false = sym here.agrees.read_only ∙ sym c.is_read_only.ensures ∙ c.if-is_read_only.false in
    let count : c.count-count.result ≡ length image = c.count-count.ensures.value ∙ here.files.agrees.count in
    let short = new_short (seeing s t.base) free (omega (arith, count, c.if-count-lt-FIRST_TO_GIVE.true)) in
    refused_does page_made (NotDatabase c.count-count.result) w w _ _ t s new_turn same refl (quiet_begun w (g.met.H.Host.timely c.args.host.now)) is is
    (subst (λ (n : ℕ). new_turn (seeing s t.base) ≡ says (seeing s t.base) (RefusedBy (NotDatabase n)) []) (sym count) short)

pub returns-in_err-first-clause-turn : goal.returns-in_err-first-clause-turn
returns-in_err-first-clause-turn g c s t tells same is =
    let ready = ready_of _ _ _ t c.count-count.result c.self.view_is is c.self.invariant.0 c.count-count.ensures.value (omega (arith, c.if-count-lt-FIRST_TO_GIVE.false)) in
    let free : is_read_only t.base.image ≡ false = sym ready.0.agrees.read_only ∙ sym c.is_read_only.ensures ∙ c.if-is_read_only.false in
    let tests = c.in_err-first.ensures in
    tested_does ℕ ℕ page_made _ _ _ _ _ _ t s new_turn (draft_cause (new_raw t.base.image).0) c.from_residual.ensures same (tests.looks.same ∙ ap but_pages c.self.view_is) tests.looks.quiet is (tests.looks.opened t tells ready.0)
    (tests.test t 8 (λ p. text_payload []) tells ready.0 ready.1 empty_text) (new_refused (seeing s t.base) free ready.1.long)

pub returns-clause-turn : goal.returns-clause-turn
returns-clause-turn g c s t tells same is =
    let w = g.H.Host.world c.args.host.now in
    let ready = ready_of _ _ _ t c.count-count.result c.self.view_is is c.self.invariant.0 c.count-count.ensures.value (omega (arith, c.if-count-lt-FIRST_TO_GIVE.false)) in
    let free : is_read_only t.base.image ≡ false = sym ready.0.agrees.read_only ∙ sym c.is_read_only.ensures ∙ c.if-is_read_only.false in
    let tests = c.in_ok-first.ensures in
    let room = tests.test t 8 (λ p. text_payload []) tells ready.0 ready.1 empty_text in
    let for_zeros = tests.test t 8 (λ p. 0 ∷ 0 ∷ []) tells ready.0 ready.1 (λ p. omega arith) in
    let made = c.make_new.ensures.makes t tells (tests.looks.opened t tells ready.0) (tests.value t tells ready.0) (tests.map t tells ready.0) ready.1 for_zeros in
    made_does c.make_new.result w _ c.args.self.now c.make_new.new.store t s (new_raw t.base.image).1 (new_raw t.base.image).0.strokes same (new_says (seeing s t.base) free ready.1.long room)
    (subst (λ (xs : List ℕ). IfOk c.make_new.result (λ number. number ≡ (new_of 8 (λ p. xs) t.base.image).1)) empty_is (c.make_new.ensures.value t tells (tests.looks.opened t tells ready.0) (tests.value t tells ready.0) (tests.map t tells ready.0) ready.1 for_zeros))
    (tries_after c.make_new.result w _ _ _ _ _ t None (new_raw t.base.image).0.strokes (tests.looks.same ∙ ap but_pages c.self.view_is) tests.looks.quiet is
    (subst (λ (xs : List ℕ). Tries c.make_new.result (g.H.Host.world c.check_new.new.host) (g.H.Host.world c.make_new.new.host) c.check_new.new.store c.make_new.new.store t None (new_of 8 (λ p. xs) t.base.image).0.strokes) empty_is made))

pub returns-clause-once : goal.returns-clause-once
returns-clause-once g c t tells is =
    let ready = ready_of _ _ _ t c.count-count.result c.self.view_is is c.self.invariant.0 c.count-count.ensures.value (omega (arith, c.if-count-lt-FIRST_TO_GIVE.false)) in
    let tests = c.in_ok-first.ensures in
    let for_zeros = tests.test t 8 (λ p. 0 ∷ 0 ∷ []) tells ready.0 ready.1 (λ p. omega arith) in
    new_read c.make_new.result t.base.image c.in_ok-first.first (new_of 8 (λ p. 0 ∷ 0 ∷ []) t.base.image).1 _ _ _ (tests.value t tells ready.0)
    (c.make_new.ensures.value t tells (tests.looks.opened t tells ready.0) (tests.value t tells ready.0) (tests.map t tells ready.0) ready.1 for_zeros) (tests.once t 8 (λ p. 0 ∷ 0 ∷ []) tells ready.0 ready.1 (λ p. omega arith)) (c.make_new.ensures.once tells)

pub make_new-requires-clause-inside : goal.make_new-requires-clause-inside
make_new-requires-clause-inside g c = omega (arith, c.in_ok-first.ensures.within (omega (arith, c.count-count.ensures.value, c.if-count-lt-FIRST_TO_GIVE.false)), ap (λ (h : Held). h.files.count) c.in_ok-first.ensures.looks.same)

pub returns-in_err-first-clause-on_memory : goal.returns-in_err-first-clause-on_memory
returns-in_err-first-clause-on_memory g c s t tells same is = not_passed c.from_residual.result c.in_err-first.field-0.0 _ c.from_residual.ensures c.in_err-first.ensures.takes_none

pub returns-clause-on_memory : goal.returns-clause-on_memory
returns-clause-on_memory g c s t tells same is =
    let ready = ready_of _ _ _ t c.count-count.result c.self.view_is is c.self.invariant.0 c.count-count.ensures.value (omega (arith, c.if-count-lt-FIRST_TO_GIVE.false)) in
    let free : is_read_only t.base.image ≡ false = sym ready.0.agrees.read_only ∙ sym c.is_read_only.ensures ∙ c.if-is_read_only.false in
    let tests = c.in_ok-first.ensures in
    let room = tests.test t 8 (λ p. text_payload []) tells ready.0 ready.1 empty_text in
    let for_zeros = tests.test t 8 (λ p. 0 ∷ 0 ∷ []) tells ready.0 ready.1 (λ p. omega arith) in
    let made = c.make_new.ensures.makes t tells (tests.looks.opened t tells ready.0) (tests.value t tells ready.0) (tests.map t tells ready.0) ready.1 for_zeros in
    made_stops c.make_new.result _ _ c.args.self.now c.make_new.new.store t s (new_raw t.base.image).1 (new_raw t.base.image).0.strokes same (new_says (seeing s t.base) free ready.1.long room)
    (tries_after c.make_new.result _ _ _ _ _ _ t None (new_raw t.base.image).0.strokes (tests.looks.same ∙ ap but_pages c.self.view_is) tests.looks.quiet is
    (subst (λ (xs : List ℕ). Tries c.make_new.result (g.H.Host.world c.check_new.new.host) (g.H.Host.world c.make_new.new.host) c.check_new.new.store c.make_new.new.store t None (new_of 8 (λ p. xs) t.base.image).0.strokes) empty_is made))
