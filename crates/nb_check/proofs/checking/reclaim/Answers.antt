use Rattle.std.proofs.Common.{◌≡◌, ◌≢◌, ℕ, length, refl, sym, ap, ◌∙◌, arith, Bool, Result, Ok, Err, IsErr, IsErrAnd, None}
use Rattle.nb_check.proofs.Common.{Fault, Memory, Access, quiet_begun, passed_on, Freed, when, says, goes_on, goes_nowhere, seeing, refused_does, tested_does, tries_other, tries_valued, tries_passed, tries_after, tries_does, tries_stops, Does, Held, StopsEarly, StopsShort, WhereMemory, early_quiet, early_short, wanted_any, wanted_so, Findings, leaked, check_cause, reclaimed, reclaim_turn}
use Rattle.nb_alloc.proofs.CauseLaws.{unless_allowed}
use Rattle.nb_check.proofs.CauseLaws.{closed_fails, check_fails, reclaim_free, reclaim_refused, reclaim_says}
use Rattle.nb_check.proofs.checking.reclaim.Goals as goal

pub returns-then-is_read_only-clause-turn : goal.returns-then-is_read_only-clause-turn
returns-then-is_read_only-clause-turn g c s t tells same is =
    let w = g.H.Host.world c.args.host.now in
    let closed = sym (c.is_read_only.ensures ∙ ap (λ (h : Held). h.read_only) c.store.ensures ∙ is.agrees.read_only) ∙ c.if-is_read_only.true in
    refused_does Freed (Access 1) w w c.args.engine.now c.args.engine.now t s reclaim_turn same refl (quiet_begun w (g.met.H.Host.timely c.args.host.now)) is is
    (reclaim_refused (seeing s t.base) (Access 1) (closed_fails t.base.image (Access 1) (ap (λ (b : Bool). when b (Access 1)) closed)))

pub returns-in_err-findings-clause-turn : goal.returns-in_err-findings-clause-turn
returns-in_err-findings-clause-turn g c s t tells same is =
    let found = c.in_err-findings.ensures in
    let open_to = sym (c.is_read_only.ensures ∙ ap (λ (h : Held). h.read_only) c.store.ensures ∙ is.agrees.read_only) ∙ c.if-is_read_only.false in
    tested_does Findings ℕ Freed _ _ _ _ _ _ t s reclaim_turn (check_cause t.base.image) c.from_residual.ensures same found.looks.same found.looks.quiet is (found.looks.opened t tells is) (found.test t tells is)
    (λ r e. reclaim_refused (seeing s t.base) r (check_fails t.base.image (ap (λ (b : Bool). when b (Access 1)) open_to) r e))

pub returns-in_err-give_back-clause-turn : goal.returns-in_err-give_back-clause-turn
returns-in_err-give_back-clause-turn g c s t tells same is =
    let found = c.in_ok-findings.ensures in
    let w = g.H.Host.world c.args.host.now in
    let mid = g.H.Host.world c.check.new.host in
    let new = g.H.Host.world c.give_back.new.host in
    let fault = c.in_err-give_back.field-0.0 in
    let open_to = sym (c.is_read_only.ensures ∙ ap (λ (h : Held). h.read_only) c.store.ensures ∙ is.agrees.read_only) ∙ c.if-is_read_only.false in
    let now = seeing s t.base in
    let said = Freed (length (leaked t.base.image)) in
    let xs = (reclaimed t.base.image).strokes in
    tries_passed c.from_residual-in_err-give_back.result fault (λ r. Does Freed r w new c.args.engine.now c.give_back.new.engine t (reclaim_turn s)) c.from_residual-in_err-give_back.ensures
    (tries_does {T = ℕ} Freed (Err fault) w new c.args.engine.now c.give_back.new.engine t s reclaim_turn None said refl xs same
    (reclaim_says now (reclaim_free t.base.image (ap (λ (b : Bool). when b (Access 1)) open_to) (found.test t tells is)) ∙ sym (unless_allowed now None (says now said xs) refl)) tt
    (tries_other (Unit {0}) ℕ fault w new c.args.engine.now c.give_back.new.engine t None xs
    (tries_after {T = Unit {0}} (Err fault) w mid new c.args.engine.now c.check.new.engine c.give_back.new.engine t None xs found.looks.same found.looks.quiet is
    (c.in_err-give_back.ensures.tries t tells (found.looks.opened t tells is) (found.sound t tells is) (found.leaked t tells is)))))

pub returns-clause-turn : goal.returns-clause-turn
returns-clause-turn g c s t tells same is =
    let found = c.in_ok-findings.ensures in
    let w = g.H.Host.world c.args.host.now in
    let mid = g.H.Host.world c.check.new.host in
    let new = g.H.Host.world c.give_back.new.host in
    let open_to = sym (c.is_read_only.ensures ∙ ap (λ (h : Held). h.read_only) c.store.ensures ∙ is.agrees.read_only) ∙ c.if-is_read_only.false in
    let now = seeing s t.base in
    let said = Freed (length (leaked t.base.image)) in
    let xs = (reclaimed t.base.image).strokes in
    tries_does Freed (Ok c.count.result) w new c.args.engine.now c.give_back.new.engine t s reclaim_turn None said refl xs same
    (reclaim_says now (reclaim_free t.base.image (ap (λ (b : Bool). when b (Access 1)) open_to) (found.test t tells is)) ∙ sym (unless_allowed now None (says now said xs) refl))
    (ap Freed (c.count.ensures ∙ ap length (found.leaked t tells is)))
    (tries_valued {S = Unit {0}} tt c.count.result w new c.args.engine.now c.give_back.new.engine t None xs
    (tries_after {T = Unit {0}} (Ok tt) w mid new c.args.engine.now c.check.new.engine c.give_back.new.engine t None xs found.looks.same found.looks.quiet is
    (c.in_ok-give_back.ensures.tries t tells (found.looks.opened t tells is) (found.sound t tells is) (found.leaked t tells is))))

pub returns-in_err-findings-clause-short : goal.returns-in_err-findings-clause-short
returns-in_err-findings-clause-short g c s t tells same is =
    let found = c.in_err-findings.ensures in
    wanted_any c.from_residual.result _ (early_quiet _ _ c.args.engine.now c.check.new.engine t (reclaim_turn s).strokes found.looks.quiet is (found.looks.opened t tells is))

pub returns-in_err-give_back-clause-short : goal.returns-in_err-give_back-clause-short
returns-in_err-give_back-clause-short g c s t tells same is =
    let found = c.in_ok-findings.ensures in
    let w = g.H.Host.world c.args.host.now in
    let mid = g.H.Host.world c.check.new.host in
    let new = g.H.Host.world c.give_back.new.host in
    let fault = c.in_err-give_back.field-0.0 in
    let open_to = sym (c.is_read_only.ensures ∙ ap (λ (h : Held). h.read_only) c.store.ensures ∙ is.agrees.read_only) ∙ c.if-is_read_only.false in
    let now = seeing s t.base in
    let said = Freed (length (leaked t.base.image)) in
    let xs = (reclaimed t.base.image).strokes in
    tries_passed c.from_residual-in_err-give_back.result fault (λ r. WhereMemory r (StopsEarly w new c.args.engine.now c.give_back.new.engine t (reclaim_turn s).strokes)) c.from_residual-in_err-give_back.ensures
    (wanted_so {T = ℕ} (Err fault) (StopsShort w new c.args.engine.now c.give_back.new.engine t (reclaim_turn s).strokes) (StopsEarly w new c.args.engine.now c.give_back.new.engine t (reclaim_turn s).strokes)
    (early_short w new c.args.engine.now c.give_back.new.engine t (reclaim_turn s).strokes)
    (tries_stops {T = ℕ} (Err fault) w new c.args.engine.now c.give_back.new.engine t s reclaim_turn None said xs same
    (reclaim_says now (reclaim_free t.base.image (ap (λ (b : Bool). when b (Access 1)) open_to) (found.test t tells is)) ∙ sym (unless_allowed now None (says now said xs) refl))
    (tries_other (Unit {0}) ℕ fault w new c.args.engine.now c.give_back.new.engine t None xs
    (tries_after {T = Unit {0}} (Err fault) w mid new c.args.engine.now c.check.new.engine c.give_back.new.engine t None xs found.looks.same found.looks.quiet is
    (c.in_err-give_back.ensures.tries t tells (found.looks.opened t tells is) (found.sound t tells is) (found.leaked t tells is))))))

pub returns-then-is_read_only-clause-goes : goal.returns-then-is_read_only-clause-goes
returns-then-is_read_only-clause-goes g c = goes_nowhere _ _ refl

pub returns-in_err-give_back-clause-goes : goal.returns-in_err-give_back-clause-goes
returns-in_err-give_back-clause-goes g c = goes_on _ _ _ c.in_ok-findings.ensures.goes c.in_err-give_back.ensures.goes

pub returns-clause-goes : goal.returns-clause-goes
returns-clause-goes g c = goes_on _ _ _ c.in_ok-findings.ensures.goes c.in_ok-give_back.ensures.goes

pub returns-clause-once : goal.returns-clause-once
returns-clause-once g c t tells is =
    let found = c.in_ok-findings.ensures in
    let reads = found.once t tells is in
    let more = c.in_ok-give_back.ensures.once t tells (found.looks.opened t tells is) (found.leaked t tells is) in
    omega (arith, reads, more)

pub returns-then-is_read_only-clause-on_memory : goal.returns-then-is_read_only-clause-on_memory
returns-then-is_read_only-clause-on_memory g c other memory = quiet_begun (g.H.Host.world c.args.host.now) (g.met.H.Host.timely c.args.host.now)

pub returns-in_err-findings-clause-on_memory : goal.returns-in_err-findings-clause-on_memory
returns-in_err-findings-clause-on_memory g c other memory = c.in_err-findings.ensures.looks.quiet

-- what is passed on is memory, which the call doesn't answer
not_passed : (result : Result ℕ Fault) (fault : Fault) → IsErr result × IsErrAnd result (λ f. f ≡ fault) → fault ≢ Memory → result ≡ Err Memory → ⊥
not_passed result fault passed never memory = never (same (sym (passed_on result fault passed) ∙ memory))
  where
    same : ◌≡◌ {A = Result ℕ Fault} (Err fault) (Err Memory) → fault ≡ Memory
    same e = cc

pub returns-in_err-give_back-clause-on_memory : goal.returns-in_err-give_back-clause-on_memory
returns-in_err-give_back-clause-on_memory g c other memory =
    let state : c.check.new.engine.files.state ≡ c.args.engine.now.files.state = c.in_ok-findings.ensures.goes.state in
    absurd (not_passed c.from_residual-in_err-give_back.result c.in_err-give_back.field-0.0 c.from_residual-in_err-give_back.ensures (c.in_err-give_back.ensures.takes_none (λ e. other (sym state ∙ e))) memory)

no_memory : (n : ℕ) → ◌≡◌ {A = Result ℕ Fault} (Ok n) (Err Memory) → ⊥
no_memory n e = cc

pub returns-clause-on_memory : goal.returns-clause-on_memory
returns-clause-on_memory g c other memory = absurd (no_memory _ memory)

pub returns-in_err-findings-clause-within : goal.returns-in_err-findings-clause-within
returns-in_err-findings-clause-within g c t tells is = let reads = c.check.ensures.within t tells is in omega (arith, reads)

pub returns-in_err-give_back-clause-within : goal.returns-in_err-give_back-clause-within
returns-in_err-give_back-clause-within g c t tells is =
    let found = c.in_ok-findings.ensures in
    let reads = found.once t tells is in
    let more = c.give_back.ensures.once t tells (found.looks.opened t tells is) (found.leaked t tells is) in
    omega (arith, reads, more)

pub returns-clause-within : goal.returns-clause-within
returns-clause-within g c t tells is =
    let found = c.in_ok-findings.ensures in
    let reads = found.once t tells is in
    let more = c.give_back.ensures.once t tells (found.looks.opened t tells is) (found.leaked t tells is) in
    omega (arith, reads, more)
