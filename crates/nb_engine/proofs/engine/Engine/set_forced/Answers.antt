use Rattle.std.proofs.Common.{◌≡◌, ℕ, ◌∙◌, refl, sym, ap, subst, true, None, Result}
use Rattle.nb_engine.proofs.Common.{World, Fault, Quiet, quiet_begun, Done, is_read_only, flag, Cause, read_only, Seen, byte_strokes, forced_turn, Trail, Held, IsOpen, NoPageWaits, but_pages, Tries, done, seeing, if_ok, tries_failed, tries_does, tries_stops, refused_memory}
use Rattle.nb_engine.proofs.FreeLaws.{closed_cause, open_cause}
use Rattle.nb_engine.proofs.FlagLaws.{forced_is}
use Rattle.nb_engine.proofs.engine.Engine.set_forced.Goals as goal

-- The flag is put, where the database may be changed.
flag_tries : (result : Result (Unit {0}) Fault) (old new : World) (inside a b : Held) (t : Trail) (at bit : ℕ) → inside ≡ a → at ≡ 64 → read_only t.base.image ≡ None → Tries result old new inside b t None (byte_strokes at bit t.base.image)
    → Tries result old new a b t (read_only t.base.image) (byte_strokes 64 bit t.base.image)
flag_tries result old new inside a b t at bit same is free tries =
    subst (λ (h : Held). Tries result old new h b t (read_only t.base.image) (byte_strokes 64 bit t.base.image)) same
    (subst (λ (k : Cause). Tries result old new inside b t k (byte_strokes 64 bit t.base.image)) (sym free) (subst (λ (n : ℕ). Tries result old new inside b t None (byte_strokes n bit t.base.image)) is tries))

pub returns-then-is_read_only-clause-turn : goal.returns-then-is_read_only-clause-turn
returns-then-is_read_only-clause-turn g c s t tells same is =
    let first = g.H.Host.world c.args.host.now in
    let here = subst (λ (h : Held). IsOpen first h t) (sym c.self.view_is) is in
    let closed : is_read_only t.base.image ≡ true = sym here.agrees.read_only ∙ sym c.is_read_only.ensures ∙ c.if-is_read_only.true in
    tries_does done _ first first _ _ t s (λ (x : Seen). forced_turn x c.args.on) _ Done refl _ same (forced_is (seeing s t.base) c.args.on) tt
    (tries_failed (Unit {0}) _ first first _ _ t (read_only t.base.image) _ (refused_memory _) (closed_cause t.base.image closed) refl (quiet_begun first (g.met.H.Host.timely c.args.host.now)) is is)

pub returns-clause-turn : goal.returns-clause-turn
returns-clause-turn g c s t tells same is =
    let old = g.H.Host.world c.args.host.now in
    let new = g.H.Host.world c.put_flag.new.host in
    let here = subst (λ (h : Held). IsOpen old h t) (sym c.self.view_is) is in
    let result = c.put_flag.result in
    let tries = flag_tries result old new _ _ c.put_flag.new.store t c.place-at.result.0 (flag c.args.on) c.self.view_is (ap (λ (place : ℕ × ℕ). place.0) c.place-at.ensures)
    (open_cause t.base.image (sym here.agrees.read_only ∙ sym c.is_read_only.ensures ∙ c.if-is_read_only.false)) (c.put_flag.ensures.tries t tells here) in
    tries_does done result old new _ _ t s (λ (x : Seen). forced_turn x c.args.on) _ Done refl _ same (forced_is (seeing s t.base) c.args.on) (if_ok result (λ value. done value ≡ Done) (λ value. refl)) tries

pub returns-clause-on_memory : goal.returns-clause-on_memory
returns-clause-on_memory g c s t tells same is =
    let old = g.H.Host.world c.args.host.now in
    let new = g.H.Host.world c.put_flag.new.host in
    let here = subst (λ (h : Held). IsOpen old h t) (sym c.self.view_is) is in
    let result = c.put_flag.result in
    let tries = flag_tries result old new _ _ c.put_flag.new.store t c.place-at.result.0 (flag c.args.on) c.self.view_is (ap (λ (place : ℕ × ℕ). place.0) c.place-at.ensures)
    (open_cause t.base.image (sym here.agrees.read_only ∙ sym c.is_read_only.ensures ∙ c.if-is_read_only.false)) (c.put_flag.ensures.tries t tells here) in
    tries_stops result old new _ _ t s (λ (x : Seen). forced_turn x c.args.on) _ Done _ same (forced_is (seeing s t.base) c.args.on) tries

pub returns-clause-forced : goal.returns-clause-forced
returns-clause-forced g c t tells is forced memory =
    let old = g.H.Host.world c.args.host.now in
    let new = g.H.Host.world c.put_flag.new.host in
    let here = subst (λ (h : Held). IsOpen old h t) (sym c.self.view_is) is in
    subst (λ (h : Held). (but_pages c.put_flag.new.store ≡ but_pages h) × Quiet old new) c.self.view_is
    (c.put_flag.ensures.forced t tells here (ap (λ (h : Held). h.files.forced) c.self.view_is ∙ forced) memory)

pub returns-clause-idle : goal.returns-clause-idle
returns-clause-idle g c none memory =
    subst (λ (h : Held). (but_pages c.put_flag.new.store ≡ but_pages h) × Quiet (g.H.Host.world c.args.host.now) (g.H.Host.world c.put_flag.new.host)) c.self.view_is
    (c.put_flag.ensures.idle (subst NoPageWaits (sym c.self.view_is) none) memory)
