use Rattle.std.proofs.Common.{◌≡◌, ◌<◌, ℕ, List, [], ◌∷◌, ◌++◌, sym, subst, ◌∙◌, arith, ap, None, Result, Ok, Err, IfErr, IsTrue}
use Rattle.nb_engine.proofs.Common.{as_fault, entries_in, Fault, World, Quiet, page_at, image_size, first_cause, read_only, not_raw, too_long, Seen, write_turn, Trail, Held, IsNoRefusal, IsOpen, but_pages, Does, Makes, Stays, StopsShort, Tries, WhereMemory, entry_cause, raise_strokes, raw_stroke, done, vec_whole, entries_some, seeing, tested_does, tries_passed, tries_after, tries_front, counts_passed, none_wanted, none_refused, not_passed, wanted_by}
use Rattle.nb_engine.proofs.WriteLaws.{no_header, write_untaken, write_checked, write_tries, write_does, write_stops}
use Rattle.nb_engine.proofs.engine.Engine.page_write.Goals as goal
use Rattle.nb_engine.proofs.engine.Engine.page_write.Goals.{After-deref_mut-2}

-- The page was taken, and its entry was raised.
module _ (g : _) (c : goal.After-deref_mut-2 g) (t : Trail) (tells : IsTrue g.H.Host.tells) (is : IsOpen (g.H.Host.world c.args.host.now) c.args.self.now t) where
  still : IsOpen (g.H.Host.world c.read_raw.new.host) c.read_raw.new.store t
  still = c.in_ok-read_raw.ensures.looks.opened t tells (subst (λ (h : Held). IsOpen (g.H.Host.world c.args.host.now) h t) (sym c.self.view_is) is)

  taken : not_raw t.base.image c.args.number ≡ None
  taken = (c.in_ok-read_raw.ensures.reads t tells (subst (λ (h : Held). IsOpen (g.H.Host.world c.args.host.now) h t) (sym c.self.view_is) is)).test

  read : c.deref_mut-2.result.now ≡ page_at t.base.image c.args.number
  read =
      vec_whole _ c.read_raw.new.page _ _ c.deref_mut-2.ensures.value (omega (arith, c.read_raw.auto.page, c.deref_mut.ensures.len))
      ∙ (c.in_ok-read_raw.ensures.reads t tells (subst (λ (h : Held). IsOpen (g.H.Host.world c.args.host.now) h t) (sym c.self.view_is) is)).page

  free : first_cause (read_only t.base.image ∷ too_long c.args.text.now ∷ []) ≡ None
  free = c.in_ok-check_write.ensures.test t.base.image (c.is_read_only.ensures ∙ still.agrees.read_only)

  some : 0 < entries_in (image_size t.base.image)
  some =
      let here = subst (λ (h : Held). IsOpen (g.H.Host.world c.args.host.now) h t) (sym c.self.view_is) is in
      entries_some _ t.base.image c.self.invariant.0 here.files.agrees.page_size

  raised : Tries {T = Unit {0}} (Ok tt) (g.H.Host.world c.args.host.now) (g.H.Host.world c.raise_entry.new.host) c.args.self.now c.raise_entry.new.store t (entry_cause t.base.image c.args.number) (raise_strokes t.base.image c.args.number)
  raised =
      let raw = c.in_ok-read_raw.ensures in
      tries_after {T = Unit {0}} (Ok tt) _ _ _ c.args.self.now _ c.raise_entry.new.store t _ _ (raw.looks.same ∙ ap but_pages c.self.view_is) raw.looks.quiet is (c.in_ok-raise_entry.ensures.tries t tells still)

  -- both strokes, where the page was to be written
  written : (result : Result (Unit {0}) Fault) (new : World) (b : Held) → IfErr result IsNoRefusal
      → ((u : Trail) → IsOpen (g.H.Host.world c.raise_entry.new.host) c.raise_entry.new.store u → c.deref_mut-2.result.now ≡ page_at u.base.image c.args.number
      → Makes result (g.H.Host.world c.raise_entry.new.host) new c.raise_entry.new.store b u (raw_stroke u.base.image c.args.number c.args.text.now ∷ []))
      → ((u : Trail) → IsOpen (g.H.Host.world c.raise_entry.new.host) c.raise_entry.new.store u → WhereMemory result (Stays (g.H.Host.world c.raise_entry.new.host) new c.raise_entry.new.store b u))
      → Tries result (g.H.Host.world c.args.host.now) new c.args.self.now b t (entry_cause t.base.image c.args.number) (raise_strokes t.base.image c.args.number ++ raw_stroke t.base.image c.args.number c.args.text.now ∷ [])
  written result new b never writes stays = write_tries result _ _ new c.args.self.now c.raise_entry.new.store b t c.args.number c.args.text.now _ taken some raised read never writes stays

-- Its entry was to be raised.
unraised : (fault : Fault) (old mid new : World) (a b c : Held) (t : Trail) (p : ℕ) (text : List ℕ) → but_pages b ≡ but_pages a → Quiet old mid → IsOpen old a t
    → Tries {T = Unit {0}} (Err fault) mid new b c t (entry_cause t.base.image p) (raise_strokes t.base.image p)
    → Tries {T = Unit {0}} (Err fault) old new a c t (entry_cause t.base.image p) (raise_strokes t.base.image p ++ raw_stroke t.base.image p text ∷ [])
unraised fault old mid new a b c t p text same quiet is tries =
    tries_front (Unit {0}) (Unit {0}) fault _ _ _ _ t _ (raise_strokes t.base.image p) (raw_stroke t.base.image p text ∷ []) (tries_after {T = Unit {0}} (Err fault) _ _ _ _ _ _ t _ _ same quiet is tries)

pub returns-in_err-read_raw-clause-turn : goal.returns-in_err-read_raw-clause-turn
returns-in_err-read_raw-clause-turn g c s t tells same is =
    let here = subst (λ (h : Held). IsOpen (g.H.Host.world c.args.host.now) h t) (sym c.self.view_is) is in
    let raw = c.in_err-read_raw.ensures in
    tested_does (Unit {0}) (Unit {0}) done _ _ _ _ _ _ t s (λ (x : Seen). write_turn x c.args.number c.args.text.now) _ c.from_residual.ensures same (raw.looks.same ∙ ap but_pages c.self.view_is) raw.looks.quiet is (raw.looks.opened t tells here)
    (raw.reads t tells here).test (write_untaken (seeing s t.base) c.args.number c.args.text.now)

pub returns-then-number-eq0-clause-turn : goal.returns-then-number-eq0-clause-turn
returns-then-number-eq0-clause-turn g c s t tells same is =
    let here = subst (λ (h : Held). IsOpen (g.H.Host.world c.args.host.now) h t) (sym c.self.view_is) is in
    absurd (no_header t.base.image c.args.number is.files.agrees.header (c.in_ok-read_raw.ensures.reads t tells here).test c.if-number-eq0.true)

pub returns-in_err-check_write-clause-turn : goal.returns-in_err-check_write-clause-turn
returns-in_err-check_write-clause-turn g c s t tells same is =
    let here = subst (λ (h : Held). IsOpen (g.H.Host.world c.args.host.now) h t) (sym c.self.view_is) is in
    let raw = c.in_ok-read_raw.ensures in
    let still = raw.looks.opened t tells here in
    tested_does (Unit {0}) (Unit {0}) done _ _ _ _ _ _ t s (λ (x : Seen). write_turn x c.args.number c.args.text.now) _ c.from_residual-in_err-check_write.ensures same (raw.looks.same ∙ ap but_pages c.self.view_is) raw.looks.quiet is (raw.looks.opened t tells here)
    (c.in_err-check_write.ensures.test t.base.image (c.is_read_only.ensures ∙ still.agrees.read_only)) (write_checked (seeing s t.base) c.args.number c.args.text.now (raw.reads t tells here).test)

pub returns-in_err-raise_entry-clause-turn : goal.returns-in_err-raise_entry-clause-turn
returns-in_err-raise_entry-clause-turn g c s t tells same is =
    let old = g.H.Host.world c.args.host.now in
    let new = g.H.Host.world c.raise_entry.new.host in
    let here = subst (λ (h : Held). IsOpen old h t) (sym c.self.view_is) is in
    let raw = c.in_ok-read_raw.ensures in
    let still = raw.looks.opened t tells here in
    let fault = c.in_err-raise_entry.field-0.0 in
    tries_passed c.from_residual-in_err-raise_entry.result fault (λ r. Does done r old new c.args.self.now c.raise_entry.new.store t (write_turn s c.args.number c.args.text.now)) c.from_residual-in_err-raise_entry.ensures
    (write_does (Err fault) old new c.args.self.now c.raise_entry.new.store t s c.args.number c.args.text.now same (raw.reads t tells here).test (c.in_ok-check_write.ensures.test t.base.image (c.is_read_only.ensures ∙ still.agrees.read_only))
    (entries_some _ t.base.image c.self.invariant.0 here.files.agrees.page_size)
    (unraised fault old _ new c.args.self.now _ c.raise_entry.new.store t c.args.number c.args.text.now (raw.looks.same ∙ ap but_pages c.self.view_is) raw.looks.quiet is (c.in_err-raise_entry.ensures.tries t tells still)))

pub returns-in_err-raise_entry-clause-on_memory : goal.returns-in_err-raise_entry-clause-on_memory
returns-in_err-raise_entry-clause-on_memory g c s t tells same is =
    let old = g.H.Host.world c.args.host.now in
    let new = g.H.Host.world c.raise_entry.new.host in
    let here = subst (λ (h : Held). IsOpen old h t) (sym c.self.view_is) is in
    let raw = c.in_ok-read_raw.ensures in
    let still = raw.looks.opened t tells here in
    let fault = c.in_err-raise_entry.field-0.0 in
    tries_passed c.from_residual-in_err-raise_entry.result fault (λ r. WhereMemory r (StopsShort old new c.args.self.now c.raise_entry.new.store t (write_turn s c.args.number c.args.text.now).strokes)) c.from_residual-in_err-raise_entry.ensures
    (write_stops (Err fault) old new c.args.self.now c.raise_entry.new.store t s c.args.number c.args.text.now same (raw.reads t tells here).test (c.in_ok-check_write.ensures.test t.base.image (c.is_read_only.ensures ∙ still.agrees.read_only))
    (entries_some _ t.base.image c.self.invariant.0 here.files.agrees.page_size)
    (unraised fault old _ new c.args.self.now _ c.raise_entry.new.store t c.args.number c.args.text.now (raw.looks.same ∙ ap but_pages c.self.view_is) raw.looks.quiet is (c.in_err-raise_entry.ensures.tries t tells still)))

pub returns-clause-turn : goal.returns-clause-turn
returns-clause-turn g c s t tells same is =
    let at = (goal.at.returns-clause-turn g c).After-deref_mut-2 in
    write_does (Ok tt) _ _ _ _ t s c.args.number c.args.text.now same (taken g at t tells is) (free g at t tells is) (some g at t tells is)
    (written g at t tells is (Ok tt) _ c.write_raw.new.store tt (λ u opened is. c.in_ok-write_raw.ensures.makes u tells opened is) (λ u opened. tt))

pub returns-in_err-write_raw-clause-turn : goal.returns-in_err-write_raw-clause-turn
returns-in_err-write_raw-clause-turn g c s t tells same is =
    let at = (goal.at.returns-in_err-write_raw-clause-turn g c).After-deref_mut-2 in
    let error = c.in_err-write_raw.field-0.0 in
    tries_passed c.from_residual-in_err-write_raw.result (as_fault error) (λ r. Does done r (g.H.Host.world c.args.host.now) (g.H.Host.world c.write_raw.new.host) c.args.self.now c.write_raw.new.store t (write_turn s c.args.number c.args.text.now)) c.from_residual-in_err-write_raw.ensures
    (write_does (Err (as_fault error)) _ _ _ _ t s c.args.number c.args.text.now same (taken g at t tells is) (free g at t tells is) (some g at t tells is)
    (written g at t tells is (Err (as_fault error)) _ c.write_raw.new.store (none_refused error) (λ u opened is. c.in_err-write_raw.ensures.makes u tells opened is)
    (λ u opened. wanted_by (Unit {0}) (Unit {0}) error _ (λ e. c.in_err-write_raw.ensures.on_memory u tells opened e))))

pub returns-in_err-write_raw-clause-on_memory : goal.returns-in_err-write_raw-clause-on_memory
returns-in_err-write_raw-clause-on_memory g c s t tells same is =
    let at = (goal.at.returns-in_err-write_raw-clause-on_memory g c).After-deref_mut-2 in
    let error = c.in_err-write_raw.field-0.0 in
    tries_passed c.from_residual-in_err-write_raw.result (as_fault error) (λ r. WhereMemory r (StopsShort (g.H.Host.world c.args.host.now) (g.H.Host.world c.write_raw.new.host) c.args.self.now c.write_raw.new.store t (write_turn s c.args.number c.args.text.now).strokes)) c.from_residual-in_err-write_raw.ensures
    (write_stops (Err (as_fault error)) _ _ _ _ t s c.args.number c.args.text.now same (taken g at t tells is) (free g at t tells is) (some g at t tells is)
    (written g at t tells is (Err (as_fault error)) _ c.write_raw.new.store (none_refused error) (λ u opened is. c.in_err-write_raw.ensures.makes u tells opened is)
    (λ u opened. wanted_by (Unit {0}) (Unit {0}) error _ (λ e. c.in_err-write_raw.ensures.on_memory u tells opened e))))

pub returns-in_err-read_raw-clause-on_memory : goal.returns-in_err-read_raw-clause-on_memory
returns-in_err-read_raw-clause-on_memory g c s t tells same is = not_passed c.from_residual.result c.in_err-read_raw.field-0.0 _ c.from_residual.ensures c.in_err-read_raw.ensures.takes_none

pub returns-in_err-check_write-clause-on_memory : goal.returns-in_err-check_write-clause-on_memory
returns-in_err-check_write-clause-on_memory g c s t tells same is = not_passed c.from_residual-in_err-check_write.result c.in_err-check_write.field-0.0 _ c.from_residual-in_err-check_write.ensures c.in_err-check_write.ensures.takes_none

pub returns-in_err-write_raw-clause-cause : goal.returns-in_err-write_raw-clause-cause
returns-in_err-write_raw-clause-cause g c =
    counts_passed c.from_residual-in_err-write_raw.result c.in_err-write_raw.field-0.0 c.from_residual-in_err-write_raw.ensures (Unit {0}) _ _ _
    (c.in_ok-raise_entry.ensures.cause ∙ c.in_ok-read_raw.ensures.cause) c.in_err-write_raw.ensures.cause

pub returns-in_err-write_raw-clause-takes_none : goal.returns-in_err-write_raw-clause-takes_none
returns-in_err-write_raw-clause-takes_none g c unstalled =
    let raw = c.in_ok-read_raw.ensures in
    none_wanted c.from_residual-in_err-write_raw.result c.in_err-write_raw.field-0.0 c.from_residual-in_err-write_raw.ensures
    (c.in_err-write_raw.ensures.takes_none (λ one. unstalled (sym (ap (λ (h : Held). h.files.state) (raw.looks.same ∙ ap but_pages c.self.view_is)) ∙ sym c.in_ok-raise_entry.ensures.goes.state ∙ one)))

pub write_raw-requires-clause-inside : goal.write_raw-requires-clause-inside
write_raw-requires-clause-inside g c = omega (arith, c.in_ok-read_raw.ensures.inside, ap (λ (h : Held). h.files.count) c.in_ok-read_raw.ensures.looks.same, c.in_ok-raise_entry.ensures.goes.longer)
