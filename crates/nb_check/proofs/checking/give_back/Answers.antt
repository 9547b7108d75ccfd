use Rattle.std.proofs.Common.{◌≡◌, ◌≢◌, ℕ, ◌*◌, ◌<◌, List, length, refl, sym, ap, subst, ◌∙◌, arith, Bool, None, Ok, Err, IfErr}
use Rattle.nb_check.proofs.Common.{Memory, quiet_begun, reclaimed, drafted, give_page, Image, is_among, is_leaked, leaked, Stroke, after_strokes, Makes, goes_on, goes_nowhere, mark_cause, Tries, tries_passed}
use Rattle.nb_check.proofs.AmongLaws.{leaked_each}
use Rattle.nb_check.proofs.LeakLaws.{leaked_all, step_reads, passed_reads, open_header, giving_begun, giving_done, giving_passed, giving_sure, giving_failed, giving_onward, short_anyway}
use Rattle.nb_check.proofs.TriesLaws.{made_anyway}
use Rattle.nb_state.proofs.TurnLaws.{unless_none}
use Rattle.nb_check.proofs.checking.give_back.Goals as goal

-- whether a page of the report is leaked
tells_leaked : (image : Image) (report : List ℕ) (n : ℕ) (has : Bool) → report ≡ leaked image → has ≡ is_among n report → n < length image → is_leaked image n ≡ has
tells_leaked image report n has reported is low = sym (leaked_each image n low) ∙ ap (is_among n) (sym reported) ∙ sym is

pub loop-number-init : goal.loop-number-init
loop-number-init g c = record {
  giving = λ t tells is sound reported. giving_begun (g.H.Host.world c.args.host.now) c.args.engine.now t (quiet_begun (g.H.Host.world c.args.host.now) (g.met.H.Host.timely c.args.host.now)) is (open_header _ _ t is) sound;
  goes = goes_nowhere c.args.engine.now c.args.engine.now refl;
  once = λ t tells is reported. let all = ap length (leaked_all t.base.image) in omega (arith, all);
  cause = refl;
}

pub loop-number-preserved-then-not-has : goal.loop-number-preserved-then-not-has
loop-number-preserved-then-not-has g c =
    let l = c.loop-number in
    record {
      giving = λ t tells is sound reported.
          let low : l.number < length t.base.image = omega (arith, c.loop-number-test.true, c.count-count.ensures.value, is.files.agrees.count) in
          giving_passed (g.H.Host.world c.args.host.now) (g.H.Host.world l.host) c.args.engine.now l.engine t l.number low (l.invariant.giving t tells is sound reported)
          (tells_leaked t.base.image c.args.report.now l.number c.has.result reported c.has.ensures low ∙ c.if-not-has.true);
      goes = l.invariant.goes;
      once = λ t tells is reported.
          let low : l.number < length t.base.image = omega (arith, c.loop-number-test.true, c.count-count.ensures.value, is.files.agrees.count) in
          passed_reads t.base.image l.number (g.H.Host.world l.host).reads _ low (tells_leaked t.base.image c.args.report.now l.number c.has.result reported c.has.ensures low ∙ c.if-not-has.true) (l.invariant.once t tells is reported);
      cause = l.invariant.cause;
    }

pub returns-in_err-data_free-clause-tries : goal.returns-in_err-data_free-clause-tries
returns-in_err-data_free-clause-tries g c t tells is sound reported =
    let l = c.loop-number in
    let fault = c.in_err-data_free.field-0.0 in
    let w = g.H.Host.world c.args.host.now in
    let new = g.H.Host.world c.data_free.new.host in
    let low : l.number < length t.base.image = omega (arith, c.loop-number-test.true, c.count-count.ensures.value, is.files.agrees.count) in
    let giving = l.invariant.giving t tells is sound reported in
    let leaks = tells_leaked t.base.image c.args.report.now l.number c.has.result reported c.has.ensures low ∙ c.if-not-has.false in
    let z : Image = (after_strokes t giving.made).base.image in
    let tries = c.in_err-data_free.ensures.tries (after_strokes t giving.made) tells giving.makes.opened in
    let sure = giving_sure w (g.H.Host.world l.host) c.args.engine.now l.engine t l.number low giving leaks sound (open_header _ _ t is) (Err fault) tries.test in
    tries_passed c.from_residual.result fault (λ r. Tries r w new c.args.engine.now c.data_free.new.self t None (reclaimed t.base.image).strokes) c.from_residual.ensures
    (giving_failed w (g.H.Host.world l.host) c.args.engine.now l.engine t l.number low giving leaks sound fault new c.data_free.new.self sure
    (made_anyway fault (g.H.Host.world l.host) new l.engine c.data_free.new.self (after_strokes t giving.made) (mark_cause z l.number) (give_page l.number (drafted z)).strokes sure tries.makes)
    (short_anyway fault (g.H.Host.world l.host) new l.engine c.data_free.new.self (after_strokes t giving.made) (mark_cause z l.number) (give_page l.number (drafted z)).strokes tries.stops))

pub loop-number-preserved : goal.loop-number-preserved
loop-number-preserved g c =
    let l = c.loop-number in
    record {
      giving = λ t tells is sound reported.
          let w = g.H.Host.world c.args.host.now in
          let mid = g.H.Host.world l.host in
          let new = g.H.Host.world c.data_free.new.host in
          let low : l.number < length t.base.image = omega (arith, c.loop-number-test.true, c.count-count.ensures.value, is.files.agrees.count) in
          let giving = l.invariant.giving t tells is sound reported in
          let leaks = tells_leaked t.base.image c.args.report.now l.number c.has.result reported c.has.ensures low ∙ c.if-not-has.false in
          let z : Image = (after_strokes t giving.made).base.image in
          let tries = c.in_ok-data_free.ensures.tries (after_strokes t giving.made) tells giving.makes.opened in
          giving_onward w mid c.args.engine.now l.engine t l.number low giving leaks sound (open_header _ _ t is) new c.data_free.new.self
          (subst (λ (ss : List Stroke). Makes {T = Unit {0}} (Ok tt) mid new l.engine c.data_free.new.self (after_strokes t giving.made) ss) (unless_none (mark_cause z l.number) (give_page l.number (drafted z)).strokes tries.test) tries.makes);
      goes = goes_on _ _ _ l.invariant.goes c.in_ok-data_free.ensures.goes;
      once = λ t tells is reported.
          let low : l.number < length t.base.image = omega (arith, c.loop-number-test.true, c.count-count.ensures.value, is.files.agrees.count) in
          step_reads t.base.image l.number (g.H.Host.world c.args.host.now).reads (g.H.Host.world l.host).reads (2 * length (leaked t.base.image)) (g.H.Host.world c.data_free.new.host).reads low
          (tells_leaked t.base.image c.args.report.now l.number c.has.result reported c.has.ensures low ∙ c.if-not-has.false) (c.in_ok-data_free.ensures.once tells) (l.invariant.once t tells is reported);
      cause = c.in_ok-data_free.ensures.cause ∙ l.invariant.cause;
    }

pub returns-clause-tries : goal.returns-clause-tries
returns-clause-tries g c t tells is sound reported =
    let l = c.loop-number in
    giving_done (g.H.Host.world c.args.host.now) (g.H.Host.world l.host) c.args.engine.now l.engine t l.number (omega (arith, c.loop-number-test.false, c.loop-number.auto.number-end, c.count-count.ensures.value, is.files.agrees.count))
    (l.invariant.giving t tells is sound reported)

pub returns-in_err-data_free-clause-goes : goal.returns-in_err-data_free-clause-goes
returns-in_err-data_free-clause-goes g c = goes_on _ _ _ c.loop-number.invariant.goes c.in_err-data_free.ensures.goes

pub returns-in_err-data_free-clause-once : goal.returns-in_err-data_free-clause-once
returns-in_err-data_free-clause-once g c t tells is reported =
    let l = c.loop-number in
    let low : l.number < length t.base.image = omega (arith, c.loop-number-test.true, c.count-count.ensures.value, is.files.agrees.count) in
    let reads = step_reads t.base.image l.number (g.H.Host.world c.args.host.now).reads (g.H.Host.world l.host).reads (2 * length (leaked t.base.image)) (g.H.Host.world c.data_free.new.host).reads low
    (tells_leaked t.base.image c.args.report.now l.number c.has.result reported c.has.ensures low ∙ c.if-not-has.false) (c.in_err-data_free.ensures.once tells) (l.invariant.once t tells is reported) in
    omega (arith, reads)

pub returns-clause-once : goal.returns-clause-once
returns-clause-once g c t tells is reported = let reads = c.loop-number.invariant.once t tells is reported in omega (arith, reads)

pub returns-in_err-data_free-clause-takes_none : goal.returns-in_err-data_free-clause-takes_none
returns-in_err-data_free-clause-takes_none g c other =
    tries_passed c.from_residual.result c.in_err-data_free.field-0.0 (λ r. IfErr r (λ fault. fault ≢ Memory)) c.from_residual.ensures
    (c.in_err-data_free.ensures.takes_none (λ e. other (sym c.loop-number.invariant.goes.state ∙ e)))
