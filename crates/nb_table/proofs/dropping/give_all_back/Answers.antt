use Rattle.std.proofs.Common.{rules, ◌<◌, refl, ◌∙◌, arith, None}
use Rattle.nb_table.proofs.Common.{quiet_begun, RowsFrom, drafted, all_given, goes_on, goes_nowhere, Tries, tries_passed}
use Rattle.nb_table.proofs.GiveLaws.{giving_begun, giving_data, giving_failed, giving_last, giving_onward, giving_over, giving_opened}
use Rattle.nb_table.proofs.dropping.give_all_back.Goals as goal

pub loop-left-init : goal.loop-left-init
loop-left-init g c = record {
  giving = λ t pages tells is shaped found givable.
      giving_begun (RowsFrom c.args.first) pages (g.H.Host.world c.args.host.now) c.args.engine.now t c.count-left.result c.args.first (quiet_begun _ (g.met.H.Host.timely c.args.host.now)) is shaped found givable (c.count-left.ensures.value ∙ is.files.agrees.count) refl;
  goes = goes_nowhere c.args.engine.now c.args.engine.now refl;
  room = refl;
  cause = refl;
}

pub returns-in_err-next-clause-tries : goal.returns-in_err-next-clause-tries
returns-in_err-next-clause-tries g c t pages tells is shaped found givable =
    let l = c.loop-left in
    let some : 0 < l.left = c.loop-left-test.true in
    let giving = l.invariant.giving t pages tells is shaped found givable in
    let w = g.H.Host.world c.args.host.now in
    let new = g.H.Host.world c.give_back.new.host in
    let fault = c.in_err-next.field-0.0 in
    tries_passed c.from_residual.result fault (λ r. Tries r w new c.args.engine.now c.give_back.new.engine t None (all_given pages (drafted t.base.image)).strokes) c.from_residual.ensures
    (giving_failed (RowsFrom c.args.first) pages w (g.H.Host.world l.host) c.args.engine.now l.engine t l.left l.number some giving fault new c.give_back.new.engine
    (c.in_err-next.ensures.tries _ tells (giving_opened _ _ _ _ _ _ t l.left l.number giving) (giving_data _ _ _ _ _ _ t l.left l.number some giving)))

pub returns-then-next-eq0-clause-tries : goal.returns-then-next-eq0-clause-tries
returns-then-next-eq0-clause-tries g c t pages tells is shaped found givable =
    let l = c.loop-left in
    let some : 0 < l.left = c.loop-left-test.true in
    let giving = l.invariant.giving t pages tells is shaped found givable in
    let opened = giving_opened _ _ _ _ _ _ t l.left l.number giving in
    let new = g.H.Host.world c.give_back.new.host in
    giving_last (RowsFrom c.args.first) pages (g.H.Host.world c.args.host.now) (g.H.Host.world l.host) c.args.engine.now l.engine t l.left l.number some giving c.in_ok-next.next new c.give_back.new.engine
    (c.in_ok-next.ensures.tries _ tells opened (giving_data _ _ _ _ _ _ t l.left l.number some giving))
    (c.in_ok-next.ensures.next _ tells opened) c.if-next-eq0.true

pub loop-left-preserved : goal.loop-left-preserved
loop-left-preserved g c =
    let l = c.loop-left in
    record {
      giving = λ t pages tells is shaped found givable.
          let some : 0 < l.left = c.loop-left-test.true in
          let giving = l.invariant.giving t pages tells is shaped found givable in
          let opened = giving_opened _ _ _ _ _ _ t l.left l.number giving in
          giving_onward (RowsFrom c.args.first) pages (g.H.Host.world c.args.host.now) (g.H.Host.world l.host) c.args.engine.now l.engine t l.left l.number some giving c.in_ok-next.next (g.H.Host.world c.give_back.new.host) c.give_back.new.engine
          (c.in_ok-next.ensures.tries _ tells opened (giving_data _ _ _ _ _ _ t l.left l.number some giving))
          (c.in_ok-next.ensures.next _ tells opened) c.if-next-eq0.false;
      goes = goes_on _ _ _ l.invariant.goes c.in_ok-next.ensures.goes;
      room = search rules;
      cause = c.in_ok-next.ensures.cause ∙ l.invariant.cause;
    }

pub returns-clause-tries : goal.returns-clause-tries
returns-clause-tries g c t pages tells is shaped found givable =
    let l = c.loop-left in
    absurd (giving_over (RowsFrom c.args.first) pages _ _ _ _ t l.left l.number (omega (arith, c.loop-left-test.false)) (l.invariant.giving t pages tells is shaped found givable))
