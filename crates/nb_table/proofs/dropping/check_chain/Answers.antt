use Rattle.std.proofs.Common.{rules, ◌<◌, refl, ◌∙◌, arith, ℕ, Option}
use Rattle.nb_table.proofs.Common.{lowest_broken, RowsFrom, not_data, tested_on, drop_broken, looks_begun, looks_then}
use Rattle.nb_table.proofs.CheckLaws.{checks_begun, checks_refused, checks_last, checks_onward, checks_over}
use Rattle.nb_table.proofs.dropping.check_chain.Goals as goal

pub loop-left-init : goal.loop-left-init
loop-left-init g c = record {
  checks = λ t pages noted tells is found before.
      checks_begun (RowsFrom c.args.first) t.base.image pages noted c.count-left.result c.args.first c.args.before found before (c.count-left.ensures.value ∙ is.files.agrees.count) refl;
  sized = refl;
  looks = looks_begun (g.H.Host.world c.args.host.now) (g.met.H.Host.timely c.args.host.now);
  cause = refl;
}

pub returns-in_err-found-clause-test : goal.returns-in_err-found-clause-test
returns-in_err-found-clause-test g c t pages noted tells is found before =
    let l = c.loop-left in
    let some : 0 < l.left = c.loop-left-test.true in
    let image = t.base.image in
    tested_on (Option ℕ × ℕ) (Unit {0}) _ _ (not_data image c.args.first l.number) (lowest_broken (drop_broken image pages noted)) c.from_residual.ensures
    (checks_refused (RowsFrom c.args.first) image pages noted l.left l.number l.lacking some (l.invariant.checks t pages noted tells is found before)) (c.in_err-found.ensures.test t tells (l.invariant.looks.opened t tells is))

pub returns-then-next-eq0-clause-test : goal.returns-then-next-eq0-clause-test
returns-then-next-eq0-clause-test g c t pages noted tells is found before =
    let l = c.loop-left in
    let some : 0 < l.left = c.loop-left-test.true in
    let image = t.base.image in
    let still = l.invariant.looks.opened t tells is in
    let checks = l.invariant.checks t pages noted tells is found before in
    c.check_none.ensures.test (drop_broken image pages noted)
    (checks_last (RowsFrom c.args.first) image pages noted l.left l.number l.lacking some checks c.in_ok-found.found c.in_ok-found.next
    (c.in_ok-found.ensures.lacking t checks.behind tells still checks.lowest) (c.in_ok-found.ensures.next t tells still) c.if-next-eq0.true)

pub loop-left-preserved : goal.loop-left-preserved
loop-left-preserved g c =
    let l = c.loop-left in
    record {
      checks = λ t pages noted tells is found before.
          let some : 0 < l.left = c.loop-left-test.true in
          let still = l.invariant.looks.opened t tells is in
          let checks = l.invariant.checks t pages noted tells is found before in
          checks_onward (RowsFrom c.args.first) t.base.image pages noted l.left l.number l.lacking some checks c.in_ok-found.found c.in_ok-found.next
          (c.in_ok-found.ensures.lacking t checks.behind tells still checks.lowest) (c.in_ok-found.ensures.next t tells still) c.if-next-eq0.false;
      sized = search rules;
      looks = looks_then l.invariant.looks c.in_ok-found.ensures.looks;
      cause = c.in_ok-found.ensures.cause ∙ l.invariant.cause;
    }

pub returns-clause-test : goal.returns-clause-test
returns-clause-test g c t pages noted tells is found before =
    let l = c.loop-left in
    absurd (checks_over (RowsFrom c.args.first) t.base.image pages noted l.left l.number l.lacking (omega (arith, c.loop-left-test.false)) (l.invariant.checks t pages noted tells is found before))

pub returns-in_err-found-clause-looks : goal.returns-in_err-found-clause-looks
returns-in_err-found-clause-looks g c = looks_then c.loop-left.invariant.looks c.in_err-found.ensures.looks

pub returns-then-next-eq0-clause-looks : goal.returns-then-next-eq0-clause-looks
returns-then-next-eq0-clause-looks g c = looks_then c.loop-left.invariant.looks c.in_ok-found.ensures.looks
