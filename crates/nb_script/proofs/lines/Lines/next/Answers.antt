use Rattle.std.proofs.Common.{length, ap, sym, ◌∙◌, arith, eqb-true}
use Rattle.nb_script.proofs.Common.{lines_of, numbered}
use Rattle.nb_script.proofs.LineLaws.{kept, skipped, no_lines, none_numbered}
use Rattle.nb_script.proofs.lines.Lines.next.Goals as goal

pub returns-then-not-is_skipped-clause-line : goal.returns-then-not-is_skipped-clause-line
returns-then-not-is_skipped-clause-line c =
    let n = c.loop-line.self.passed in
    let line = c.first_line.result.0.now in
    sym c.loop-line.invariant.left ∙ ap (numbered n) c.first_line.ensures.line ∙ kept n line (lines_of c.first_line.result.1.now) (sym c.is_skipped.ensures ∙ c.if-not-is_skipped.true)

pub loop-line-preserved : goal.loop-line-preserved
loop-line-preserved c =
    let n = c.loop-line.self.passed in
    let line = c.first_line.result.0.now in
    let lines = lines_of c.first_line.result.1.now in
    let split = c.first_line.ensures.line in
    let invariant = c.loop-line.invariant in
    record {
      left = sym (skipped n line lines (sym c.is_skipped.ensures ∙ c.if-not-is_skipped.false)) ∙ ap (numbered n) (sym split) ∙ invariant.left;
      count = omega (arith, ap length split) ∙ invariant.count;
      shorter = omega (arith, c.first_line.ensures.shorter, invariant.shorter);
    }

pub returns-clause-line : goal.returns-clause-line
returns-clause-line c =
    let none = no_lines c.loop-line.self.rest.now (eqb-true (length c.loop-line.self.rest.now) 0 (sym c.is_empty.ensures ∙ c.loop-line-test.false)) in
    let invariant = c.loop-line.invariant in
    (sym invariant.left ∙ ap (numbered c.loop-line.self.passed) none ∙ none_numbered c.loop-line.self.passed, omega (arith, ap length none) ∙ invariant.count)
