use Rattle.std.proofs.Common.{sym, ◌∙◌, arith}
use Rattle.nb_script.proofs.Common.{left}
use Rattle.nb_script.proofs.Scripts.{no_more, one_line, bad_line}
use Rattle.nb_script.proofs.reading.add_lines.Goals as goal

pub returns-in_default-2 : goal.returns-in_default-2
returns-in_default-2 c =
    let l = c.loop-line in
    let after = c.next.new.self in
    rw (c.bad.ensures, c.passed.ensures)
    (sym l.invariant.meant ∙ bad_line l.taken l.script (left l.lines.passed l.lines.rest.now) (left after.passed after.rest.now) (after.passed, c.in-Some.line.now) c.in-Some.ensures.line (rw c.in_default-2.is at c.in_ok-session.ensures.ok))

pub loop-line-preserved : goal.loop-line-preserved
loop-line-preserved c =
    let l = c.loop-line in
    let after = c.next.new.self in
    record {
      few = omega (arith, rw c.in-Some-2.is at c.in_ok-session.ensures.few);
      meant = rw c.in_ok-add.ensures.ok
          (one_line l.taken l.script (left l.lines.passed l.lines.rest.now) (left after.passed after.rest.now) (after.passed, c.in-Some.line.now) (c.in-Some-2.session, c.in-Some-2.statement) c.in-Some.ensures.line (rw c.in-Some-2.is at c.in_ok-session.ensures.ok) ∙ l.invariant.meant);
    }

pub returns : goal.returns
returns c =
    let l = c.loop-line in
    sym l.invariant.meant ∙ no_more l.taken l.script (left l.lines.passed l.lines.rest.now) c.in_default.ensures.line.0
