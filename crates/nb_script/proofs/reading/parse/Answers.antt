use Rattle.std.proofs.Common.{sym, ap₂, ◌∙◌, arith}
use Rattle.nb_script.proofs.Common.{left, IsAnswer, script_of}
use Rattle.nb_script.proofs.AskedLaws.{answer_is_spelled, answer_is_askable}
use Rattle.nb_script.proofs.Scripts.{script_meant}
use Rattle.nb_script.proofs.reading.parse.Goals as goal

pub returns : goal.returns
returns c =
    let after = c.next.new.self in
    let order = c.in_ok-schedule in
    let meant = script_meant c.args.bytes.now (after.passed, c.in-Some.line.now) (left after.passed after.rest.now)
    (c.in-Some-first_statement.session, c.in-Some-first_statement.first) (order.schedule.items, left order.lines.passed order.lines.rest.now)
    (omega arith) (sym (ap₂ left c.new-lines.ensures.none_passed c.new-lines.ensures.bytes) ∙ c.in-Some.ensures.line) c.in-Some-first_statement.ensures.exact order.ensures.ok in
    let exact : IsAnswer c.add_lines.result (script_of c.args.bytes.now) = rw meant (rw c.new.ensures at c.add_lines.ensures) in
    record { exact = exact; spelled = answer_is_spelled c.args.bytes.now c.add_lines.result exact; askable = answer_is_askable c.args.bytes.now c.add_lines.result exact }
