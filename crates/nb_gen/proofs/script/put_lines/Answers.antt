use Rattle.std.proofs.Common.{◌∙◌, arith}
use Rattle.nb_gen.proofs.LineLaws.{next_line, all_lines}
use Rattle.nb_gen.proofs.script.put_lines.Goals as goal

pub loop-before-preserved : goal.loop-before-preserved
loop-before-preserved c =
    let l = c.loop-before in
    rw (c.in_ok-put_one.ensures, c.stepped-x.ensures) (next_line l.out.items l.before l.x (omega arith) ∙ l.invariant)

pub returns : goal.returns
returns c = let l = c.loop-before in all_lines l.out.items l.before l.x (omega arith) ∙ l.invariant
