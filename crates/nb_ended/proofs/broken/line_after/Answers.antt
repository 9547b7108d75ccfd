use Rattle.std.proofs.Common.{◌≡◌, ℕ, ◌+◌, ◌-◌, suc, take, ap, sym, ◌∙◌, arith}
use Rattle.nb_ended.specs.Shown.{line_after}
use Rattle.nb_ended.proofs.ShownLaws.{next_line, this_line}
use Rattle.nb_ended.proofs.broken.line_after.Goals as goal

pub loop-passed-preserved : goal.loop-passed-preserved
loop-passed-preserved c =
    let l = c.loop-passed in
    let left : ℕ = c.args.count - (l._passed + 1) in
    let one : suc left ≡ c.args.count - l._passed = omega arith in
    ap (line_after left) c.after_line-rest.ensures ∙ sym (next_line left l.rest.now) ∙ ap (λ n. line_after n l.rest.now) one ∙ l.invariant

pub returns : goal.returns
returns c =
    let l = c.loop-passed in
    let none : 0 ≡ c.args.count - l._passed = omega arith in
    ap (λ n. take n l.rest.now) c.line_len.ensures.count ∙ sym (this_line l.rest.now) ∙ ap (λ n. line_after n l.rest.now) none ∙ l.invariant
