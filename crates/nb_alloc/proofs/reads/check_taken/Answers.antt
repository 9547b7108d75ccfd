use Rattle.std.proofs.Common.{sym, ◌∙◌, Bool}
use Rattle.nb_alloc.proofs.DoesLaws.{tested_on}
use Rattle.nb_alloc.proofs.TestLaws.{taken_other, taken_free, taken_is}
use Rattle.nb_alloc.proofs.reads.check_taken.Goals as goal

pub returns-in_err-free-clause-test : goal.returns-in_err-free-clause-test
returns-in_err-free-clause-test g c t tells is = tested_on Bool (Unit {0}) _ _ _ _ c.from_residual.ensures (taken_other t.base.image c.args.number) (c.in_err-free.ensures.test t tells is)

pub returns-then-free-clause-test : goal.returns-then-free-clause-test
returns-then-free-clause-test g c t tells is =
    let free = c.in_ok-free.ensures in
    taken_free t.base.image c.args.number (free.test t tells is) (sym (free.value t tells is) ∙ c.if-free.true)

pub returns-clause-test : goal.returns-clause-test
returns-clause-test g c t tells is =
    let free = c.in_ok-free.ensures in
    taken_is t.base.image c.args.number (free.test t tells is) (sym (free.value t tells is) ∙ c.if-free.false)
