use Rattle.std.proofs.Common.{sym, ◌∙◌, arith}
use Rattle.nb_script.proofs.Orders.{goes_on, ends, fails, too_many}
use Rattle.nb_script.proofs.order.sessions.Goals as goal

pub returns-in_default-clause-ok : goal.returns-in_default-clause-ok
returns-in_default-clause-ok c =
    let l = c.loop in
    sym (fails l.sessions.items c.args.most l.counter l.rest.now (omega arith) (sym c.in_default.ensures)) ∙ l.invariant

pub returns-then-is_empty-clause-ok : goal.returns-then-is_empty-clause-ok
returns-then-is_empty-clause-ok c =
    let l = c.loop in
    rw c.in_ok-push.ensures.items (sym (ends l.sessions.items c.args.most l.counter l.rest.now c.in-Some.after.now c.in-Some.session (omega arith) (sym c.in-Some.ensures) (sym c.is_empty.ensures ∙ c.if-is_empty.true)) ∙ l.invariant)

pub loop-preserved : goal.loop-preserved
loop-preserved c =
    let l = c.loop in
    rw c.in_ok-push.ensures.items (goes_on l.sessions.items c.args.most l.counter l.rest.now c.in-Some.after.now c.in-Some.session (omega arith) (sym c.in-Some.ensures) (sym c.is_empty.ensures ∙ c.if-is_empty.false) ∙ l.invariant)

pub returns-clause-ok : goal.returns-clause-ok
returns-clause-ok c =
    let l = c.loop in
    sym (too_many l.sessions.items c.args.most l.counter l.rest.now (omega arith)) ∙ l.invariant
