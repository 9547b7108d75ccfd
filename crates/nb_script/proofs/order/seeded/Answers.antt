use Rattle.std.proofs.Common.{◌∙◌, arith}
use Rattle.nb_script.proofs.Orders.{next_seeded, all_seeded}
use Rattle.nb_script.proofs.order.seeded.Goals as goal

pub loop-preserved : goal.loop-preserved
loop-preserved c =
    rw (c.in_ok-push.ensures.items, c.session_of.ensures, c.stepped-state.ensures) (next_seeded c.loop.sessions.items c.args.count c.loop.counter c.loop.state (omega arith) ∙ c.loop.invariant)

pub returns-clause-ok : goal.returns-clause-ok
returns-clause-ok c = all_seeded c.loop.sessions.items c.args.count c.loop.counter c.loop.state (omega arith) ∙ c.loop.invariant
