use Rattle.nb_top.proofs.GoesLaws.{taken_fails, taken_said}
use Rattle.nb_top.proofs.turn.run_turn.Goals as goal

pub returns-in_err-taken-clause-goes : goal.returns-in_err-taken-clause-goes
returns-in_err-taken-clause-goes g c =
    taken_fails g.H.Host.world g.H.Host.tells c.args.host.now c.take_turn.new.host c.args.deed.now c.take_turn.result c.take_turn.ensures.serves
    c.from_residual.result c.from_residual.ensures.0

pub returns-clause-goes : goal.returns-clause-goes
returns-clause-goes g c =
    taken_said g.H.Host.world g.H.Host.tells c.args.host.now c.take_turn.new.host c.args.deed.now c.take_turn.result c.take_turn.ensures.serves
    c.say_taken.new.host (g.met.H.Host.timely c.say_taken.new.host) (g.met.H.Host.reads_left c.say_taken.new.host) c.in_ok-taken.taken c.in_ok-taken.ensures.value c.in_ok-taken.ensures.refusal c.say_taken.result
    c.say_taken.ensures.line c.say_taken.ensures.ended
