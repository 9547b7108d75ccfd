use Rattle.std.proofs.Common.{ap, get_or, set}
use Rattle.nb_sched.proofs.Common.{kind}
use Rattle.nb_sched.proofs.AgentLaws.{agent_read, get_or_any, ready_then}
use Rattle.nb_sched.proofs.TurnLaws.{turns_one}
use Rattle.nb_sched.proofs.turns.take_turn.Goals as goal

pub turn-requires-clause-fits : goal.turn-requires-clause-fits
turn-requires-clause-fits g c =
    c.requires.fit c.args.session _ (agent_read c.args.agents.now c.args.session c.in-Some.place _ c.in-Some.ensures c.if-place-agents.false)

pub returns : goal.returns
returns g c =
    let a = g.A.Agent in
    let of = kind a.left a.session a.fits a.step in
    let agents = c.args.agents.now in
    let place = c.in-Some.place in
    let there = agent_read agents c.args.session place c.index-agents-place-2.result c.in-Some.ensures c.if-place-agents.false in
    let same = get_or_any agents place c.index-agents-place.result c.index-agents-place-2.result c.if-place-agents.false in
    turns_one of c.args.session _ _ c.turn.result (record {
      agent = get_or agents place c.index-agents-place-2.result;
      moved = c.turn.new.self;
      there = there;
      unfinished = λ done. absurd (cc (c.finished.ensures.1 (rw same done), c.if-finished.false));
      made = c.turn.ensures.step;
      agents = ap (λ i. set agents i c.turn.new.self) c.in-Some.ensures.1;
      ready = c.requires;
      still_ready = rw c.in-Some.ensures.1 (ready_then of g.met.A.Agent.keeps_others agents c.args.session _ _ _ _ _ _ c.turn.result c.requires there
          c.turn.ensures.step c.turn.ensures.fits c.turn.ensures.session);
      falls = c.turn.ensures.falls;
      same_session = c.turn.ensures.session;
    })
