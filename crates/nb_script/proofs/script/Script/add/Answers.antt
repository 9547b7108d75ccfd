use Rattle.std.proofs.Common.{ap, ◌∙◌, arith, List, ◌-◌, ◌<◌, length, Result, Ok, Err, OnErr}
use Rattle.nb_script.proofs.Common.{Vec, Statement, Plan, with_statement}
use Rattle.std.proofs.Math.Seq.{map-set_same}
use Rattle.nb_script.proofs.Sessions.{one_more}
use Rattle.nb_script.proofs.script.Script.add.Goals as goal

pub returns-clause-ok : goal.returns-clause-ok
returns-clause-ok c =
    let s = c.self.inside in
    let plan : Plan = c.args.self.now in
    let i = c.args.session - 1 in
    let inside : i < length s.sessions = omega (arith, c.self.invariant.2, c.requires.low, c.requires.high) in
    ap (λ (sessions : List (List Statement)). record { first_session = s.first_session; first = s.first; schedule = s.schedule.items; sessions = sessions })
    (one_more s.sessions i c.index-self-session.result c.push.new.self c.args.statement inside c.in_ok-push.ensures.items)
    ∙ ap (λ (p : Plan). with_statement p (c.args.session, c.args.statement)) c.self.view_is

-- what holds holds at an error
at_error : {T E : Type 0} (r : Result T E) (P : Type 0) → P → OnErr r P
at_error (Ok value) P holds = tt
at_error (Err error) P holds = holds

pub returns-in_err-push-clause-same : goal.returns-in_err-push-clause-same
returns-in_err-push-clause-same c =
    let s = c.self.inside in
    let i = c.args.session - 1 in
    at_error c.from_residual.result _
    (ap (λ (sessions : List (List Statement)). record { first_session = s.first_session; first = s.first; schedule = s.schedule.items; sessions = sessions })
    (map-set_same (λ (v : Vec Statement). v.items) s.sessions i c.push.new.self c.index-self-session.result c.in_err-push.ensures.items)
    ∙ c.self.view_is)
