use Rattle.std.proofs.Common.{ℕ, [], refl, ap, ◌∙◌, Err, None, false}
use Rattle.nb_session.proofs.Common.{Memory, Activate, Activated, Held, Taken, some_said}
use Rattle.nb_session.proofs.ActLaws.{nothing_acts}
use Rattle.nb_session.proofs.ActivateLaws.{normal_acts, normal_behind}
use Rattle.nb_session.proofs.EventLaws.{marks_none}
use Rattle.nb_session.proofs.ShortLaws.{ran_same}
use Rattle.nb_session.proofs.TouchingLaws.{begins_touch}
use Rattle.nb_session.proofs.TurnLaws.{turns_failed, turns_unsaid, turns_said}
use Rattle.nb_session.proofs.merges.say_activated.Goals as goal

pub returns-in_err-line-clause-turn : goal.returns-in_err-line-clause-turn
returns-in_err-line-clause-turn g c now t more tells ready makes here =
    let old = g.H.Host.world c.args.host.now in
    let held = c.args.engine.now in
    turns_failed c.args.told some_said (Err Memory) (λ (x : Taken). x.refused) (λ (x : Taken). x.task) old old old held held t now c.args.session _ [] more [] (begins_touch c.args.session Activate now (λ asks. asks)) makes here
    (nothing_acts some_said old held t now c.args.session _ (g.met.H.Host.timely c.args.host.now) ready) (λ acts. marks_none old old held) c.from_residual.result c.from_residual.ensures.0 (λ acts ran. acts.short)

pub returns-in_err-tell-clause-turn : goal.returns-in_err-tell-clause-turn
returns-in_err-tell-clause-turn g c now t more tells ready makes here =
    let old = g.H.Host.world c.args.host.now in
    let held = c.args.engine.now in
    let reply = Activated c.count.result c.scn.result in
    let is = ap (λ (n : ℕ). Activated n c.scn.result) c.count.ensures.value ∙ ap (Activated held.files.count) (c.scn.ensures ∙ ap (λ (h : Held). h.scn) c.store.ensures) in
    turns_unsaid c.args.told some_said _ (λ (x : Taken). x.refused) (λ (x : Taken). x.task) old old (g.H.Host.world c.tell.new.host) held held t now c.args.session _ [] more [] (begins_touch c.args.session Activate now (λ asks. asks)) makes here
    (normal_acts old held t now c.args.session ready (g.met.H.Host.timely c.args.host.now) c.requires.normal reply is) (λ acts. marks_none old old held)
    tt reply (λ said s. s) c.tell.result (c.tell.ensures.line tells) ready
    c.from_residual-in_err-tell.result c.from_residual-in_err-tell.ensures.0
    (λ brief ran. c.in_err-tell.ensures.brief brief (ran_same (Unit {0}) c.from_residual-in_err-tell.result _ c.from_residual-in_err-tell.ensures.1 ran))

pub returns-clause-turn : goal.returns-clause-turn
returns-clause-turn g c now t more tells ready makes here =
    let old = g.H.Host.world c.args.host.now in
    let new = g.H.Host.world c.tell.new.host in
    let held = c.args.engine.now in
    let reply = Activated c.count.result c.scn.result in
    let is = ap (λ (n : ℕ). Activated n c.scn.result) c.count.ensures.value ∙ ap (Activated held.files.count) (c.scn.ensures ∙ ap (λ (h : Held). h.scn) c.store.ensures) in
    turns_said c.args.told some_said _ (λ (x : Taken). x.refused) (λ (x : Taken). x.task) old old new held held t now c.args.session _ [] more [] (begins_touch c.args.session Activate now (λ asks. asks)) makes here
    (normal_acts old held t now c.args.session ready (g.met.H.Host.timely c.args.host.now) c.requires.normal reply is) (λ acts. marks_none old old held)
    tt reply (λ said s. s) c.tell.result (c.tell.ensures.line tells) ready
    (record { task = None; refused = false }) (c.in_ok-tell.ensures.line tells).said (λ is. refl) (λ told. normal_behind old held t now c.args.session ready (g.met.H.Host.timely c.args.host.now) c.requires.normal new held)
