use Rattle.std.proofs.Common.{[], ◌∷◌, ◌≡◌, ◌≢◌, ℕ, List, sym, subst, None, Some, Ok, Err}
use Rattle.nb_top.proofs.Common.{Refused}
use Rattle.nb_ship.specs.declared.steps.Step.TheVariants.{Discard}
use Rattle.nb_top.proofs.LongNames.{database_short, ship_apart}
use Rattle.nb_top.proofs.ScriptRuns.{settled_refusal, settled_value}
use Rattle.nb_top.proofs.ShipSteps.{discard_goes, discard_stops, gone_ship, merge_goes, merge_refuses, merge_stops, removes_ship, served_ship, stopped_by}
use Rattle.nb_top.proofs.ship.merge_last.Goals as goal

pub ship_name-ship-requires : goal.ship_name-ship-requires
ship_name-ship-requires g c = database_short c.args.standby.now c.requires

pub merge-requires : goal.merge-requires
merge-requires g c = subst (λ (n : List ℕ). n ≢ c.args.standby.now) (sym c.ship_name-ship.ensures) (ship_apart c.args.standby.now)

pub returns-in_err-reply-clause-takes : goal.returns-in_err-reply-clause-takes
returns-in_err-reply-clause-takes g c primary since tells =
    merge_stops g.H.Host.world g.H.Host.tells primary c.args.standby.now since (Discard ∷ []) None c.merge.result c.from_residual.result c.args.host.now c.merge.new.host c.from_residual.ensures.0
    (served_ship g.H.Host.world g.H.Host.tells c.args.standby.now c.ship_name-ship.result c.ship_name-ship.ensures c.merge.result c.args.host.now c.merge.new.host (c.merge.ensures.serves tells))

pub returns-in_err-discard-in-Ok-clause-takes : goal.returns-in_err-discard-in-Ok-clause-takes
returns-in_err-discard-in-Ok-clause-takes g c primary since tells =
    let name = c.ship_name-ship.result in
    let is = settled_value c.in_ok-reply.field-0 c.in-Ok.reply (λ value. c.merge.result ≡ Ok value) c.in-Ok.is c.in_ok-reply.ensures.value in
    merge_goes g.H.Host.world g.H.Host.tells primary c.args.standby.now since (Discard ∷ []) None c.merge.result c.in-Ok.reply is c.from_residual-in_err-discard-in-Ok.result c.args.host.now c.merge.new.host c.discard.new.host
    (served_ship g.H.Host.world g.H.Host.tells c.args.standby.now name c.ship_name-ship.ensures c.merge.result c.args.host.now c.merge.new.host (c.merge.ensures.serves tells))
    (discard_stops g.H.Host.world g.H.Host.tells primary c.args.standby.now since [] (Some c.in-Ok.reply) c.from_residual-in_err-discard-in-Ok.result c.merge.new.host c.discard.new.host
    (stopped_by c.from_residual-in_err-discard-in-Ok.result _ c.from_residual-in_err-discard-in-Ok.ensures) (removes_ship g.H.Host.world g.H.Host.tells c.args.standby.now name c.ship_name-ship.ensures c.merge.new.host c.discard.new.host (c.discard.ensures.removes tells)))

pub returns-in_ok-discard-in-Ok-clause-takes : goal.returns-in_ok-discard-in-Ok-clause-takes
returns-in_ok-discard-in-Ok-clause-takes g c primary since tells =
    let name = c.ship_name-ship.result in
    let is = settled_value c.in_ok-reply.field-0 c.in-Ok.reply (λ value. c.merge.result ≡ Ok value) c.in-Ok.is c.in_ok-reply.ensures.value in
    merge_goes g.H.Host.world g.H.Host.tells primary c.args.standby.now since (Discard ∷ []) None c.merge.result c.in-Ok.reply is c.say_done.result c.args.host.now c.merge.new.host c.say_done.new.host
    (served_ship g.H.Host.world g.H.Host.tells c.args.standby.now name c.ship_name-ship.ensures c.merge.result c.args.host.now c.merge.new.host (c.merge.ensures.serves tells))
    (discard_goes g.H.Host.world g.H.Host.tells primary c.args.standby.now since [] (Some c.in-Ok.reply) c.say_done.result c.merge.new.host c.discard.new.host c.say_done.new.host
    (removes_ship g.H.Host.world g.H.Host.tells c.args.standby.now name c.ship_name-ship.ensures c.merge.new.host c.discard.new.host (c.discard.ensures.removes tells))
    (gone_ship g.H.Host.world g.H.Host.tells c.args.standby.now name c.ship_name-ship.ensures c.discard.new.host (c.in_ok-discard-in-Ok.ensures.gone tells))
    (record { line = c.say_done.ensures.line tells; ended = c.say_done.ensures.ended }))

pub returns-in-Err-clause-takes : goal.returns-in-Err-clause-takes
returns-in-Err-clause-takes g c primary since tells =
    let is = settled_refusal c.in_ok-reply.field-0 c.in-Err.refusal (λ r. c.merge.result ≡ Err (Refused r)) c.in-Err.is c.in_ok-reply.ensures.refusal in
    merge_refuses g.H.Host.world g.H.Host.tells primary c.args.standby.now since (Discard ∷ []) None c.merge.result c.in-Err.refusal is c.refuse.result c.args.host.now c.merge.new.host c.refuse.new.host
    (served_ship g.H.Host.world g.H.Host.tells c.args.standby.now c.ship_name-ship.result c.ship_name-ship.ensures c.merge.result c.args.host.now c.merge.new.host (c.merge.ensures.serves tells))
    (record { line = c.refuse.ensures.line tells; ended = c.refuse.ensures.ok })
