use Rattle.std.proofs.Common.{ap, ◌∙◌, Ok, Err}
use Rattle.nb_top.proofs.Common.{Held, passed}
use Rattle.nb_top.specs.Shipping.{OpensNormal}
use Rattle.nb_top.proofs.ShipPlans.{opened_normal, opened_other, unopened}
use Rattle.nb_top.proofs.ship_plan.open_normal.Goals as goal

pub returns-in_err-engine-clause-opens : goal.returns-in_err-engine-clause-opens
returns-in_err-engine-clause-opens g c tells =
    let old = g.H.Host.world c.args.host.now in
    let new = g.H.Host.world c.attach.new.host in
    let fault = c.in_err-engine.field-0.0 in
    passed _ (λ r. OpensNormal r old.files c.args.primary.now new) c.from_residual.result fault c.from_residual.ensures (unopened old new c.args.primary.now fault (c.in_err-engine.ensures.attaches tells))

pub returns-then-state-ne-NORMAL-clause-opens : goal.returns-then-state-ne-NORMAL-clause-opens
returns-then-state-ne-NORMAL-clause-opens g c tells =
    let old = g.H.Host.world c.args.host.now in
    let new = g.H.Host.world c.attach.new.host in
    let held = c.in_ok-engine.engine in
    let is = c.state-state.ensures.value ∙ ap (λ (h : Held). h.files.state) c.store.ensures in
    opened_other old new c.args.primary.now held (c.in_ok-engine.ensures.attaches tells) c.from-found.result (c.from-found.ensures ∙ is) (λ normal. c.if-state-ne-NORMAL.true (is ∙ normal))
