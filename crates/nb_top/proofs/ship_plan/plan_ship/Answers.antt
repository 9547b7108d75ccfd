use Rattle.std.proofs.Common.{Result, Ok, Err, ap, sym, subst, ◌∙◌}
use Rattle.nb_top.proofs.Common.{Fault, Files, passed, settled}
use Rattle.nb_ship.specs.Answers.{Says}
use Rattle.nb_ship.specs.Looks.{look_at}
use Rattle.nb_ship.specs.declared.found.Look.{Look}
use Rattle.nb_state.proofs.MakesLaws.{open_quiet}
use Rattle.nb_top.specs.Shipping.{ship_plan}
use Rattle.nb_top.proofs.ShipPlans.{says_made, says_unasked, says_unlooked, says_unopened}
use Rattle.nb_top.proofs.ship_plan.plan_ship.Goals as goal

pub returns-in_err-engine-clause-plan : goal.returns-in_err-engine-clause-plan
returns-in_err-engine-clause-plan g c tells =
    let files : Files = (g.H.Host.world c.args.host.now).files in
    let fault = c.in_err-engine.field-0.0 in
    passed _ (λ r. Says (ship_plan files c.args.primary.now c.args.standby.now) r) c.from_residual.result fault c.from_residual.ensures
    (says_unopened files c.args.primary.now c.args.standby.now fault (g.H.Host.world c.open_normal.new.host) (c.in_err-engine.ensures.opens tells))

pub returns-in_err-look-clause-plan : goal.returns-in_err-look-clause-plan
returns-in_err-look-clause-plan g c tells =
    let files : Files = (g.H.Host.world c.args.host.now).files in
    let opened = g.H.Host.world c.open_normal.new.host in
    let engine = c.in_ok-engine.ensures in
    let fault = c.in_err-look.field-0.0 in
    let failed : Result Look Fault = Err fault in
    passed _ (λ r. Says (ship_plan files c.args.primary.now c.args.standby.now) r) c.from_residual-in_err-look.result fault c.from_residual-in_err-look.ensures
    (says_unlooked files c.args.primary.now c.args.standby.now opened c.in_ok-engine.engine (engine.opens tells) fault
    (subst (λ (f : Files). Says (look_at f c.args.standby.now) failed) engine.quiet.still.files (c.in_err-look.ensures.answer tells)))

pub returns-in_err-known-clause-plan : goal.returns-in_err-known-clause-plan
returns-in_err-known-clause-plan g c tells =
    let files : Files = (g.H.Host.world c.args.host.now).files in
    let opened = g.H.Host.world c.open_normal.new.host in
    let looked = g.H.Host.world c.look.new.host in
    let engine = c.in_ok-engine.ensures in
    let held = c.in_ok-engine.engine in
    let at = engine.opens tells in
    let fault = c.in_err-known.field-0.0 in
    let is = ap (λ (f : Files). look_at f c.args.standby.now) (sym engine.quiet.still.files) ∙ c.in_ok-look.ensures.answer tells in
    passed _ (λ r. Says (ship_plan files c.args.primary.now c.args.standby.now) r) c.from_residual-in_err-known.result fault c.from_residual-in_err-known.ensures
    (says_unasked files c.args.primary.now c.args.standby.now opened held at c.in_ok-look.look is fault (c.in_err-known.ensures.test (settled at.base) tells (open_quiet opened looked held (settled at.base) c.in_ok-look.ensures.quiet at.opened)))

pub returns-clause-plan : goal.returns-clause-plan
returns-clause-plan g c tells =
    let files : Files = (g.H.Host.world c.args.host.now).files in
    let opened = g.H.Host.world c.open_normal.new.host in
    let looked = g.H.Host.world c.look.new.host in
    let engine = c.in_ok-engine.ensures in
    let held = c.in_ok-engine.engine in
    let at = engine.opens tells in
    let stays = open_quiet opened looked held (settled at.base) c.in_ok-look.ensures.quiet at.opened in
    let is = ap (λ (f : Files). look_at f c.args.standby.now) (sym engine.quiet.still.files) ∙ c.in_ok-look.ensures.answer tells in
    says_made files c.args.primary.now c.args.standby.now opened held at c.in_ok-look.look is c.in_ok-known.known (c.in_ok-known.ensures.test (settled at.base) tells stays) (c.in_ok-known.ensures.known (settled at.base) tells stays)
    _ c.decide.ensures.value c.since.ensures
