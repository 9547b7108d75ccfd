use Rattle.std.proofs.Common.{◌∙◌, Ok, Err}
use Rattle.nb_top.proofs.Common.{passed}
use Rattle.nb_model.specs.Causes.{Tested}
use Rattle.nb_top.specs.Shipping.{not_asked}
use Rattle.nb_top.proofs.ShipPlans.{asked_fails, asked_known, asked_test}
use Rattle.nb_top.proofs.ship_plan.is_known.Goals as goal

pub returns-in_err-row-in-Next-clause-test : goal.returns-in_err-row-in-Next-clause-test
returns-in_err-row-in-Next-clause-test g c t tells opened =
    let image = t.base.image in
    let fault = c.in_err-row-in-Next.field-0.0 in
    passed _ (λ r. Tested r (not_asked image c.args.found.now)) c.from_residual.result fault c.from_residual.ensures (asked_fails image c.args.found.now c.in-Next.guid c.in-Next.is fault (c.in_err-row-in-Next.ensures.test t tells opened))

pub returns-in_ok-row-in-Next-clause-test : goal.returns-in_ok-row-in-Next-clause-test
returns-in_ok-row-in-Next-clause-test g c t tells opened = asked_test t.base.image c.args.found.now c.in-Next.guid c.in-Next.is (c.in_ok-row-in-Next.ensures.test t tells opened)

pub returns-in_ok-row-in-Next-clause-known : goal.returns-in_ok-row-in-Next-clause-known
returns-in_ok-row-in-Next-clause-known g c t tells opened = c.is_some.ensures ∙ asked_known t.base.image c.args.found.now c.in-Next.guid c.in-Next.is c.in_ok-row-in-Next.row (c.in_ok-row-in-Next.ensures.row t tells opened)
