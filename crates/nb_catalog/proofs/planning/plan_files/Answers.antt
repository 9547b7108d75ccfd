use Rattle.std.proofs.Common.{ℕ, List}
use Rattle.nb_catalog.proofs.Common.{Files, Says, planned, passed}
use Rattle.nb_catalog.proofs.KeptFiles.{keeps_files}
use Rattle.nb_catalog.proofs.TurnLaws.{planned_is, planned_fault}
use Rattle.nb_catalog.proofs.planning.plan_files.Goals as goal

pub returns-in_err-catalogue-clause-answer : goal.returns-in_err-catalogue-clause-answer
returns-in_err-catalogue-clause-answer g c tells =
    let files : Files = (g.H.Host.world c.args.host.now).files in
    let names : List (List ℕ) = c.args.files.now in
    let fault = c.in_err-catalogue.field-0.0 in
    passed _ (λ r. Says (planned files names c.args.keep) r) c.from_residual.result fault c.from_residual.ensures (planned_fault files names c.args.keep fault (c.in_err-catalogue.ensures.answer tells))

pub returns-clause-answer : goal.returns-clause-answer
returns-clause-answer g c tells =
    planned_is (g.H.Host.world c.args.host.now).files c.args.files.now c.args.keep c.in_ok-catalogue.catalogue c.in_ok-plan.plan (c.in_ok-catalogue.ensures.answer tells) c.in_ok-plan.ensures.exact

pub returns-clause-chains : goal.returns-clause-chains
returns-clause-chains g c tells =
    let safe = c.in_ok-plan.ensures.safe in
    record {
      heads = c.in_ok-catalogue.catalogue;
      read = c.in_ok-catalogue.ensures.answer tells;
      chained = λ e kept. c.in_ok-catalogue.ensures.chained tells e (safe.points e kept);
      safe = safe;
      by_name = keeps_files (g.H.Host.world c.args.host.now).files c.args.files.now c.in_ok-catalogue.catalogue c.args.keep c.in_ok-plan.plan (c.in_ok-catalogue.ensures.answer tells) c.in_ok-plan.ensures.exact;
    }
