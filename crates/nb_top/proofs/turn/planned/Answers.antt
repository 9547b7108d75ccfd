use Rattle.std.proofs.Common.{◌∙◌, List, ℕ, ap, ap₂}
use Rattle.nb_top.proofs.Common.{plan_turn, Planned, planning, Serves, passed}
use Rattle.nb_catalog.specs.Chained.{names_at}
use Rattle.nb_top.proofs.Planned.{failed_plan, lacking_plan, plan_serves}
use Rattle.nb_top.proofs.turn.planned.Goals as goal

pub returns-in_err-plan-clause-serves : goal.returns-in_err-plan-clause-serves
returns-in_err-plan-clause-serves g c tells =
    let old = g.H.Host.world c.args.host.now in
    let mid = g.H.Host.world c.plan_files.new.host in
    let fault = c.in_err-plan.field-0.0 in
    passed _ (λ r. Serves r old mid (planning old.files c.args.keep c.args.files.now) (plan_turn old.files c.args.files.now c.args.keep)) c.from_residual.result fault c.from_residual.ensures
    (failed_plan old mid c.args.keep c.args.files.now c.plan_files.ensures.quiet fault (c.in_err-plan.ensures.answer tells))

pub returns-in_err-dropped-clause-serves : goal.returns-in_err-dropped-clause-serves
returns-in_err-dropped-clause-serves g c tells =
    let old = g.H.Host.world c.args.host.now in
    let mid = g.H.Host.world c.plan_files.new.host in
    let fault = c.in_err-dropped.field-0.0 in
    passed _ (λ r. Serves r old mid (planning old.files c.args.keep c.args.files.now) (plan_turn old.files c.args.files.now c.args.keep)) c.from_residual-in_err-dropped.result fault c.from_residual-in_err-dropped.ensures
    (lacking_plan old mid c.args.keep c.args.files.now c.plan_files.ensures.quiet fault c.in_err-dropped.ensures.only_memory)

pub returns-in_err-orphans-clause-serves : goal.returns-in_err-orphans-clause-serves
returns-in_err-orphans-clause-serves g c tells =
    let old = g.H.Host.world c.args.host.now in
    let mid = g.H.Host.world c.plan_files.new.host in
    let fault = c.in_err-orphans.field-0.0 in
    passed _ (λ r. Serves r old mid (planning old.files c.args.keep c.args.files.now) (plan_turn old.files c.args.files.now c.args.keep)) c.from_residual-in_err-orphans.result fault c.from_residual-in_err-orphans.ensures
    (lacking_plan old mid c.args.keep c.args.files.now c.plan_files.ensures.quiet fault c.in_err-orphans.ensures.only_memory)

pub returns-clause-serves : goal.returns-clause-serves
returns-clause-serves g c tells =
    let old = g.H.Host.world c.args.host.now in
    let mid = g.H.Host.world c.plan_files.new.host in
    let plan = c.in_ok-plan.plan in
    let names = c.args.files.now in
    let dropped = c.in_ok-dropped.ensures.exact ∙ ap (names_at names) c.dropped.ensures in
    let orphans = c.in_ok-orphans.ensures.exact ∙ ap (names_at names) c.orphans.ensures in
    plan_serves old mid c.args.keep names c.plan_files.ensures.quiet _
    (plan, c.in_ok-plan.ensures.answer tells, ap₂ (λ (d o : List (List ℕ)). Planned c.kept.result d o) dropped orphans ∙ ap (λ (n : ℕ). Planned n (names_at names plan.dropped) (names_at names plan.orphans)) c.kept.ensures)
