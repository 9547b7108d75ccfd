use Rattle.std.proofs.Common.{List, ap, ap₂, ◌∙◌, filter, count_by, not}
use Rattle.nb_catalog.proofs.Common.{Entry, newest, is_in_lines, places}
use Rattle.nb_catalog.proofs.PlanLaws.{plan_is}
use Rattle.nb_catalog.proofs.points.plan_by.Goals as goal

pub returns : goal.returns
returns c heads parents_are entries_are =
    let ps = c.args.parents.now in
    plan_is heads c.args.keep ps c.args.entries.now c.in_ok-points.points.items c.in_ok-kept.kept.items parents_are entries_are c.in_ok-points.ensures
    (c.in_ok-kept.ensures ∙ ap (newest c.args.keep) c.deref.ensures.value) c.count_in_lines-kept.result c.in_ok-dropped.dropped.items c.in_ok-orphans.orphans.items
    (c.count_in_lines-kept.ensures ∙ ap (λ (last : List Entry). count_by (is_in_lines ps last) c.args.entries.now) c.deref-4.ensures.value)
    (c.in_ok-dropped.ensures ∙ ap₂ (λ (last lined : List Entry). places (filter (λ e. not (is_in_lines ps last e)) lined)) c.deref-2.ensures.value c.deref-3.ensures.value) c.in_ok-orphans.ensures
