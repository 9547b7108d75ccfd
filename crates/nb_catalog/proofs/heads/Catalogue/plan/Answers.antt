use Rattle.std.proofs.Common.{ℕ, ◌<◌, length, ap, sym, subst, ◌∙◌}
use Rattle.nb_catalog.proofs.Common.{parents_of, entries_of}
use Rattle.nb_catalog.proofs.EntryLaws.{length-entries}
use Rattle.nb_catalog.proofs.KeptLaws.{is_safe}
use Rattle.nb_catalog.proofs.PlaceLaws.{plan_within}
use Rattle.nb_catalog.proofs.WholeLaws.{plan_whole}
use Rattle.nb_catalog.proofs.heads.Catalogue.plan.Goals as goal

pub plan_by-requires : goal.plan_by-requires
plan_by-requires c =
    let few : ℕ → Type 0 = λ n. n < 4294967296 in
    let long = ap length c.deref-4.ensures.value ∙ ap length c.in_ok-entries.ensures ∙ length-entries 0 c.deref-2.result.now ∙ ap length c.deref-2.ensures.value in
    subst few (sym long) c.self.invariant

pub returns-clause-safe : goal.returns-clause-safe
returns-clause-safe c = is_safe c.args.self.now c.args.keep _ (
    c.in_ok-plan.ensures c.args.self.now (c.deref-3.ensures.value ∙ c.in_ok-parents.ensures ∙ ap parents_of (c.deref.ensures.value ∙ c.self.view_is))
    (c.deref-4.ensures.value ∙ c.in_ok-entries.ensures ∙ ap entries_of (c.deref-2.ensures.value ∙ c.self.view_is)))

pub returns-clause-whole : goal.returns-clause-whole
returns-clause-whole c = plan_whole c.args.self.now c.args.keep _ (
    c.in_ok-plan.ensures c.args.self.now (c.deref-3.ensures.value ∙ c.in_ok-parents.ensures ∙ ap parents_of (c.deref.ensures.value ∙ c.self.view_is))
    (c.deref-4.ensures.value ∙ c.in_ok-entries.ensures ∙ ap entries_of (c.deref-2.ensures.value ∙ c.self.view_is)))

pub returns-clause-within : goal.returns-clause-within
returns-clause-within c = plan_within c.args.self.now c.args.keep _ (
    c.in_ok-plan.ensures c.args.self.now (c.deref-3.ensures.value ∙ c.in_ok-parents.ensures ∙ ap parents_of (c.deref.ensures.value ∙ c.self.view_is))
    (c.deref-4.ensures.value ∙ c.in_ok-entries.ensures ∙ ap entries_of (c.deref-2.ensures.value ∙ c.self.view_is)))
