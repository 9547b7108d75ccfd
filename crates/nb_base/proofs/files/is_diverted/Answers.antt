use Rattle.std.proofs.Common.{sym, subst, ◌∙◌, rules}
use Rattle.nb_base.proofs.Common.{true_from_ne_false, same_true, same_false, OnWrite, the_type, diverted_stalled, plain_not_stalled}
use Rattle.nb_cases.specs.declared.events.Case.TheVariants as case
use Rattle.nb_base.proofs.files.is_diverted.Goals as goal

pub returns : goal.returns
returns c =
    let state = c.args.state in
    let found = c.case_of.result in (
      λ is. diverted_stalled state c.requires (subst (OnWrite state) (same_true the_type (search rules) found case.Delta (sym c.eq.ensures ∙ is)) c.case_of.ensures),
      λ stalled. true_from_ne_false _ (λ no. plain_not_stalled state found c.case_of.ensures (same_false the_type found case.Delta (sym c.eq.ensures ∙ no)) stalled),
    )
