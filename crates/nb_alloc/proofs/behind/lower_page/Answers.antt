use Rattle.std.proofs.Common.{◌≡◌, ℕ, [], ◌∷◌, ◌++◌, sym, ap, subst, ◌∙◌, Option, Some}
use Rattle.nb_alloc.proofs.Common.{NotDatabase, lowest_broken, page_in}
use Rattle.nb_alloc.proofs.BehindLaws.{lower_cause, page_alone}
use Rattle.nb_alloc.proofs.behind.lower_page.Goals as goal

pub returns-in-Some : goal.returns-in-Some
returns-in-Some c =
    subst (λ (o : Option ℕ). lowest_broken (page_in o ++ c.args.page ∷ []) ≡ Some (NotDatabase c.min.result)) (sym c.in-Some.is)
    (lower_cause c.args.page c.in-Some.other ∙ ap (λ (n : ℕ). Some (NotDatabase n)) (sym c.min.ensures))

pub returns-in-None : goal.returns-in-None
returns-in-None c = subst (λ (o : Option ℕ). lowest_broken (page_in o ++ c.args.page ∷ []) ≡ Some (NotDatabase c.args.page)) (sym c.in-None.is) (page_alone c.args.page)
