use Rattle.std.proofs.Common.{◌≡◌, List, ◌∷◌, sym, subst, Some}
use Rattle.nb_fold.proofs.Common.{Page, Held, AreOfPages, IsLeast, waiting_page}
use Rattle.nb_fold.proofs.NextLaws.{first_alone, first_lower}
use Rattle.nb_fold.proofs.merging.+next_page.Goals as goal

pub returns-in-None-clause-some : goal.returns-in-None-clause-some
returns-in-None-clause-some t c =
    let first = c.in_ok-first.first.now in
    let n = c.in-Some.number in
    subst (λ (ss : List Held). IsLeast n ss × (waiting_page n ss ≡ Some c.page.result.now)) (sym c.in_ok-first.ensures.cases.0)
    (subst (λ (p : Page). IsLeast n (first ∷ c.in_ok-first.rest.now) × (waiting_page n (first ∷ c.in_ok-first.rest.now) ≡ Some p)) (sym c.page.ensures.value)
    (first_alone n first c.in_ok-first.rest.now (sym c.in-Some.ensures.value) (c.next_page-next.ensures.none c.in-None.is)))

pub returns-then-number-least-clause-some : goal.returns-then-number-least-clause-some
returns-then-number-least-clause-some t c =
    let first = c.in_ok-first.first.now in
    let n = c.in-Some.number in
    subst (λ (ss : List Held). IsLeast n ss × (waiting_page n ss ≡ Some c.page-then-number-least.result.now)) (sym c.in_ok-first.ensures.cases.0)
    (subst (λ (p : Page). IsLeast n (first ∷ c.in_ok-first.rest.now) × (waiting_page n (first ∷ c.in_ok-first.rest.now) ≡ Some p)) (sym c.page-then-number-least.ensures.value)
    (first_lower n c.in-Some-next.next.0 first c.in_ok-first.rest.now (sym c.in-Some.ensures.value) c.if-number-least.true c.in-Some-next.ensures.some.0))

pub returns-clause-size : goal.returns-clause-size
returns-clause-size t c size all = c.in-Some-next.ensures.size size (subst (AreOfPages size) c.in_ok-first.ensures.cases.0 all).1
