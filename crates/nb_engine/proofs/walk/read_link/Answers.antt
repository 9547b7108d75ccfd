use Rattle.std.proofs.Common.{ℕ, List, ◌++◌, sym, ap, ◌∙◌}
use Rattle.nb_engine.proofs.Common.{Page, History, Spot, slots_in, spots_on, spots_of, next_in, tested_on, not_linked, spots_more, gathered}
use Rattle.nb_engine.proofs.walk.read_link.Goals as goal

pub returns-in_err-next-clause-test : goal.returns-in_err-next-clause-test
returns-in_err-next-clause-test g c t tells is =
    let cause = not_linked History t.base.image c.args.number in
    tested_on ℕ ℕ _ _ cause cause c.from_residual.ensures (λ r e. e) (c.in_err-next.ensures.test t tells is)

pub add_slots-requires-clause-form : goal.add_slots-requires-clause-form
add_slots-requires-clause-form g c = c.in_ok-next.ensures.form

pub returns-clause-test : goal.returns-clause-test
returns-clause-test g c t tells is = c.in_ok-next.ensures.test t tells is

pub returns-clause-next : goal.returns-clause-next
returns-clause-next g c t tells is = c.in_ok-next.ensures.next ∙ ap next_in (c.in_ok-next.ensures.page t tells is)

pub returns-clause-walked : goal.returns-clause-walked
returns-clause-walked g c t ps tells is was =
    let ss : List Spot = spots_of t.base.image ps in
    c.add_slots.ensures.walked ss was ∙ ap (λ (x : Page). gathered c.args.wanted.now (ss ++ spots_on c.args.number 0 (slots_in x))) (c.in_ok-next.ensures.page t tells is)
    ∙ ap (gathered c.args.wanted.now) (sym (spots_more t.base.image ps c.args.number))
