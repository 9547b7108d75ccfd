use Rattle.std.proofs.Common.{ℕ, List, ◌++◌, sym, ap, ◌∙◌}
use Rattle.nb_table.proofs.Common.{list_all, Page, Chain, Spot, is_slot, slots_in, spots_on, spots_of, next_in, tested_on, not_linked, chain_of, gathered, spots_more}
use Rattle.nb_table.proofs.walk.read_link.Goals as goal

pub returns-in_err-next-clause-test : goal.returns-in_err-next-clause-test
returns-in_err-next-clause-test g c t tells is =
    tested_on ℕ ℕ _ _ (not_linked _ t.base.image c.args.number) (not_linked (chain_of c.args.sought.now) t.base.image c.args.number) c.from_residual.ensures
    (λ r e. ap (λ (x : Chain). not_linked x t.base.image c.args.number) (sym c.chain.ensures) ∙ e) (c.in_err-next.ensures.test t tells is)

pub add_slots-requires-clause-form : goal.add_slots-requires-clause-form
add_slots-requires-clause-form g c = ap (λ (x : Chain). list_all (is_slot x) (slots_in c.chain_read.new.page)) (sym c.chain.ensures) ∙ c.in_ok-next.ensures.form

pub returns-clause-test : goal.returns-clause-test
returns-clause-test g c t tells is = ap (λ (x : Chain). not_linked x t.base.image c.args.number) (sym c.chain.ensures) ∙ c.in_ok-next.ensures.test t tells is

pub returns-clause-next : goal.returns-clause-next
returns-clause-next g c t tells is = c.in_ok-next.ensures.next ∙ ap next_in (c.in_ok-next.ensures.page t tells is)

pub returns-clause-walked : goal.returns-clause-walked
returns-clause-walked g c t ps tells is was =
    let ss : List Spot = spots_of t.base.image ps in
    c.add_slots.ensures.walked ss was ∙ ap (λ (x : Page). gathered c.args.sought.now (ss ++ spots_on c.args.number 0 (slots_in x))) (c.in_ok-next.ensures.page t tells is)
    ∙ ap (gathered c.args.sought.now) (sym (spots_more t.base.image ps c.args.number))
