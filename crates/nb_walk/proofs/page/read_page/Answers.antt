use Rattle.std.proofs.Common.{ℕ, sym, ap, ◌∙◌}
use Rattle.nb_walk.proofs.Common.{list_all, Page, is_slot, slots_in, not_data, chain_by, not_linked}
use Rattle.nb_alloc.proofs.DoesLaws.{tested_on}
use Rattle.nb_walk.proofs.LinkLaws.{data_not, slots_not, linked_yes}
use Rattle.nb_walk.proofs.page.read_page.Goals as goal

pub returns-in_err-read_data-clause-test : goal.returns-in_err-read_data-clause-test
returns-in_err-read_data-clause-test g c t tells is =
    let chain = chain_by c.args.chain in
    let image = t.base.image in
    let n : ℕ = c.args.number in
    tested_on (Unit {0}) ℕ _ _ (not_data image c.owner.result n) (not_linked chain image n) c.from_residual.ensures
    (λ r e. data_not chain image n r (ap (λ (o : ℕ). not_data image o n) (sym c.owner.ensures) ∙ e)) (c.in_err-read_data.ensures.reads t tells is).test

pub returns-then-not-are_slots-clause-test : goal.returns-then-not-are_slots-clause-test
returns-then-not-are_slots-clause-test g c t tells is =
    let chain = chain_by c.args.chain in
    let read = c.in_ok-read_data.ensures.reads t tells is in
    slots_not chain t.base.image c.args.number (sym (c.are_slots.ensures ∙ ap (λ (x : Page). list_all (is_slot chain) (slots_in x)) read.page) ∙ c.if-not-are_slots.true)

pub returns-clause-test : goal.returns-clause-test
returns-clause-test g c t tells is =
    let chain = chain_by c.args.chain in
    let image = t.base.image in
    let n : ℕ = c.args.number in
    let read = c.in_ok-read_data.ensures.reads t tells is in
    linked_yes chain image n (ap (λ (o : ℕ). not_data image o n) (sym c.owner.ensures) ∙ read.test)
    (sym (c.are_slots.ensures ∙ ap (λ (x : Page). list_all (is_slot chain) (slots_in x)) read.page) ∙ c.if-not-are_slots.false)
