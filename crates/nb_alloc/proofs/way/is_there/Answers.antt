use Rattle.std.proofs.Common.{◌≡◌, ℕ, sym, ap, subst, ◌∙◌, true, false, IsTrue}
use Rattle.nb_alloc.proofs.Common.{is_page_size, is_inventory_place, image_size, system_kind, not_kind, Tested}
use Rattle.nb_alloc.proofs.PassLaws.{kind_map, kind_entries}
use Rattle.nb_alloc.proofs.way.is_there.Goals as goal

pub returns-then-is_place-clause-value : goal.returns-then-is_place-clause-value
returns-then-is_place-clause-value g c t tells is =
    let image = t.base.image in
    let place : ℕ = c.args.place in
    let page_size = c.page_size-page_size.ensures.value ∙ is.files.agrees.page_size in
    let at : is_inventory_place (image_size image) place ≡ true = ap (λ (s : ℕ). is_inventory_place s place) (sym page_size) ∙ sym c.is_place.ensures.value ∙ c.if-is_place.true in
    let size : IsTrue (is_page_size (image_size image)) = subst (λ (s : ℕ). IsTrue (is_page_size s)) page_size c.page_size-page_size.ensures.one_of in
    c.was_there.ensures.value image (system_kind image place) place
    (subst (λ (n : ℕ). Tested c.read-map_read.result (not_kind image n place)) (sym (kind_map image place size at)) (c.read-map_read.ensures.reads t tells is).test)

pub returns-clause-value : goal.returns-clause-value
returns-clause-value g c t tells is =
    let image = t.base.image in
    let place : ℕ = c.args.place in
    let page_size = c.page_size-page_size.ensures.value ∙ is.files.agrees.page_size in
    let other : is_inventory_place (image_size image) place ≡ false = ap (λ (s : ℕ). is_inventory_place s place) (sym page_size) ∙ sym c.is_place.ensures.value ∙ c.if-is_place.false in
    let size : IsTrue (is_page_size (image_size image)) = subst (λ (s : ℕ). IsTrue (is_page_size s)) page_size c.page_size-page_size.ensures.one_of in
    c.was_there-2.ensures.value image (system_kind image place) place
    (subst (λ (n : ℕ). Tested c.read-scn_read.result (not_kind image n place)) (sym (kind_entries image place size other)) (c.read-scn_read.ensures.reads t tells is).test)
