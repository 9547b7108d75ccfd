use Rattle.std.proofs.Common.{◌≡◌, ℕ, ◌+◌, ◌-◌, ◌/◌, List, ◌++◌, length, take, sym, ap, ◌∙◌, subst, IsTrue, true, false}
use Rattle.nb_alloc.proofs.Common.{is_page_size, bits_in, entries_in, is_inventory_place, inventory_payload, scn_payload, image_size, system_payload}
use Rattle.nb_alloc.proofs.MakeLaws.{filled_page, payload_of_place, payload_whole}
use Rattle.nb_alloc.proofs.make.fill_system.Goals as goal

pub returns-then-is_place : goal.returns-then-is_place
returns-then-is_place c image same scn =
    let old : List ℕ = c.args.page.now in
    let p : ℕ = c.args.place in
    let place : is_inventory_place (image_size image) p ≡ true = ap (λ (s : ℕ). is_inventory_place s p) (sym same) ∙ sym c.is_place.ensures.value ∙ c.if-is_place.true in
    let payload : inventory_payload (length old) c.index_of-k.result 0 ≡ system_payload image p =
    ap (λ (i : ℕ). inventory_payload (length old) i 0) c.index_of-k.ensures ∙ ap (λ (s : ℕ). inventory_payload s ((p + 1) / bits_in s) 0) same ∙ sym (payload_of_place image p true place) in
    filled_page old (system_payload image p) c.fill.new.page
    (payload_whole image p (subst (λ (s : ℕ). IsTrue (is_page_size s)) same c.requires.size) ∙ ap (λ (s : ℕ). s - 16) (sym same))
    (c.fill.ensures ∙ ap (λ (xs : List ℕ). take 16 old ++ xs) payload)

pub returns-else-is_place : goal.returns-else-is_place
returns-else-is_place c image same scn =
    let old : List ℕ = c.args.page.now in
    let p : ℕ = c.args.place in
    let place : is_inventory_place (image_size image) p ≡ false = ap (λ (s : ℕ). is_inventory_place s p) (sym same) ∙ sym c.is_place.ensures.value ∙ c.if-is_place.false in
    let payload : scn_payload (length old) c.covers-k.result.0 c.args.scn ≡ system_payload image p =
    ap (λ (i : ℕ). scn_payload (length old) i c.args.scn) c.covers-k.ensures.number ∙ ap (λ (s : ℕ). scn_payload s (p / entries_in s) c.args.scn) same
    ∙ ap (λ (n : ℕ). scn_payload (image_size image) (p / entries_in (image_size image)) n) scn ∙ sym (payload_of_place image p false place) in
    filled_page old (system_payload image p) c.fill-else-is_place.new.page
    (payload_whole image p (subst (λ (s : ℕ). IsTrue (is_page_size s)) same c.requires.size) ∙ ap (λ (s : ℕ). s - 16) (sym same))
    (c.fill-else-is_place.ensures.page ∙ ap (λ (xs : List ℕ). take 16 old ++ xs) payload)
