-- What an inventory page says of the pages that have their bits in it.
use Rattle.std.proofs.Common.{◌≡◌, ◌↔◌, ℕ, ◌+◌, ◌*◌, ◌/◌, ◌%◌, ◌<◌, length, get_or, refl, sym, ap, subst, ◌∙◌, arith, Bool, true, false, not, ◌==◌, IsTrue}
use Rattle.nb_shown.proofs.Common.{bits_in, inventory_place, Page, Image, page_at, image_size, is_free_page}
use Rattle.std.proofs.lemmas.Nat.{div-mul-add, mod-mul-add}
use Rattle.std.proofs.lemmas.Nat.Bits.{bit_at-lt}
use Rattle.nb_fields.specs.Payloads.{bit_of}
use Rattle.nb_pip.specs.Bits.{bits}
use Rattle.nb_pip.proofs.BitLaws.{get_or-bits}
use Rattle.nb_model.proofs.ReadLaws.{eq_no, eq_yes}
use Rattle.nb_host.proofs.PlainLaws.{never}

module _ (image : Image) (size k bit : ℕ) (map : Page) (same : size ≡ image_size image) (page : map ≡ page_at image (inventory_place size k)) (long : length map ≡ size) (inside : bit < bits_in size) where
  abbrev p : ℕ
  p = k * bits_in size + bit

  read_is : get_or (bits map) bit 0 ≡ bit_of map bit
  read_is = get_or-bits map bit 0 (subst (λ (s : ℕ). bit < bits_in s) (sym long) inside)

  free_there : is_free_page image p ≡ (get_or (bits map) bit 0 == 1)
  unfolding is_free_page
  free_there =
      ap (λ (s : ℕ). bit_of (page_at image (inventory_place s (p / bits_in s))) (p % bits_in s) == 1) (sym same)
      ∙ ap (λ (n : ℕ). bit_of (page_at image (inventory_place size n)) (p % bits_in size) == 1) (div-mul-add k (bits_in size) bit inside)
      ∙ ap (λ (n : ℕ). bit_of (page_at image (inventory_place size k)) n == 1) (mod-mul-add k (bits_in size) bit inside)
      ∙ ap (λ (m : Page). bit_of m bit == 1) (sym page)
      ∙ ap (λ (n : ℕ). n == 1) (sym read_is)

  -- whether its page is used
  pub used_is : (used : Bool) → (IsTrue used ↔ (get_or (bits map) bit 0 ≡ 0)) → used ≡ not (is_free_page image p)
  used_is true is = sym (ap not (free_there ∙ eq_no (get_or (bits map) bit 0) 1 (λ e. absurd (omega (arith, e, is.0 refl)))))
  used_is false is =
      let small : bit_of map bit < 2 = bit_at-lt _ _ in
      let other : get_or (bits map) bit 0 ≡ 0 → ⊥ = λ e. never (is.1 e) in
      sym (ap not (free_there ∙ eq_yes (get_or (bits map) bit 0) 1 (omega (arith, small, read_is, other))))
