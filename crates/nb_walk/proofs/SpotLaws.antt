-- Slots are come by one after the other, with their places. What was gathered of them, P says of the slots so far.
use Rattle.std.proofs.Common.{◌≡◌, ℕ, ◌+◌, ◌-◌, ◌*◌, ◌/◌, ◌<◌, ◌≤◌, List, [], ◌∷◌, ◌++◌, length, refl, sym, ap, subst, ◌∙◌, arith, append_assoc}
use Rattle.nb_walk.proofs.Common.{part, Page, Image, page_at, Chain, Slot, Spot, slots_from, slots_in, spots_on, spots_of, spots, found_pages}
use Rattle.std.proofs.lemmas.List.{append-nil}
use Rattle.nb_walk.proofs.SlotLaws.{slots_step}
use Rattle.nb_model.proofs.GrowthTurns.{spots_both}

-- What was gathered on a page, up to one slot.
pub record Comes (P : List Spot → Type 0) (ss : List Spot) (page : Page) (number count slot : ℕ) : Type 0 where
  pub front : List Spot
  pub are : ss ++ spots_on number 0 (slots_in page) ≡ front ++ spots_on number slot (slots_from (count - slot) (32 + 256 * slot) page)
  pub is : P front

pub comes_first : (P : List Spot → Type 0) (ss : List Spot) (page : Page) (number count : ℕ) → count ≡ (length page - 32) / 256 → P ss → Comes P ss page number count 0
unfolding slots_in
comes_first P ss page number count many is =
    let all : (length page - 32) / 256 ≡ count - 0 = omega (arith, many) in
    record { front = ss; are = ap (λ (n : ℕ). ss ++ spots_on number 0 (slots_from n 32 page)) all; is = is }

pub comes_next : (P Q : List Spot → Type 0) (ss : List Spot) (page : Page) (number count slot : ℕ) → slot < count → Comes P ss page number count slot
    → ((front : List Spot) → P front → Q (front ++ record { page = number; slot = slot; bytes = part (32 + 256 * slot) 256 page } ∷ [])) → Comes Q ss page number count (slot + 1)
unfolding spots_on
comes_next P Q ss page number count slot low comes one =
    let s : Spot = record { page = number; slot = slot; bytes = part (32 + 256 * slot) 256 page } in
    record {
      front = comes.front ++ s ∷ [];
      are = comes.are ∙ ap (λ (xs : List Slot). comes.front ++ spots_on number slot xs) (slots_step page count slot low) ∙ sym (append_assoc comes.front (s ∷ []) _);
      is = one comes.front comes.is;
    }

pub comes_last : (P : List Spot → Type 0) (ss : List Spot) (page : Page) (number count slot : ℕ) → count ≤ slot → Comes P ss page number count slot → P (ss ++ spots_on number 0 (slots_in page))
unfolding slots_from spots_on
comes_last P ss page number count slot far comes =
    let none : count - slot ≡ 0 = omega (arith, far) in
    subst P (sym (comes.are ∙ ap (λ (n : ℕ). comes.front ++ spots_on number slot (slots_from n (32 + 256 * slot) page)) none ∙ append-nil comes.front)) comes.is

-- the slots of one page more
pub spots_more : (image : Image) (ps : List ℕ) (p : ℕ) → spots_of image (ps ++ p ∷ []) ≡ spots_of image ps ++ spots_on p 0 (slots_in (page_at image p))
unfolding spots_of
spots_more image ps p = spots_both image ps (p ∷ []) ∙ ap (λ (xs : List Spot). spots_of image ps ++ xs) (append-nil (spots_on p 0 (slots_in (page_at image p))))

-- and of all
pub spots_found : (chain : Chain) (image : Image) → spots_of image (found_pages chain image) ≡ spots chain image
unfolding spots
spots_found chain image = refl
