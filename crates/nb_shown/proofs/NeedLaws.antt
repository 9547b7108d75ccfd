-- The inventory pages that are needed, one after the other.
use Rattle.std.proofs.Common.{◌≡◌, inl, inr, ℕ, zero, suc, ◌+◌, ◌-◌, ◌*◌, ◌/◌, ◌<◌, ◌≤◌, List, [], ◌∷◌, length, refl, sym, ap, subst, ◌∙◌, arith, Bool, true, false, not, IsTrue, Some, None, min}
use Rattle.nb_shown.proofs.Common.{le-div_iff_mul-le, is_page_size, bits_in, inventory_place, bits-least, inventory_kind, Refusal, Image, image_size, Draft, drafted, is_kind, needs, needs_inventories, all_needed, lowest_broken, not_kind, not_of_form, when}
use Rattle.std.proofs.lemmas.Bool.Decides.{leb_tells}
use Rattle.nb_host.specs.declared.refusals.Refusal.TheVariants.{NotDatabase}

-- inventory pages stand in rising order
place_rises : (size k : ℕ) → IsTrue (is_page_size size) → inventory_place size k ≤ inventory_place size (k + 1)
place_rises size zero is = let least : 7936 ≤ bits_in size = bits-least size is in omega (arith, least)
place_rises size (suc k) is =
    let next : inventory_place size (suc k + 1) ≡ suc (suc k) * bits_in size - 1 = ap (inventory_place size) (more k) in
    omega (arith, next)
  where
    more : (n : ℕ) → suc n + 1 ≡ suc (suc n)
    more n = omega arith

-- page p was found broken first, and all that were found since stand after it
record IsFound (image : Image) (k p : ℕ) (d : Draft) : Type 0 where
  pub same : d.image ≡ image
  pub last : ℕ
  pub others : List ℕ
  pub broken : d.broken ≡ last ∷ others
  pub low : last ≤ inventory_place (image_size image) k
  pub first : lowest_broken (last ∷ others) ≡ Some (NotDatabase p)

-- a later page doesn't change which it is
lowest_behind : (q last p : ℕ) (others : List ℕ) → last ≤ q → lowest_broken (last ∷ others) ≡ Some (NotDatabase p) → lowest_broken (q ∷ last ∷ others) ≡ Some (NotDatabase p)
unfolding lowest_broken
lowest_behind q last p others low first =
    let lower : min q last ≡ last = omega (arith, low) in
    ap (λ (m : ℕ). lowest_broken (m ∷ others)) lower ∙ first

module _ (image : Image) (size_is : IsTrue (is_page_size (image_size image))) where
  abbrev place : ℕ → ℕ
  place k = inventory_place (image_size image) k

  place_in : (d : Draft) (k : ℕ) → d.image ≡ image → inventory_place (image_size d.image) k ≡ place k
  place_in d k same = ap (λ (i : Image). inventory_place (image_size i) k) same

  -- one page more
  found_on : (k p : ℕ) (d : Draft) → IsFound image k p d → IsFound image (k + 1) p (needs 2 (inventory_place (image_size d.image) k) d)
  unfolding needs
  found_on k p d is = by (is_kind d.image inventory_kind (inventory_place (image_size d.image) k))
    where
      rises : place k ≤ place (k + 1)
      rises = place_rises (image_size image) k size_is

      by : (t : Bool) → IsFound image (k + 1) p (elim t as (λ z. Draft) [ true ↦ d | false ↦ record d { broken = inventory_place (image_size d.image) k ∷ d.broken } ])
      by true = record { same = is.same; last = is.last; others = is.others; broken = is.broken; low = omega (arith, is.low, rises); first = is.first }
      by false = record {
        same = is.same;
        last = place k;
        others = is.last ∷ is.others;
        broken = ap (λ (q : ℕ). q ∷ d.broken) (place_in d k is.same) ∙ ap (λ (l : List ℕ). place k ∷ l) is.broken;
        low = rises;
        first = lowest_behind (place k) is.last p is.others is.low is.first;
      }

  found_behind : (count k p : ℕ) (d : Draft) → IsFound image k p d → not_of_form (needs_inventories count k d) ≡ Some (NotDatabase p)
  unfolding needs_inventories
  found_behind zero k p d is = ap lowest_broken is.broken ∙ is.first
  found_behind (suc count) k p d is = found_behind count (k + 1) p (needs 2 (inventory_place (image_size d.image) k) d) (found_on k p d is)

  -- the first that isn't there is what is found
  pub need_broken : (count k : ℕ) → is_kind image inventory_kind (place k) ≡ false → not_of_form (needs_inventories (suc count) k (drafted image)) ≡ Some (NotDatabase (place k))
  unfolding needs_inventories needs lowest_broken
  need_broken count k broken =
      found_behind count (k + 1) (place k) (needs 2 (place k) (drafted image)) (record {
        same = ap (λ (t : Bool). (elim t as (λ z. Draft) [ true ↦ drafted image | false ↦ record (drafted image) { broken = place k ∷ [] } ]).image) broken;
        last = place k;
        others = [];
        broken = ap (λ (t : Bool). (elim t as (λ z. Draft) [ true ↦ drafted image | false ↦ record (drafted image) { broken = place k ∷ [] } ]).broken) broken;
        low = place_rises (image_size image) k size_is;
        first = refl;
      })

  -- one that is there changes nothing
  pub need_there : (count k : ℕ) → is_kind image inventory_kind (place k) ≡ true → needs_inventories (suc count) k (drafted image) ≡ needs_inventories count (k + 1) (drafted image)
  unfolding needs_inventories needs
  need_there count k there =
      ap (λ (t : Bool). needs_inventories count (k + 1) (elim t as (λ z. Draft) [ true ↦ drafted image | false ↦ record (drafted image) { broken = place k ∷ [] } ])) there

-- nothing is needed any more
pub need_none : (image : Image) (k : ℕ) → not_of_form (needs_inventories 0 k (drafted image)) ≡ None
unfolding needs_inventories lowest_broken
need_none image k = refl

-- how many are needed
abbrev needed_in : Image → ℕ
needed_in image = (length image - 1) / bits_in (image_size image) + 1

-- those that are left, from the k-th on, find what all find
abbrev pub NeedsFrom : Image → (k : ℕ) → Type 0
NeedsFrom image k = needs_inventories (needed_in image - k) k (drafted image) ≡ all_needed image

pub needs_begun : (image : Image) → NeedsFrom image 0
unfolding all_needed
needs_begun image = let all : needed_in image - 0 ≡ needed_in image = omega arith in ap (λ (n : ℕ). needs_inventories n 0 (drafted image)) all

kind_there : (image : Image) (p : ℕ) → not_kind image inventory_kind p ≡ None → is_kind image inventory_kind p ≡ true
kind_there image p none = by (is_kind image inventory_kind p) none
  where
    by : (t : Bool) → when (not t) (NotDatabase p) ≡ None → t ≡ true
    by true e = refl
    by false e = cc

kind_broken : (image : Image) (p : ℕ) (r : Refusal) → not_kind image inventory_kind p ≡ Some r → (is_kind image inventory_kind p ≡ false) × (Some (NotDatabase p) ≡ Some r)
kind_broken image p r some = by (is_kind image inventory_kind p) some
  where
    by : (t : Bool) → when (not t) (NotDatabase p) ≡ Some r → (t ≡ false) × (Some (NotDatabase p) ≡ Some r)
    by true e = absurd (cc)
    by false e = (refl, e)

module _ (image : Image) (size : ℕ) (is_size : IsTrue (is_page_size size)) (same : size ≡ image_size image) (k : ℕ) where
  its_size : IsTrue (is_page_size (image_size image))
  its_size = subst (λ (s : ℕ). IsTrue (is_page_size s)) same is_size

  least : 7936 ≤ bits_in (image_size image)
  least = bits-least (image_size image) its_size

  -- one more is needed where its first page is below the length
  needs_more : k * bits_in size < length image → needed_in image - k ≡ suc (needed_in image - suc k)
  needs_more low =
      let its : k * bits_in (image_size image) ≤ length image - 1 = subst (λ (s : ℕ). k * bits_in s ≤ length image - 1) same (omega (arith, low)) in
      let most : k ≤ (length image - 1) / bits_in (image_size image) = (le-div_iff_mul-le {k = bits_in (image_size image)} {x = k} {y = length image - 1} (omega (arith, least))).1 its in
      behind (length image - 1) most
    where
      behind : (n : ℕ) → k ≤ n / bits_in (image_size image) → n / bits_in (image_size image) + 1 - k ≡ suc (n / bits_in (image_size image) + 1 - suc k)
      behind n most = omega (arith, most)

  pub needs_next : k * bits_in size < length image → not_kind image inventory_kind (inventory_place size k) ≡ None → NeedsFrom image k → NeedsFrom image (k + 1)
  needs_next low there from =
      let next : k + 1 ≡ suc k = omega arith in
      ap (λ (n : ℕ). needs_inventories (needed_in image - n) (k + 1) (drafted image)) next
      ∙ sym (need_there image its_size (needed_in image - suc k) k (kind_there image _ (subst (λ (s : ℕ). not_kind image inventory_kind (inventory_place s k) ≡ None) same there)))
      ∙ ap (λ (n : ℕ). needs_inventories n k (drafted image)) (sym (needs_more low)) ∙ from

  pub needs_refused : k * bits_in size < length image → NeedsFrom image k → (r : Refusal) → not_kind image inventory_kind (inventory_place size k) ≡ Some r → not_of_form (all_needed image) ≡ Some r
  needs_refused low from r some =
      let broken = kind_broken image _ r (subst (λ (s : ℕ). not_kind image inventory_kind (inventory_place s k) ≡ Some r) same some) in
      ap not_of_form (sym from) ∙ ap (λ (n : ℕ). not_of_form (needs_inventories n k (drafted image))) (needs_more low)
      ∙ need_broken image its_size (needed_in image - suc k) k broken.0 ∙ broken.1

  -- none is left once the length is reached
  pub needs_done : 0 < length image → length image ≤ k * bits_in size → NeedsFrom image k → not_of_form (all_needed image) ≡ None
  needs_done some high from =
      let its : length image ≤ k * bits_in (image_size image) = subst (λ (s : ℕ). length image ≤ k * bits_in s) same high in
      let fewer : (k ≤ (length image - 1) / bits_in (image_size image)) → ⊥ = λ more.
      let low : k * bits_in (image_size image) ≤ length image - 1 = (le-div_iff_mul-le {k = bits_in (image_size image)} {x = k} {y = length image - 1} (omega (arith, least))).0 more in
      absurd (omega (arith, low, its, some)) in
      let none : needed_in image - k ≡ 0 = elim (leb_tells k ((length image - 1) / bits_in (image_size image))) [ inl w ↦ absurd (fewer w.1) | inr w ↦ omega (arith, w.1) ] in
      ap not_of_form (sym from) ∙ ap (λ (n : ℕ). not_of_form (needs_inventories n k (drafted image))) none ∙ need_none image k
