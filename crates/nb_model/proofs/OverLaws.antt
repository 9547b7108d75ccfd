-- What two files give in the stalled state: what isn't diverted is the frozen image's.
use Rattle.std.proofs.Common.{◌≡◌, inl, inr, ℕ, zero, suc, ◌+◌, ◌<◌, List, [], length, take, refl, sym, ap, subst, ◌∙◌, arith, true, false, ◌==◌, Option, Some, None, Ok, max}
use Rattle.nb_model.proofs.Common.{true≢false, leb_tells, is_zeros, state_of, size_of, normal_state, stalled_state, File, Page, Image, page_at, first_page, image_state, image_in, Base, entry_for, behind_entries, slot_page, main_page, owned_page, owned_from, owned, diverted_base, owner, HasNoZeros, IsOverFrozen}
use Rattle.nb_model.proofs.HeaderLaws.{header-long}
use Rattle.nb_model.proofs.ImageLaws.{zeros-are}
use Rattle.nb_model.proofs.MainLaws.{IsLaid, laid, some_page, owned-front, owned-first, diverted-image, owner_cases, main_state}
use Rattle.nb_model.proofs.OwnerLaws.{main_here, main_past, named}
use Rattle.nb_model.proofs.SoundLaws.{all_at}

-- each page of the image of two files
module _ (size : ℕ) (main : Image) (delta table : List ℕ) where
  from_length : (count p : ℕ) → length (owned_from size main delta table count p) ≡ count
  unfolding owned_from
  from_length zero p = refl
  from_length (suc count) p = omega (arith, from_length count (p + 1))

  from_at : (count p q : ℕ) → q < count → page_at (owned_from size main delta table count p) q ≡ owned_page size main delta table (p + q)
  unfolding owned_from
  from_at zero p q low = absurd (omega arith)
  from_at (suc count) p zero low = ap (owned_page size main delta table) (let e : p ≡ p + 0 = omega arith in e)
  from_at (suc count) p (suc q) low = from_at count (p + 1) q (omega arith) ∙ ap (owned_page size main delta table) (let e : p + 1 + q ≡ p + suc q = omega arith in e)

  pub owned_length : length (owned size main delta table) ≡ max (length main) (behind_entries table)
  unfolding owned
  owned_length = from_length (max (length main) (behind_entries table)) 0

  pub owned_at : (p : ℕ) → p < length (owned size main delta table) → page_at (owned size main delta table) p ≡ owned_page size main delta table p
  unfolding owned
  owned_at p low = from_at (max (length main) (behind_entries table)) 0 p (omega (arith, low, owned_length)) ∙ ap (owned_page size main delta table) (let e : 0 + p ≡ p = omega arith in e)

  -- a page that no entry names
  pub owned-none : (p : ℕ) → entry_for p table ≡ None → owned_page size main delta table p ≡ main_page size main p
  unfolding owned_page
  owned-none p none = ap (λ (x : Option ℕ). elim x as (λ z. Page) [ Some k ↦ slot_page size main delta p k | None ↦ main_page size main p ]) none

  rest_same : HasNoZeros (owned size main delta table) → (p : ℕ) → p < length (owned size main delta table) → entry_for p table ≡ None → (p < length main) × (page_at (owned size main delta table) p ≡ page_at main p)
  rest_same some p low none =
      let is : page_at (owned size main delta table) p ≡ main_page size main p = owned_at p low ∙ owned-none p none in
      elim (leb_tells (suc p) (length main)) [
        | inl w ↦ (w.1, is ∙ main_here size main p w.1)
        | inr w ↦
            let zeros : is_zeros (page_at (owned size main delta table) p) ≡ true = ap is_zeros (is ∙ main_past size main p (omega (arith, w.1))) ∙ zeros-are size in
            absurd (true≢false (sym zeros ∙ all_at (λ (x : Page). is_zeros x ≡ false) (owned size main delta table) some p low))
      ]

-- so it is in the stalled state
pub diverted_over : (bytes delta table : List ℕ) → IsLaid (image_in bytes) bytes → state_of bytes ≡ stalled_state → HasNoZeros (owned (size_of bytes) (image_in bytes) delta table) → IsOverFrozen (diverted_base bytes delta table)
unfolding diverted_base
diverted_over bytes delta table is stalled some =
    let main : Image = image_in bytes in
    let size : ℕ = size_of bytes in
    let frozen : (elim (state_of bytes == stalled_state) as (λ z. Image) [ true ↦ main | false ↦ [] ]) ≡ main = ap (λ (n : ℕ). elim (n == 1) as (λ z. Image) [ true ↦ main | false ↦ [] ]) stalled in
    subst (λ (x : Image). IsOverFrozen (record { image = owned size main delta table; frozen = x; diverted = table })) (sym frozen) (record {
      front = ap (take 64) (owned-first size main delta table (some_page main is.header)) ∙ owned-front size main delta table (some_page main is.header) (header-long (first_page main) is.header);
      rest = λ p low none. rest_same size main delta table some p low none;
      below = λ p k e. omega (arith, named p table k e, owned_length size main delta table);
    })

pub owner_over : (name : List ℕ) (b : Base) (m d : File) → owner name m d ≡ Ok b → HasNoZeros b.image → image_state b.image ≡ stalled_state → IsOverFrozen b
owner_over name b m d opens some stalled = elim (owner_cases name b m d opens) [
  | inl holds ↦ absurd (let normal : image_state b.image ≡ normal_state = main_state b.image m holds in omega arith)
  | inr is ↦
      let image : b.image ≡ owned (size_of is.bytes) (image_in is.bytes) is.delta is.table = ap (λ (c : Base). c.image) is.is ∙ diverted-image is.bytes is.delta is.table in
      subst IsOverFrozen (sym is.is) (diverted_over is.bytes is.delta is.table (laid is.bytes is.formed) (sym is.state ∙ stalled) (subst HasNoZeros image some))
]
