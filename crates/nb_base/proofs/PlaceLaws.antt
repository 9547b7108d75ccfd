-- The place of an entry, as the object of the difference file knows it.
use Rattle.std.proofs.Common.{◌≡◌, inl, inr, ℕ, suc, ◌+◌, List, [], ◌∷◌, ◌++◌, refl, sym, ap, ◌∙◌, arith, Option, Some, None, Result, Ok, nat_eq, option_map, true, false, Bool}
use Rattle.nb_base.proofs.Common.{position_from, cond-true, cond-false, eqb_tells, slot_place, place_of, Known, noted, entry_for, none_some, ok_same, some_same}

place_from : (p i : ℕ) (entries : List ℕ) → position_from (nat_eq p) i entries ≡ option_map (λ k. i + k) (entry_for p entries)
unfolding entry_for
place_from p i [] = refl
place_from p i (q ∷ qs) = elim (eqb_tells p q) [
  | inl w ↦ cond-true (nat_eq p q) _ _ w.0 ∙ ap (λ n. Some n) (let e : i ≡ i + 0 = omega arith in e) ∙ sym (ap (λ (t : Bool). option_map (λ k. i + k) (elim t as (λ z. Option ℕ) [ true ↦ Some 0 | false ↦ elim (entry_for p qs) [ None ↦ None | Some k ↦ Some (suc k) ] ])) w.0)
  | inr w ↦ cond-false (nat_eq p q) _ _ w.0 ∙ place_from p (i + 1) qs ∙ by (entry_for p qs)
      ∙ sym (ap (λ (t : Bool). option_map (λ k. i + k) (elim t as (λ z. Option ℕ) [ true ↦ Some 0 | false ↦ elim (entry_for p qs) [ None ↦ None | Some k ↦ Some (suc k) ] ])) w.0)
]
  where
    by : (x : Option ℕ) → option_map (λ k. i + 1 + k) x ≡ option_map (λ k. i + k) (elim x as (λ z. Option ℕ) [ None ↦ None | Some k ↦ Some (suc k) ])
    by None = refl
    by (Some k) = ap (λ n. Some n) (let e : i + 1 + k ≡ i + suc k = omega arith in e)

pub place-entry : (p : ℕ) (entries : List ℕ) → place_of entries p ≡ entry_for p entries
place-entry p entries = place_from p 0 entries ∙ same (entry_for p entries)
  where
    same : (x : Option ℕ) → option_map (λ k. 0 + k) x ≡ x
    same None = refl
    same (Some k) = ap (λ n. Some n) (let e : 0 + k ≡ k = omega arith in e)

-- the slot that was found for a page is that of its entry
pub record IsSlotOf (size slot p : ℕ) (entries : List ℕ) : Type 0 where
  pub k : ℕ
  pub at : entry_for p entries ≡ Some k
  pub place : slot ≡ slot_place size k

slot_found : (size slot p : ℕ) (entries : List ℕ) (found : Option ℕ) → found ≡ option_map (slot_place size) (place_of entries p) → found ≡ Some slot → IsSlotOf size slot p entries
slot_found size slot p entries found is some = by (place_of entries p) refl
  where
    by : (x : Option ℕ) → place_of entries p ≡ x → IsSlotOf size slot p entries
    by None e = absurd (none_some slot (sym (is ∙ ap (option_map (slot_place size)) e) ∙ some))
    by (Some k) e = record { k = k; at = sym (place-entry p entries) ∙ e; place = some_same slot (slot_place size k) (sym some ∙ is ∙ ap (option_map (slot_place size)) e) }

pub slot_answered : {E : Type 0} (answer : Result (Option ℕ) E) (size slot p : ℕ) (entries : List ℕ) (found : Option ℕ) → answer ≡ Ok found → answer ≡ Ok (option_map (slot_place size) (place_of entries p)) → found ≡ Some slot → IsSlotOf size slot p entries
slot_answered answer size slot p entries found was is some = slot_found size slot p entries found (ok_same found (option_map (slot_place size) (place_of entries p)) answer was is) some

pub none_found : (p : ℕ) (entries : List ℕ) → place_of entries p ≡ None → entry_for p entries ≡ None
none_found p entries is = sym (place-entry p entries) ∙ is

-- what is known with other entries
pub kept_entries : (k : Known) (entries : List ℕ) → k.entries ≡ entries → k ≡ record k { entries = entries }
kept_entries k entries is = λ i. record k { entries = is i }

pub more_entries : (a b : Known) (p : ℕ) → a ≡ b → record a { entries = a.entries ++ p ∷ [] } ≡ record b { entries = b.entries ++ p ∷ [] }
more_entries a b p is = ap (λ (k : Known). record k { entries = k.entries ++ p ∷ [] }) is

pub kept_more : (k : Known) (p : ℕ) → noted p k.entries ≡ k.entries ++ p ∷ [] → record k { entries = k.entries ++ p ∷ [] } ≡ record k { entries = noted p k.entries }
kept_more k p is = λ i. record k { entries = sym is i }
