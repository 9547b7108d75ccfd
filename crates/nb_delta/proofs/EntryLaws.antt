-- Entries, one more of them, and their index.
use Rattle.std.proofs.Common.{◌≡◌, ◌≢◌, ℕ, zero, suc, ◌+◌, ◌<◌, ◌≤◌, Bool, true, false, cond, List, [], ◌∷◌, ◌++◌, length, get_or, Option, Some, None, refl, sym, ap, ◌∙◌, subst, arith, inl, inr, ⊎_elim, length-append, BTreeMap, nat_cmp, nat_eq, ◌||◌, Result, Ok, Err, OnOk, is_ok, is_some, IfSome}
use Rattle.nb_delta.proofs.Common.{list_any, position_from, IsDistinct, AllByRecursion, cases_eq, cases_lt, eq-eqb, ne_eqb, eqb-true, or_cases, or_left, or_right, cond-true, cond-false, list_any-append, most_pages, place_of, AreEntries, IsIndex, false_true, some_none}
use Rattle.std.specs.Ordering.{is_eq}
use Rattle.std.specs.Cmp.{nat_cmp_is}
use Rattle.std.specs.BTreeMap.{get, Updates, IsEmpty}
use Rattle.std.specs.declared.cmp.Ordering.TheVariants.{Less, Greater}
use Rattle.std.specs.declared.alloc.AllocFailed.{AllocFailed}
use Rattle.std.proofs.lemmas.Bool.Decides.{eqb_tells}
use Rattle.std.proofs.lemmas.Map.Steps.{length-le_from_distinct_below}

-- no entries
pub no_entries : AreEntries []
unfolding IsDistinct
no_entries = record { below = λ page is. cc; once = tt }

-- a page without a place is none of the entries
not_named : (page i : ℕ) (xs : List ℕ) → position_from (nat_eq page) i xs ≡ None → list_any (nat_eq page) xs ≡ false
not_named page i [] none = refl
not_named page i (x ∷ xs) none = elim (eqb_tells page x) [
  | inl w ↦ absurd (some_none i (sym (cond-true (nat_eq page x) _ _ w.0) ∙ none))
  | inr w ↦ ap (λ (b : Bool). b || list_any (nat_eq page) xs) w.0 ∙ not_named page (i + 1) xs (sym (cond-false (nat_eq page x) _ _ w.0) ∙ none)
]

pub named_none : (page : ℕ) (xs : List ℕ) → place_of xs page ≡ None → list_any (nat_eq page) xs ≡ false
named_none page xs = not_named page 0 xs

-- and the other way round
no_place : (page i : ℕ) (xs : List ℕ) → list_any (nat_eq page) xs ≡ false → position_from (nat_eq page) i xs ≡ None
no_place page i [] none = refl
no_place page i (x ∷ xs) none = elim (eqb_tells page x) [
  | inl w ↦ let some = or_left (nat_eq page x) (list_any (nat_eq page) xs) w.0 in cc
  | inr w ↦ cond-false (nat_eq page x) _ _ w.0 ∙ no_place page (i + 1) xs (sym (ap (λ (b : Bool). b || list_any (nat_eq page) xs) w.0) ∙ none)
]

pub place_none : (page : ℕ) (xs : List ℕ) → list_any (nat_eq page) xs ≡ false → place_of xs page ≡ None
place_none page xs = no_place page 0 xs

-- a page has a place exactly where an entry names it
has_place : (page i : ℕ) (xs : List ℕ) → is_some (position_from (nat_eq page) i xs) ≡ list_any (nat_eq page) xs
has_place page i [] = refl
has_place page i (x ∷ xs) = elim (eqb_tells page x) [
  | inl w ↦ ap is_some (cond-true (nat_eq page x) _ _ w.0) ∙ sym (or_left (nat_eq page x) (list_any (nat_eq page) xs) w.0)
  | inr w ↦ ap is_some (cond-false (nat_eq page x) _ _ w.0) ∙ has_place page (i + 1) xs ∙ sym (ap (λ (b : Bool). b || list_any (nat_eq page) xs) w.0)
]

pub is_named : (page : ℕ) (xs : List ℕ) → is_some (place_of xs page) ≡ list_any (nat_eq page) xs
is_named page xs = has_place page 0 xs

-- an entry is below what all are below
pub entry_below : (xs : List ℕ) (n : ℕ) → ((page : ℕ) → list_any (nat_eq page) xs ≡ true → page < n) → (k : ℕ) → k < length xs → get_or xs k 0 < n
entry_below [] n below k inside = absurd (omega arith)
entry_below (x ∷ xs) n below zero inside = below x (or_left (nat_eq x x) (list_any (nat_eq x) xs) (eq-eqb x x refl))
entry_below (x ∷ xs) n below (suc k) inside = entry_below xs n (λ page is. below page (or_right (nat_eq page x) (list_any (nat_eq page) xs) is)) k (omega arith)

-- there are no more entries than pages
pub few : (xs : List ℕ) → AreEntries xs → length xs ≤ most_pages
few xs are = length-le_from_distinct_below xs most_pages are.once are.below

none_equal : (x p : ℕ) (xs : List ℕ) → nat_eq x p ≡ false → AllByRecursion (λ y. nat_eq x y ≡ false) xs → AllByRecursion (λ y. nat_eq x y ≡ false) (xs ++ p ∷ [])
none_equal x p [] other are = (other, tt)
none_equal x p (y ∷ ys) other are = (are.0, none_equal x p ys other are.1)

distinct_more : (xs : List ℕ) (p : ℕ) → IsDistinct nat_eq xs → list_any (nat_eq p) xs ≡ false → IsDistinct nat_eq (xs ++ p ∷ [])
unfolding IsDistinct
distinct_more [] p are none = (tt, tt)
distinct_more (x ∷ xs) p are none = elim (eqb_tells p x) [
  | inl w ↦ let some = or_left (nat_eq p x) (list_any (nat_eq p) xs) w.0 in absurd (false_true (sym none ∙ some))
  | inr w ↦ (none_equal x p xs (ne_eqb x p (λ e. w.1 (sym e))) are.0, distinct_more xs p are.1 (sym (ap (λ (b : Bool). b || list_any (nat_eq p) xs) w.0) ∙ none))
]

-- one entry more
pub entries_more : (xs : List ℕ) (p : ℕ) → AreEntries xs → list_any (nat_eq p) xs ≡ false → p < most_pages → AreEntries (xs ++ p ∷ [])
entries_more xs p are none below = record {
  below = λ page is. ⊎_elim (are.below page)
      (λ last. ⊎_elim (λ e. let same : page ≡ p = eqb-true page p e in omega arith) (λ e. cc) (or_cases (nat_eq page p) false last))
      (or_cases (list_any (nat_eq page) xs) (list_any (nat_eq page) (p ∷ [])) (sym (list_any-append (nat_eq page) xs (p ∷ [])) ∙ is));
  once = distinct_more xs p are.once none;
}

-- where a page is free of an entry, there is room for one
pub room_for : (xs : List ℕ) (p : ℕ) → AreEntries xs → place_of xs p ≡ None → p < most_pages → length xs < most_pages
room_for xs p are none below =
    let most = few (xs ++ p ∷ []) (entries_more xs p are (named_none p xs none) below) in
    omega (arith, length-append xs (p ∷ []), most)

-- places in the longer list
place_other : (page p i : ℕ) (xs : List ℕ) → nat_eq page p ≡ false → position_from (nat_eq page) i (xs ++ p ∷ []) ≡ position_from (nat_eq page) i xs
place_other page p i [] other = cond-false (nat_eq page p) _ _ other
place_other page p i (x ∷ xs) other = ap (λ (o : Option ℕ). cond (nat_eq page x) (Some i) o) (place_other page p (i + 1) xs other)

place_last : (p i : ℕ) (xs : List ℕ) → position_from (nat_eq p) i xs ≡ None → position_from (nat_eq p) i (xs ++ p ∷ []) ≡ Some (i + length xs)
place_last p i [] none = cond-true (nat_eq p p) _ _ (eq-eqb p p refl) ∙ ap Some (let e : i ≡ i + 0 = omega arith in e)
place_last p i (x ∷ xs) none = elim (eqb_tells p x) [
  | inl w ↦ absurd (some_none i (sym (cond-true (nat_eq p x) _ _ w.0) ∙ none))
  | inr w ↦
      cond-false (nat_eq p x) _ _ w.0 ∙ place_last p (i + 1) xs (sym (cond-false (nat_eq p x) _ _ w.0) ∙ none)
      ∙ ap Some (let e : i + 1 + length xs ≡ i + suc (length xs) = omega arith in e)
]

is_eq_other : (a b : ℕ) → a ≢ b → is_eq (nat_cmp a b) ≡ false
is_eq_other a b other = elim (cases_lt a b) [
  | inl l ↦ ap is_eq (sym (nat_cmp_is a b Less l))
  | inr l ↦ let above : b < a = omega arith in ap is_eq (sym (nat_cmp_is a b Greater above))
]

index_more : (old new : BTreeMap ℕ ℕ) (xs : List ℕ) (p : ℕ) → IsIndex xs old → place_of xs p ≡ None → Updates nat_cmp old new p (Some (length xs)) → IsIndex (xs ++ p ∷ []) new
index_more old new xs p index none updates page = elim (cases_eq page p) [
  | inl e ↦
      let at_p : get nat_cmp new p ≡ place_of (xs ++ p ∷ []) p = updates.1 ∙ ap Some (let e : length xs ≡ 0 + length xs = omega arith in e) ∙ sym (place_last p 0 xs none) in
      subst (λ (n : ℕ). get nat_cmp new n ≡ place_of (xs ++ p ∷ []) n) (sym e) at_p
  | inr ne ↦ updates.2 page (is_eq_other p page (λ e. ne (sym e))) ∙ index page ∙ sym (place_other page p 0 xs (ne_eqb page p ne))
]

at_ok : {T E P : Type 0} (result : Result T E) → is_ok result ≡ true → OnOk result P → P
at_ok (Ok x) is p = p
at_ok (Err e) is p = cc

-- the index after its insertion
pub index_added : (result : Result (Option ℕ) (AllocFailed (ℕ × ℕ))) (old new : BTreeMap ℕ ℕ) (xs : List ℕ) (p n : ℕ) → is_ok result ≡ true → n ≡ length xs → IsIndex xs old → place_of xs p ≡ None → OnOk result (Updates nat_cmp old new p (Some n)) → IsIndex (xs ++ p ∷ []) new
index_added result old new xs p n ok many index none updated =
    index_more old new xs p index none (subst (λ (k : ℕ). Updates nat_cmp old new p (Some k)) many (at_ok result ok updated))

-- the index of no entries
pub index_none : (places : BTreeMap ℕ ℕ) → IsEmpty places → IsIndex [] places
index_none places empty page = rw empty

-- a place is inside
place_inside : (page i : ℕ) (xs : List ℕ) → IfSome (position_from (nat_eq page) i xs) (λ place. (i ≤ place) × (place < i + length xs))
place_inside page i [] = tt
place_inside page i (x ∷ xs) = elim (eqb_tells page x) [
  | inl w ↦ subst (λ (o : Option ℕ). IfSome o (λ place. (i ≤ place) × (place < i + length (x ∷ xs)))) (sym (cond-true (nat_eq page x) _ _ w.0)) (omega arith, omega arith)
  | inr w ↦ subst (λ (o : Option ℕ). IfSome o (λ place. (i ≤ place) × (place < i + length (x ∷ xs)))) (sym (cond-false (nat_eq page x) _ _ w.0)) (wider (position_from (nat_eq page) (i + 1) xs) (place_inside page (i + 1) xs))
]
  where
    wider : (o : Option ℕ) → IfSome o (λ place. (i + 1 ≤ place) × (place < i + 1 + length xs)) → IfSome o (λ place. (i ≤ place) × (place < i + length (x ∷ xs)))
    wider None is = tt
    wider (Some place) is = let a = is.0 in let b = is.1 in (omega arith, omega arith)

pub place_below : (page : ℕ) (xs : List ℕ) (found : Option ℕ) → found ≡ place_of xs page → IfSome found (λ place. place < length xs)
place_below page xs found is = subst (λ (o : Option ℕ). IfSome o (λ place. place < length xs)) (sym is) (lower (place_of xs page) (place_inside page 0 xs))
  where
    lower : (o : Option ℕ) → IfSome o (λ place. (0 ≤ place) × (place < 0 + length xs)) → IfSome o (λ place. place < length xs)
    lower None is = tt
    lower (Some place) is = let b = is.1 in omega arith
