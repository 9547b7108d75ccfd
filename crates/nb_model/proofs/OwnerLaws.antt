-- Merging an entry changes no image: the page belongs to the difference file before and after.
use Rattle.std.proofs.Common.{◌≡◌, ◌≢◌, inl, inr, ℕ, zero, suc, ◌+◌, ◌-◌, ◌<◌, ◌≤◌, List, [], ◌∷◌, ◌++◌, length, get_or, take, drop, replicate, refl, sym, ap, ◌∙◌, arith, length-append, set, length-set, get_or-set_other, get_or-set_same, Bool, true, false, Option, Some, None, max}
use Rattle.nb_model.proofs.Common.{eqb_tells, leb_tells, get_or_append_left, get_or-append_right, take_at, length-take-le, slot_place, page_in, Page, Image, page_at, written_at, entry_for, behind_entries, slot_page, main_page, owned_page, owned_from, owned, none_some}

pub zeros_there : (n k : ℕ) (zeros page : Page) → k < n → get_or (replicate n zeros ++ page ∷ []) k [] ≡ zeros
zeros_there zero k zeros page h = absurd (omega arith)
zeros_there (suc n) zero zeros page h = refl
zeros_there (suc n) (suc k) zeros page h = zeros_there n k zeros page (omega arith)

pub tail_length : (n : ℕ) (zeros page : Page) → length (replicate n zeros ++ page ∷ []) ≡ n + 1
tail_length zero zeros page = refl
tail_length (suc n) zeros page = let h = tail_length n zeros page in omega (arith, h)

pub main_here : (size : ℕ) (main : Image) (q : ℕ) → q < length main → main_page size main q ≡ page_at main q
unfolding main_page
main_here size main q h = elim (leb_tells (suc q) (length main)) [ inl w ↦ rw (w.0, main_page) refl | inr w ↦ absurd (omega (arith, w.1)) ]

pub main_past : (size : ℕ) (main : Image) (q : ℕ) → length main ≤ q → main_page size main q ≡ replicate size 0
unfolding main_page
main_past size main q h = elim (leb_tells (suc q) (length main)) [ inl w ↦ absurd (omega (arith, w.1)) | inr w ↦ rw (w.0, main_page) refl ]

-- the image with a page at its end, and pages of zeros between
grown_main : (size n : ℕ) (page : Page) (main : Image) (q : ℕ) → length main ≤ n → q ≢ n
    → main_page size (main ++ (replicate (n - length main) (replicate size 0) ++ page ∷ [])) q ≡ main_page size main q
grown_main size n page main q past ne =
    let behind : Image = replicate (n - length main) (replicate size 0) ++ page ∷ [] in
    let tail : length behind ≡ (n - length main) + 1 = tail_length (n - length main) (replicate size 0) page in
    let long : length (main ++ behind) ≡ n + 1 = omega (arith, length-append main behind, tail) in
    elim (leb_tells (suc q) (length main)) [
      | inl w ↦ main_here size (main ++ behind) q (omega (arith, w.1)) ∙ get_or_append_left main behind [] q w.1 ∙ sym (main_here size main q w.1)
      | inr w ↦ elim (leb_tells (suc q) n) [
        | inl v ↦
            main_here size (main ++ behind) q (omega (arith, v.1)) ∙ get_or-append_right main behind (length main) q [] refl (omega (arith, w.1))
            ∙ zeros_there (n - length main) (q - length main) (replicate size 0) page (omega (arith, v.1, w.1)) ∙ sym (main_past size main q (omega (arith, w.1)))
        | inr v ↦ main_past size (main ++ behind) q (omega (arith, v.1)) ∙ sym (main_past size main q (omega (arith, w.1)))
      ]
    ]

set_main : (size n : ℕ) (page : Page) (main : Image) (q : ℕ) → q ≢ n → main_page size (set main n page) q ≡ main_page size main q
set_main size n page main q ne = elim (leb_tells (suc q) (length main)) [
  | inl w ↦ main_here size (set main n page) q (omega (arith, w.1, length-set main n page)) ∙ get_or-set_other main n q page [] ne ∙ sym (main_here size main q w.1)
  | inr w ↦ main_past size (set main n page) q (omega (arith, w.1, length-set main n page)) ∙ sym (main_past size main q (omega (arith, w.1)))
]

-- another page of the main file stays as it was
pub other_page : (size n : ℕ) (page : Page) (main : Image) (q : ℕ) → q ≢ n → main_page size (written_at size (n, page) main) q ≡ main_page size main q
unfolding written_at
other_page size n page main q ne = elim (leb_tells (suc n) (length main)) [
  | inl w ↦ rw (w.0, written_at) (set_main size n page main q ne)
  | inr w ↦ rw (w.0, written_at) (grown_main size n page main q (omega (arith, w.1)) ne)
]

pub written_length : (size n : ℕ) (page : Page) (main : Image) → length (written_at size (n, page) main) ≡ max (length main) (n + 1)
unfolding written_at
written_length size n page main = elim (leb_tells (suc n) (length main)) [
  | inl w ↦ rw (w.0, written_at) (omega (arith, w.1, length-set main n page))
  | inr w ↦ rw (w.0, written_at)
      (omega (arith, w.1, length-append main (replicate (n - length main) (replicate size 0) ++ page ∷ []), tail_length (n - length main) (replicate size 0) page))
]

-- the page itself
written_here : (size n : ℕ) (page : Page) (main : Image) → n < length main → page_at (written_at size (n, page) main) n ≡ page
unfolding written_at
written_here size n page main h = elim (leb_tells (suc n) (length main)) [
  | inl w ↦ rw (w.0, written_at) (get_or-set_same main n page [] h)
  | inr w ↦ absurd (omega (arith, w.1))
]

-- page 0 keeps its first 64 bytes, whichever page is merged
front_kept : (size k n : ℕ) (main : Image) (delta : List ℕ) → 1 ≤ length main → 64 ≤ length (page_at main 0)
    → take 64 (page_at (written_at size (n, slot_page size main delta n k) main) 0) ≡ take 64 (page_at main 0)
unfolding slot_page
front_kept size k zero main delta some long =
    ap (take 64) (written_here size 0 _ main (omega arith)) ∙ take_at (take 64 (page_at main 0)) _ 64 (length-take-le 64 (page_at main 0) long)
front_kept size k (suc n) main delta some long =
    let page : Page = slot_page size main delta (suc n) k in
    ap (take 64) (sym (main_here size (written_at size (suc n, page) main) 0 (omega (arith, written_length size (suc n) page main))) ∙ other_page size (suc n) page main 0 (omega arith) ∙ main_here size main 0 (omega arith))

-- the slot of an entry is read as before
slot_kept : (size k n q j : ℕ) (main : Image) (delta : List ℕ) → 1 ≤ length main → 64 ≤ length (page_at main 0)
    → slot_page size (written_at size (n, slot_page size main delta n k) main) delta q j ≡ slot_page size main delta q j
unfolding slot_page
slot_kept size k n zero j main delta some long = ap (λ (front : List ℕ). front ++ drop 64 (page_in size delta (slot_place size j))) (front_kept size k n main delta some long)
slot_kept size k n (suc q) j main delta some long = refl

-- which page is an entry's
pub named : (p : ℕ) (table : List ℕ) (k : ℕ) → entry_for p table ≡ Some k → p + 1 ≤ behind_entries table
unfolding entry_for
named p [] k e = absurd (none_some k e)
named p (q ∷ qs) k e = elim (eqb_tells p q) [
  | inl w ↦ omega (arith, w.1)
  | inr w ↦ by_rest (named p qs) (entry_for p qs) refl (sym (ap (λ (t : Bool). elim t as (λ z. Option ℕ) [ true ↦ Some 0 | false ↦ elim (entry_for p qs) [ None ↦ None | Some i ↦ Some (suc i) ] ]) w.0) ∙ e)
]
  where
    by_rest : ((i : ℕ) → entry_for p qs ≡ Some i → p + 1 ≤ behind_entries qs) → (x : Option ℕ) → entry_for p qs ≡ x → elim (entry_for p qs) as (λ z. Option ℕ) [ None ↦ None | Some i ↦ Some (suc i) ] ≡ Some k → p + 1 ≤ behind_entries (q ∷ qs)
    by_rest later None is h = absurd (none_some k (ap (λ (y : Option ℕ). elim y as (λ z. Option ℕ) [ None ↦ None | Some i ↦ Some (suc i) ]) (sym is) ∙ h))
    by_rest later (Some i) is h = let r = later i is in omega (arith, r)

-- each page of the image
page_kept : (size k n : ℕ) (main : Image) (delta table : List ℕ) → entry_for n table ≡ Some k → 1 ≤ length main → 64 ≤ length (page_at main 0)
    → (q : ℕ) → owned_page size (written_at size (n, slot_page size main delta n k) main) delta table q ≡ owned_page size main delta table q
unfolding owned_page
page_kept size k n main delta table e some long q = by_entry (entry_for q table) refl
  where
    by_entry : (x : Option ℕ) → entry_for q table ≡ x
        → elim x as (λ z. Page) [ Some j ↦ slot_page size (written_at size (n, slot_page size main delta n k) main) delta q j | None ↦ main_page size (written_at size (n, slot_page size main delta n k) main) q ]
        ≡ elim x as (λ z. Page) [ Some j ↦ slot_page size main delta q j | None ↦ main_page size main q ]
    by_entry (Some j) is = slot_kept size k n q j main delta some long
    by_entry None is = other_page size n (slot_page size main delta n k) main q (λ same. none_some k (sym is ∙ ap (λ (x : ℕ). entry_for x table) same ∙ e))

all_kept : (size : ℕ) (main new : Image) (delta table : List ℕ) → ((q : ℕ) → owned_page size new delta table q ≡ owned_page size main delta table q)
    → (count p : ℕ) → owned_from size new delta table count p ≡ owned_from size main delta table count p
unfolding owned_from
all_kept size main new delta table same zero p = refl
all_kept size main new delta table same (suc count) p =
    ap (λ (x : Page). x ∷ owned_from size new delta table count (p + 1)) (same p)
    ∙ ap (λ (xs : Image). owned_page size main delta table p ∷ xs) (all_kept size main new delta table same count (p + 1))

-- the image stays where the page of an entry is written into the main file
pub merge_kept : (size k n : ℕ) (main : Image) (delta table : List ℕ) → entry_for n table ≡ Some k → 1 ≤ length main → 64 ≤ length (page_at main 0)
    → owned size (written_at size (n, slot_page size main delta n k) main) delta table ≡ owned size main delta table
unfolding owned
merge_kept size k n main delta table e some long =
    let new : Image = written_at size (n, slot_page size main delta n k) main in
    let low = named n table k e in
    let count : max (length new) (behind_entries table) ≡ max (length main) (behind_entries table) = omega (arith, low, written_length size n (slot_page size main delta n k) main) in
    ap (λ (c : ℕ). owned_from size new delta table c 0) count ∙ all_kept size main new delta table (page_kept size k n main delta table e some long) (max (length main) (behind_entries table)) 0
