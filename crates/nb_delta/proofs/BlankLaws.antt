-- A difference file without entries.
use Rattle.std.proofs.Common.{◌≡◌, ◌⊎◌, inl, inr, ℕ, Bool, ◌+◌, ◌*◌, ◌≤◌, List, [], ◌++◌, length, drop, replicate, refl, sym, ap, ◌∙◌, subst, arith, IsTrue, Some, Result}
use Rattle.nb_delta.proofs.Common.{cases_lt, length-replicate, drop_all, append-nil, mul-le-mul_right, File, bytes_of, with_page, put_at, padded, World, PageLeft, Remakes, WritesPage, IsTimely, Passes, Only, Changes, Remade, page_others, remade_alone, remade_step, number_in, is_page_size, slots_in, page_in, alloc_place, HasTable, IsBlank}
use Rattle.nb_delta.proofs.EntryLaws.{no_entries}
use Rattle.nb_delta.proofs.GroupLaws.{page_past, zeros_count}
use Rattle.nb_delta.proofs.TableLaws.{Spells, SamePlace, same_place, count_at}
use Rattle.nb_delta.proofs.PageLaws.{grown_page}
use Rattle.nb_delta.proofs.StepLaws.{some_slots, some_bytes, has_told}

-- zeros put at the start of an empty file
pub put_first : (page : List ℕ) → put_at [] 0 page ≡ page
unfolding put_at padded
put_first page =
    let rest : drop (0 + length page) [] ≡ [] = drop_all (0 + length page) [] (omega arith) in
    ap (λ (xs : List ℕ). page ++ xs) rest ∙ append-nil page

module _ (size : ℕ) (is_size : IsTrue (is_page_size size)) where
  first_alloc : alloc_place size 0 ≡ 0
  unfolding alloc_place
  first_alloc = omega arith

  spells_none : (bytes : List ℕ) → page_in size bytes 0 ≡ replicate size 0 → (length bytes ≡ 0) ⊎ (size ≤ length bytes) → Spells size bytes []
  spells_none bytes empty ends =
      let some = some_slots size is_size in
      let large = some_bytes size is_size in
      record {
        holds = record { are = no_entries; numbers = λ g i low inside. absurd (omega arith); slots = λ g i low inside. absurd (omega arith) };
        full = λ g many. absurd (let m : 1 * slots_in size ≤ (g + 1) * slots_in size = mul-le-mul_right (slots_in size) (omega arith) in omega (arith, m, many));
        last = λ g i low many.
            let at : SamePlace 0 0 g i = same_place (slots_in size) 0 0 g i some low (omega (arith, many)) in
            ap (λ (n : ℕ). count_at size bytes n) at.group ∙ ap (λ (n : ℕ). number_in 0 4 (page_in size bytes n)) first_alloc ∙ ap (λ (p : List ℕ). number_in 0 4 p) empty ∙ zeros_count size (omega arith) ∙ sym at.index;
        ends = λ g i low many.
            let at : SamePlace 0 0 g i = same_place (slots_in size) 0 0 g i some low (omega (arith, many)) in
            let place : alloc_place size g ≡ 0 = ap (λ (n : ℕ). alloc_place size n) at.group ∙ first_alloc in
            subst (λ (n : ℕ). (length bytes ≡ n * size) ⊎ ((n + 1) * size ≤ length bytes)) (sym place) (ends_first bytes ends);
      }
    where
      ends_first : (bytes : List ℕ) → (length bytes ≡ 0) ⊎ (size ≤ length bytes) → (length bytes ≡ 0 * size) ⊎ ((0 + 1) * size ≤ length bytes)
      ends_first bytes (inl none) = inl (omega arith)
      ends_first bytes (inr whole) = inr (omega arith)

  -- a file that is empty, or one page of zeros, has no entries
  pub blank_table : (file : File) → IsBlank size file → HasTable size file []
  blank_table file (inl is) =
      has_told size is_size file [] (is ∙ ap (λ (f : File). Some (bytes_of f)) (sym is))
      (subst (λ (f : File). Spells size (bytes_of f) []) (sym is) (spells_none [] (page_past size 0 [] (omega arith)) (inl refl)))
  blank_table file (inr is) =
      has_told size is_size file [] (is ∙ ap (λ (f : File). Some (bytes_of f)) (sym is))
      (subst (λ (f : File). Spells size (bytes_of f) []) (sym is)
      (spells_none (replicate size 0) (grown_page size [] size 0 ∙ page_past size 0 [] (omega arith)) (inr (omega (arith, length-replicate {A = ℕ} size 0)))))

  -- a page of zeros put into an empty file
  pub blank_put : (page : List ℕ) → page ≡ replicate size 0 → (d c : File) → d ≡ Some [] → c ≡ with_page d (0 * length page) page → c ≡ Some (replicate size 0)
  blank_put page empty d c is put =
      let none : 0 * length page ≡ 0 = omega arith in
      put ∙ ap (λ (f : File). with_page f (0 * length page) page) is ∙ ap (λ (n : ℕ). Some (put_at [] n page)) none ∙ ap (λ (xs : List ℕ). Some xs) (put_first page ∙ empty)

  -- what a crash leaves while a page of zeros is put into an empty file
  pub blank_left : (page : List ℕ) → page ≡ replicate size 0 → (d c : File) → d ≡ Some [] → PageLeft (0 * length page) page d c → IsBlank size c
  blank_left page empty d c is (inl same) = inl (same ∙ is)
  blank_left page empty d c is (inr (inl put)) = inr (blank_put page empty d c is put)
  blank_left page empty d c is (inr (inr (k, fits, grown))) =
      let long : length page ≡ size = ap (λ (xs : List ℕ). length xs) empty ∙ length-replicate {A = ℕ} size 0 in
      let none : bytes_of d ≡ [] = ap (λ (f : File). bytes_of f) is in
      let from : length (bytes_of d) ≡ 0 = ap (λ (xs : List ℕ). length xs) none in
      let is_zeros : c ≡ Some (replicate (k * length page) 0) = grown ∙ ap (λ (xs : List ℕ). Some (xs ++ replicate (k * length page) 0)) none in
      let large = some_bytes size is_size in
      elim (cases_lt k 1) [
        | inl l ↦ let z : k * length page ≡ 0 * length page = ap (λ (n : ℕ). n * length page) (let e : k ≡ 0 = omega arith in e) in let nothing : k * length page ≡ 0 = omega (arith, z) in inl (is_zeros ∙ ap (λ (n : ℕ). Some (replicate n 0)) nothing)
        | inr l ↦ elim (cases_lt 1 k) [
          | inl m ↦ let more : 2 * length page ≤ k * length page = mul-le-mul_right (length page) (omega arith) in absurd (omega (arith, more, fits, from, long, large))
          | inr m ↦ let one : k * length page ≡ 1 * length page = ap (λ (n : ℕ). n * length page) (let e : k ≡ 1 = omega arith in e) in let page_long : k * length page ≡ size = omega (arith, one, long) in inr (is_zeros ∙ ap (λ (n : ℕ). Some (replicate n 0)) page_long)
        ]
      ]

  -- the file is made, and a page of zeros is put into it
  pub blank_made : {T E U V : Type 0} (tells : Bool) (first : Result T E) (second : Result U V) (old mid new : World) (name page : List ℕ) → page ≡ replicate size 0 → IsTrue tells → IsTimely old
      → Remakes tells first old mid name (Some []) → mid.said ≡ old.said → Passes old mid → ((c : File) → mid.now name c → c ≡ Some [])
      → WritesPage tells second mid new name (0 * length page) page → new.said ≡ mid.said → Passes mid new → Changes old new (Only name) (Remade old name (IsBlank size))
  blank_made tells first second old mid new name page zeros told timely remakes silent time done writes still later =
      remade_step old mid new name (IsBlank size) (λ c. c ≡ Some []) (IsBlank size) (PageLeft (0 * length page) page)
      (remade_alone tells first old mid name (Some []) (IsBlank size) told timely remakes silent time (inl refl))
      later writes.left (page_others tells second mid new name (0 * length page) page told writes) still done (λ c is. is) (λ c d is left. blank_left page zeros c d is left)
