-- A file whose bytes spell a list has it as its table, and only then.
use Rattle.std.proofs.Common.{◌≡◌, ◌⊎◌, inl, inr, ⊎_elim, ℕ, zero, suc, ◌+◌, ◌-◌, ◌*◌, ◌/◌, ◌<◌, ◌≤◌, false, List, [], ◌∷◌, ◌++◌, length, get_or, take, refl, sym, ap, ◌∙◌, subst, arith, nat_eq, nat_lt, nat_le, ◌&&◌, Ok}
use Rattle.nb_delta.proofs.Common.{list_any, IsDistinct, AllByRecursion, cases_lt, le-ltb, lt-leb, eqb-false, eq-eqb, ne_eqb, or_from, and_left, and_right, take_all, mul-le-mul_right, slots_in, most_pages, alloc_place, entries_from, groups_from, table_of, is_unfit, le-div}
use Rattle.nb_delta.proofs.EntryLaws.{no_entries, entry_below}
use Rattle.nb_delta.proofs.ReadLaws.{entries_none, entry_read}
use Rattle.nb_delta.proofs.GroupLaws.{is_misshapen, group_full, group_last, next_group, first_group, first_inside, groups_begun}
use Rattle.nb_delta.proofs.TableLaws.{count_at, number_at, Holds, Spells, groups_read}

-- an entry is none of those before it
pub apart_at : (x : ℕ) (xs : List ℕ) (k : ℕ) → AllByRecursion (λ y. nat_eq x y ≡ false) xs → k < length xs → nat_eq (get_or xs k 0) x ≡ false
apart_at x [] k are inside = absurd (omega arith)
apart_at x (y ∷ ys) zero are inside = ne_eqb y x (λ e. eqb-false x y are.0 (sym e))
apart_at x (y ∷ ys) (suc k) are inside = apart_at x ys k are.1 (omega arith)

pub none_before : (xs : List ℕ) (k : ℕ) → IsDistinct nat_eq xs → k < length xs → list_any (nat_eq (get_or xs k 0)) (take k xs) ≡ false
unfolding IsDistinct
none_before [] k are inside = absurd (omega arith)
none_before (x ∷ xs) zero are inside = refl
none_before (x ∷ xs) (suc k) are inside =
    or_from (nat_eq (get_or xs k 0) x) (list_any (nat_eq (get_or xs k 0)) (take k xs)) (apart_at x xs k are.0 (omega arith)) (none_before xs k are.1 (omega arith))

pub take_next : (xs : List ℕ) (k : ℕ) → k < length xs → take k xs ++ get_or xs k 0 ∷ [] ≡ take (k + 1) xs
take_next [] k inside = absurd (omega arith)
take_next (x ∷ xs) zero inside = refl
take_next (x ∷ xs) (suc k) inside = ap (λ (ys : List ℕ). x ∷ ys) (take_next xs k (omega arith)) ∙ ap (λ (n : ℕ). take n (x ∷ xs)) (let e : suc (k + 1) ≡ suc k + 1 = omega arith in e)

module _ (size : ℕ) (bytes table : List ℕ) where
  entries_told : (left g i : ℕ) → Holds size bytes table → i + left ≤ slots_in size → g * slots_in size + i + left ≤ length table
      → entries_from size (alloc_place size g) i left bytes (take (g * slots_in size + i) table) ≡ Ok (take (g * slots_in size + i + left) table)
  entries_told zero g i holds few inside = entries_none size (alloc_place size g) i bytes (take (g * slots_in size + i) table)
      ∙ ap (λ (n : ℕ). Ok (take n table)) (let e : g * slots_in size + i ≡ g * slots_in size + i + 0 = omega arith in e)
  entries_told (suc left) g i holds few inside =
      let k : ℕ = g * slots_in size + i in
      let here : g * slots_in size + i < length table = omega arith in
      let low : i < slots_in size = omega arith in
      let is : number_at size bytes g i ≡ get_or table (g * slots_in size + i) 0 = holds.numbers g i low here in
      let fit : is_unfit (number_at size bytes g i) (take (g * slots_in size + i) table) ≡ false =
      ap (λ (n : ℕ). is_unfit n (take (g * slots_in size + i) table)) is
      ∙ or_from (nat_le most_pages (get_or table (g * slots_in size + i) 0)) (list_any (nat_eq (get_or table (g * slots_in size + i) 0)) (take (g * slots_in size + i) table))
      (lt-leb most_pages (get_or table (g * slots_in size + i) 0) (entry_below table most_pages holds.are.below (g * slots_in size + i) here)) (none_before table (g * slots_in size + i) holds.are.once here) in
      entry_read size (alloc_place size g) i left bytes (take (g * slots_in size + i) table) fit (le-ltb (length bytes) ((alloc_place size g + 2 + i) * size) (holds.slots g i low here))
      ∙ ap (λ (n : ℕ). entries_from size (alloc_place size g) (i + 1) left bytes (take (g * slots_in size + i) table ++ n ∷ [])) is
      ∙ ap (λ (xs : List ℕ). entries_from size (alloc_place size g) (i + 1) left bytes xs) (take_next table (g * slots_in size + i) here)
      ∙ ap (λ (n : ℕ). entries_from size (alloc_place size g) (i + 1) left bytes (take n table)) (let e : g * slots_in size + i + 1 ≡ g * slots_in size + (i + 1) = omega arith in e)
      ∙ entries_told left g (i + 1) holds (omega arith) (omega arith)
      ∙ ap (λ (n : ℕ). Ok (take n table)) (let e : g * slots_in size + (i + 1) + left ≡ g * slots_in size + i + suc left = omega arith in e)

  -- the allocation page is fit where the file holds it whole or not at all
  fit_ends : (g n : ℕ) → n ≤ slots_in size → (length bytes ≤ alloc_place size g * size) ⊎ ((alloc_place size g + 1) * size ≤ length bytes) → is_misshapen size (alloc_place size g) bytes n ≡ false
  fit_ends g n few ends =
      or_from (nat_lt (alloc_place size g * size) (length bytes) && nat_lt (length bytes) ((alloc_place size g + 1) * size)) (nat_lt (slots_in size) n)
      (⊎_elim (λ none. and_left (nat_lt (alloc_place size g * size) (length bytes)) (nat_lt (length bytes) ((alloc_place size g + 1) * size)) (le-ltb (alloc_place size g * size) (length bytes) none))
      (λ whole. and_right (nat_lt (alloc_place size g * size) (length bytes)) (nat_lt (length bytes) ((alloc_place size g + 1) * size)) (le-ltb (length bytes) ((alloc_place size g + 1) * size) whole)) ends)
      (le-ltb (slots_in size) n few)

  module _ (some : 0 < slots_in size) (large : 0 < size) (spells : Spells size bytes table) where
    -- the entries of a group, from its first on
    group_entries : (g n : ℕ) → n ≤ slots_in size → g * slots_in size + n ≤ length table → count_at size bytes g ≡ n
        → entries_from size (alloc_place size g) 0 (count_at size bytes g) bytes (take (g * slots_in size) table) ≡ Ok (take (g * slots_in size + n) table)
    group_entries g n few inside is =
        let first : g * slots_in size ≡ g * slots_in size + 0 = omega arith in
        let end : g * slots_in size + 0 + n ≡ g * slots_in size + n = omega arith in
        ap (λ (m : ℕ). entries_from size (alloc_place size g) 0 m bytes (take (g * slots_in size) table)) is
        ∙ ap (λ (m : ℕ). entries_from size (alloc_place size g) 0 n bytes (take m table)) first
        ∙ entries_told n g 0 spells.holds (omega arith) (omega (arith, inside)) ∙ ap (λ (m : ℕ). Ok (take m table)) end

    groups_told : (most g : ℕ) → g * slots_in size ≤ length table → length bytes / size + 1 ≤ most + g → alloc_place size g * size ≤ length bytes
        → groups_from most size (alloc_place size g) bytes (take (g * slots_in size) table) ≡ Ok table
    groups_told zero g inside fuel at_least =
        let pages = le-div (alloc_place size g) (length bytes) size large at_least in
        let first = first_group size g in
        absurd (omega arith)
    groups_told (suc most) g inside fuel at_least = elim (cases_lt (length table) (g * slots_in size + slots_in size)) [
      | inl l ↦
          let i : ℕ = length table - g * slots_in size in
          let many : length table ≡ g * slots_in size + (length table - g * slots_in size) = omega arith in
          let low : length table - g * slots_in size < slots_in size = omega arith in
          let is : count_at size bytes g ≡ length table - g * slots_in size = spells.last g (length table - g * slots_in size) low many in
          group_last most size (alloc_place size g) bytes (take (g * slots_in size) table) table
          (fit_ends g (count_at size bytes g) (omega arith) (⊎_elim (λ e. inl (omega arith)) (λ w. inr w) (spells.ends g (length table - g * slots_in size) low many)))
          (group_entries g (length table - g * slots_in size) (omega arith) (omega arith) is ∙ ap (λ (n : ℕ). Ok (take n table)) (sym many) ∙ ap (λ (xs : List ℕ). Ok xs) (take_all (length table) table (omega arith)))
          (ne_eqb (count_at size bytes g) (slots_in size) (λ e. absurd (omega arith)))
      | inr l ↦
          let next : g * slots_in size + slots_in size ≡ (g + 1) * slots_in size = omega arith in
          let is : count_at size bytes g ≡ slots_in size = spells.full g (omega (arith, next)) in
          let first_slot = spells.holds.slots g 0 some (omega arith) in
          let last_slot = spells.holds.slots g (slots_in size - 1) (omega arith) (omega arith) in
          let more : (alloc_place size g + 1) * size ≤ (alloc_place size g + 2 + 0) * size = mul-le-mul_right size (omega arith) in
          let at : alloc_place size g + 2 + (slots_in size - 1) ≡ alloc_place size (g + 1) = omega (arith, next_group size g) in
          group_full most size (alloc_place size g) bytes (take (g * slots_in size) table) (take ((g + 1) * slots_in size) table)
          (fit_ends g (count_at size bytes g) (omega arith) (inr (omega (arith, more, first_slot))))
          (group_entries g (slots_in size) (omega arith) (omega arith) is ∙ ap (λ (n : ℕ). Ok (take n table)) next)
          (eq-eqb (count_at size bytes g) (slots_in size) is)
          ∙ ap (λ (n : ℕ). groups_from most size n bytes (take ((g + 1) * slots_in size) table)) (next_group size g)
          ∙ groups_told most (g + 1) (omega arith) (omega arith) (subst (λ (n : ℕ). n * size ≤ length bytes) at last_slot)
    ]

    pub table_told : table_of size bytes ≡ Ok table
    table_told =
        let none : 0 * slots_in size ≡ 0 = omega arith in
        groups_begun size bytes
        ∙ ap (λ (n : ℕ). groups_from (length bytes / size + 1 - 0) size (alloc_place size 0) bytes (take n table)) (sym none)
        ∙ groups_told (length bytes / size + 1 - 0) 0 (omega arith) (omega arith) (first_inside size bytes)

  pub table_read : 0 < slots_in size → 0 < size → table_of size bytes ≡ Ok table → Spells size bytes table
  table_read some large told =
      groups_read size bytes some large (length bytes / size + 1 - 0) 0 [] table
      (record { are = no_entries; numbers = λ g i low inside. absurd (omega arith); slots = λ g i low inside. absurd (omega arith) })
      (omega arith) (λ h low. absurd (omega arith)) (omega arith) (first_inside size bytes) (sym (groups_begun size bytes) ∙ told)
