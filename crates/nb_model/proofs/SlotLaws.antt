-- The slots of a data page that is written: they are those of the old page, but for the one that is written; and a new page uses none.
use Rattle.std.proofs.Common.{◌≡◌, ◌≢◌, ◌⊎◌, inl, inr, ℕ, zero, suc, ◌+◌, ◌-◌, ◌*◌, ◌/◌, ◌≤◌, List, [], ◌∷◌, ◌++◌, length, take, drop, replicate, refl, sym, ap, subst, ◌∙◌, ◌<◌, arith, append_assoc, length-drop, length-append, true, ◌&&◌, ◌==◌}
use Rattle.nb_model.proofs.Common.{AllByRecursion, list_all, true≢false, and_parts, and_from, eqb-true, eq-eqb, eqb_tells, leb_tells, take_at, drop_at, drop-drop, bytes_of, number_of, number_in, part, with_part, padded, is_zeros, stamped, kind_of, data_payload, length-bytes_of, number_of-bytes_of, padded_whole, drop-page_of, length-page_of, drop-with_part, part-with_part, part-with_part_other, number_in-with_part, number_in-with_part_other, length-with_part, data_kind, Page, History, Slot, is_used, is_slot, next_in, owner_in, slots_from, slots_in, is_history_page}
use Rattle.nb_model.proofs.ImageLaws.{zeros-are}

-- Pages that are the same from byte n on have the same slots.
module _ (n : ℕ) (a b : Page) (same : drop n a ≡ drop n b) where
  drop_same : (at : ℕ) → n ≤ at → drop at a ≡ drop at b
  drop_same at h =
      let sum : n + (at - n) ≡ at = omega (arith, h) in
      sym (ap (λ (k : ℕ). drop k a) sum) ∙ sym (drop-drop (at - n) n a) ∙ ap (drop (at - n)) same ∙ drop-drop (at - n) n b ∙ ap (λ (k : ℕ). drop k b) sum

  slots_same : (count at : ℕ) → n ≤ at → slots_from count at a ≡ slots_from count at b
  unfolding slots_from
  slots_same zero at h = refl
  slots_same (suc count) at h = ap (λ (s : Slot). s ∷ slots_from count (at + 256) a) (ap (take 256) (drop_same at h)) ∙ ap (λ (ss : List Slot). part at 256 b ∷ ss) (slots_same count (at + 256) (omega (arith, h)))

  pub same_slots : n ≤ 32 → length a ≡ length b → slots_in a ≡ slots_in b
  unfolding slots_in
  same_slots h long = ap (λ (k : ℕ). slots_from ((k - 32) / 256) 32 a) long ∙ slots_same ((length b - 32) / 256) 32 h

-- A page that is stamped has the payload after its head.
stamped_behind : (old whole : Page) (kind scn number : ℕ) → length whole ≡ length old → drop 16 (stamped old kind (drop 16 whole) scn number) ≡ drop 16 whole
unfolding stamped
stamped_behind old whole kind scn number long =
    drop-page_of (length old) kind _ scn number (drop 16 whole) ∙ padded_whole (length old - 16) (drop 16 whole) (length-drop 16 whole ∙ ap (λ (n : ℕ). n - 16) long)

pub stamped_long : (old payload : Page) (kind scn number : ℕ) → 16 + length payload ≤ length old → length (stamped old kind payload scn number) ≡ length old
unfolding stamped
stamped_long old payload kind scn number room = length-page_of (length old) kind _ scn number payload room

-- The next page of a chain is named in a page of it: its rows are as before, and it is of the history where it was.
module _ (old : Page) (next scn number : ℕ) (long : 1024 ≤ length old) where
  abbrev whole : Page
  whole = with_part 16 (bytes_of 4 next) old

  abbrev linked_page : Page
  linked_page = stamped old data_kind (drop 16 whole) scn number

  whole_long : length whole ≡ length old
  whole_long = length-with_part 16 (bytes_of 4 next) old (omega (arith, long, length-bytes_of 4 next))

  page_long : length linked_page ≡ length old
  page_long = stamped_long old (drop 16 whole) 5 scn number (omega (arith, long, length-drop 16 whole, whole_long))

  behind_next : drop 20 linked_page ≡ drop 20 old
  behind_next = drop_same 16 linked_page whole (stamped_behind old whole 5 scn number whole_long) 20 (omega arith) ∙ drop-with_part 16 20 (bytes_of 4 next) old (omega (arith, long)) (omega (arith, length-bytes_of 4 next))

  pub linked_slots : slots_in linked_page ≡ slots_in old
  linked_slots = same_slots 20 linked_page old behind_next (omega arith) page_long

  pub linked_history : kind_of old ≡ data_kind → is_history_page linked_page ≡ true → is_history_page old ≡ true
  unfolding is_history_page number_in
  linked_history kind is =
      let rest = (and_parts (kind_of linked_page == data_kind) _ is).1 in
      and_from (kind_of old == data_kind) _ (eq-eqb (kind_of old) 5 kind)
      (ap (λ (xs : List ℕ). number_of (take 4 xs) == 1 && list_all (is_slot History) (slots_in old)) (sym behind_next)
      ∙ ap (λ (ss : List Slot). owner_in linked_page == 1 && list_all (is_slot History) ss) (sym linked_slots) ∙ rest)

-- A page that is stamped has the owner that its payload says.
pub owner_behind : (old whole : Page) (scn number : ℕ) → length whole ≡ length old → owner_in (stamped old data_kind (drop 16 whole) scn number) ≡ owner_in whole
unfolding number_in
owner_behind old whole scn number long =
    ap (λ (xs : List ℕ). number_of (take 4 xs)) (drop_same 16 (stamped old data_kind (drop 16 whole) scn number) whole (stamped_behind old whole 5 scn number long) 20 (omega arith))

-- so where the next page is named
pub linked_owner : (old : Page) (next scn number : ℕ) → 1024 ≤ length old → owner_in (stamped old data_kind (drop 16 (with_part 16 (bytes_of 4 next) old)) scn number) ≡ owner_in old
unfolding number_in
linked_owner old next scn number long = ap (λ (xs : List ℕ). number_of (take 4 xs)) (behind_next old next scn number long)

-- and the next page is that one
pub linked_next : (old : Page) (next scn number : ℕ) → 1024 ≤ length old → next < 4294967296 → next_in (stamped old data_kind (drop 16 (with_part 16 (bytes_of 4 next) old)) scn number) ≡ next
unfolding number_in
linked_next old next scn number long small =
    ap (λ (xs : List ℕ). number_of (take 4 xs)) (stamped_behind old (with_part 16 (bytes_of 4 next) old) 5 scn number (whole_long old next scn number long))
    ∙ number_in-with_part 16 4 next old (omega (arith, small)) (omega (arith, long))

-- of a new page
pub new_owner : (old : Page) (next owner : ℕ) (slots : List ℕ) (scn number : ℕ) → owner < 4294967296 → owner_in (stamped old data_kind (data_payload next owner slots) scn number) ≡ owner
unfolding stamped number_in data_payload padded
new_owner old next owner slots scn number small =
    let payload : List ℕ = data_payload next owner slots in
    let page : Page = stamped old data_kind payload scn number in
    let rest : List ℕ = (replicate 8 0 ++ slots) ++ replicate (length old - 16 - length payload) 0 in
    let four : length (bytes_of 4 next) ≡ 4 = length-bytes_of 4 next in
    let behind : drop 20 page ≡ bytes_of 4 owner ++ rest =
    sym (drop-drop 4 16 page) ∙ ap (drop 4) (drop-page_of (length old) 5 _ scn number payload)
    ∙ ap (drop 4) (append_assoc (bytes_of 4 next) (bytes_of 4 owner ++ (replicate 8 0 ++ slots)) (replicate (length old - 16 - length payload) 0))
    ∙ drop_at (bytes_of 4 next) ((bytes_of 4 owner ++ (replicate 8 0 ++ slots)) ++ replicate (length old - 16 - length payload) 0) 4 four
    ∙ append_assoc (bytes_of 4 owner) (replicate 8 0 ++ slots) (replicate (length old - 16 - length payload) 0) in
    ap (λ (xs : List ℕ). number_of (take 4 xs)) behind ∙ ap number_of (take_at (bytes_of 4 owner) rest 4 (length-bytes_of 4 owner)) ∙ number_of-bytes_of 4 owner (omega (arith, small))

-- and where a slot is written
pub written_owner : (slot : ℕ) (row : Slot) (page : Page) (scn number : ℕ) → length row ≡ 256 → 32 + 256 * slot + 256 ≤ length page
    → owner_in (stamped page data_kind (drop 16 (with_part (32 + 256 * slot) row page)) scn number) ≡ owner_in page
written_owner slot row page scn number long room =
    owner_behind page (with_part (32 + 256 * slot) row page) scn number (length-with_part (32 + 256 * slot) row page (omega (arith, long, room)))
    ∙ number_in-with_part_other (32 + 256 * slot) 256 20 4 row page long room (inr (omega arith))

-- the next page stays where a slot is written
pub written_next : (slot : ℕ) (row : Slot) (page : Page) (scn number : ℕ) → length row ≡ 256 → 32 + 256 * slot + 256 ≤ length page
    → next_in (stamped page data_kind (drop 16 (with_part (32 + 256 * slot) row page)) scn number) ≡ next_in page
unfolding number_in
written_next slot row page scn number long room =
    ap (λ (xs : List ℕ). number_of (take 4 xs)) (stamped_behind page (with_part (32 + 256 * slot) row page) 5 scn number (length-with_part (32 + 256 * slot) row page (omega (arith, long, room))))
    ∙ number_in-with_part_other (32 + 256 * slot) 256 16 4 row page long room (inr (omega arith))

-- One slot of a page is written.
pub record IsSlotWritten (slot : ℕ) (row : Slot) (old new : Page) : Type 0 where
  pub long : length new ≡ length old
  pub here : part (32 + 256 * slot) 256 new ≡ row
  pub others : (j : ℕ) → j ≢ slot → part (32 + 256 * j) 256 new ≡ part (32 + 256 * j) 256 old

pub slot_is_written : (slot : ℕ) (row : Slot) (page : Page) (scn number : ℕ) → length row ≡ 256 → 32 + 256 * slot + 256 ≤ length page
    → IsSlotWritten slot row page (stamped page data_kind (drop 16 (with_part (32 + 256 * slot) row page)) scn number)
slot_is_written slot row page scn number long room = record {
  long = stamped_long page (drop 16 whole) 5 scn number (omega (arith, room, length-drop 16 whole, whole_long));
  here = ap (take 256) (behind (32 + 256 * slot) (omega arith)) ∙ part-with_part (32 + 256 * slot) 256 row page long (omega (arith, room));
  others = λ j other. ap (take 256) (behind (32 + 256 * j) (omega arith)) ∙ part-with_part_other (32 + 256 * slot) 256 (32 + 256 * j) 256 row page long room (apart j other);
}
  where
    whole : Page
    whole = with_part (32 + 256 * slot) row page

    whole_long : length whole ≡ length page
    whole_long = length-with_part (32 + 256 * slot) row page (omega (arith, long, room))

    behind : (at : ℕ) → 16 ≤ at → drop at (stamped page data_kind (drop 16 whole) scn number) ≡ drop at whole
    behind at some = drop_same 16 (stamped page data_kind (drop 16 whole) scn number) whole (stamped_behind page whole 5 scn number whole_long) at some

    apart : (j : ℕ) → j ≢ slot → (32 + 256 * slot + 256 ≤ 32 + 256 * j) ⊎ (32 + 256 * j + 256 ≤ 32 + 256 * slot)
    apart j other = elim (leb_tells (suc slot) j) [
      | inl w ↦ inl (omega (arith, w.1))
      | inr w ↦ inr (omega (arith, w.1, other))
    ]

-- zeros use no slot
zeros_unused : (slot : Slot) → is_zeros slot ≡ true → is_used slot ≡ true → ⊥
zeros_unused [] zeros used = true≢false (sym used)
zeros_unused (b ∷ bs) zeros used = absurd (omega (arith, eqb-true b 0 (and_parts (b == 0) (is_zeros bs) zeros).0, eqb-true b 1 used))

pub front_zeros : (n : ℕ) (bytes : List ℕ) → is_zeros bytes ≡ true → is_zeros (take n bytes) ≡ true
front_zeros zero bytes zeros = refl
front_zeros (suc n) [] zeros = refl
front_zeros (suc n) (b ∷ bs) zeros = let parts = and_parts (b == 0) (is_zeros bs) zeros in and_from (b == 0) (is_zeros (take n bs)) parts.0 (front_zeros n bs parts.1)

pub rest_zeros : (n : ℕ) (bytes : List ℕ) → is_zeros bytes ≡ true → is_zeros (drop n bytes) ≡ true
rest_zeros zero bytes zeros = zeros
rest_zeros (suc n) [] zeros = refl
rest_zeros (suc n) (b ∷ bs) zeros = rest_zeros n bs (and_parts (b == 0) (is_zeros bs) zeros).1

-- What holds of a slot where it is used holds of each slot of a page that is zeros from the slots on.
module _ (P : Slot → Type 0) (page : Page) (zeros : is_zeros (drop 32 page) ≡ true) where
  zero_slots : (count at : ℕ) → 32 ≤ at → AllByRecursion (λ row. is_used row ≡ true → P row) (slots_from count at page)
  unfolding slots_from
  zero_slots zero at h = tt
  zero_slots (suc count) at h =
      let sum : 32 + (at - 32) ≡ at = omega (arith, h) in
      let none : is_zeros (drop at page) ≡ true = ap (λ (k : ℕ). is_zeros (drop k page)) (sym sum) ∙ ap is_zeros (sym (drop-drop (at - 32) 32 page)) ∙ rest_zeros (at - 32) (drop 32 page) zeros in
      (λ used. absurd (zeros_unused (part at 256 page) (front_zeros 256 (drop at page) none) used), zero_slots count (at + 256) (omega (arith, h)))

-- A new page of the history uses none.
pub new_slots : (P : Slot → Type 0) (old : Page) (scn number : ℕ) → AllByRecursion (λ row. is_used row ≡ true → P row) (slots_in (stamped old data_kind (data_payload 0 1 []) scn number))
unfolding slots_in stamped data_payload padded
new_slots P old scn number =
    let page : Page = stamped old data_kind (data_payload 0 1 []) scn number in
    let payload : List ℕ = data_payload 0 1 [] in
    let long : length payload ≡ 16 = omega (arith, length-append (bytes_of 4 0) (bytes_of 4 1 ++ (replicate 8 0 ++ [])), length-append (bytes_of 4 1) (replicate 8 0 ++ []), length-bytes_of 4 0, length-bytes_of 4 1) in
    let behind : drop 32 page ≡ replicate (length old - 16 - length payload) 0 =
    sym (drop-drop 16 16 page) ∙ ap (drop 16) (drop-page_of (length old) 5 _ scn number payload) ∙ drop_at payload (replicate (length old - 16 - length payload) 0) 16 long in
    zero_slots P page (ap is_zeros behind ∙ zeros-are (length old - 16 - length payload)) ((length page - 32) / 256) 32 (omega arith)

-- A row is written into a slot of a page: what holds of it, and of the slots before, holds of the slots then.
module _ (P : Slot → Type 0) (slot : ℕ) (row : Slot) (page : Page) (row_long : length row ≡ 256) (room : 32 + 256 * slot + 256 ≤ length page) (holds : P row) where
  abbrev with_row : Page
  with_row = with_part (32 + 256 * slot) row page

  row_slots : (count at j : ℕ) → at ≡ 32 + 256 * j → AllByRecursion P (slots_from count at page) → AllByRecursion P (slots_from count at with_row)
  unfolding slots_from
  row_slots zero at j e before = tt
  row_slots (suc count) at j e before = (one, row_slots count (at + 256) (suc j) (omega (arith, e)) before.1)
    where
      one : P (part at 256 with_row)
      one = elim (eqb_tells j slot) [
        | inl w ↦
            let here : at ≡ 32 + 256 * slot = omega (arith, e, w.1) in
            subst P (sym (ap (λ (k : ℕ). part k 256 with_row) here ∙ part-with_part (32 + 256 * slot) 256 row page row_long (omega (arith, room)))) holds
        | inr w ↦ subst P (sym (part-with_part_other (32 + 256 * slot) 256 at 256 row page row_long room (apart w.1))) before.0
      ]
        where
          apart : (j ≡ slot → ⊥) → (32 + 256 * slot + 256 ≤ at) ⊎ (at + 256 ≤ 32 + 256 * slot)
          apart other = elim (leb_tells (suc slot) j) [
            | inl w ↦ inl (omega (arith, w.1, e))
            | inr w ↦ inr (omega (arith, w.1, e, other))
          ]

  with_long : length with_row ≡ length page
  with_long = length-with_part (32 + 256 * slot) row page (omega (arith, row_long, room))

  rows_with_row : AllByRecursion P (slots_in page) → AllByRecursion P (slots_in with_row)
  unfolding slots_in
  rows_with_row before = subst (λ (k : ℕ). AllByRecursion P (slots_from ((k - 32) / 256) 32 with_row)) (sym with_long) (row_slots ((length page - 32) / 256) 32 0 (omega arith) before)

  pub rows_written : (scn number : ℕ) → AllByRecursion P (slots_in page) → AllByRecursion P (slots_in (stamped page data_kind (drop 16 with_row) scn number))
  rows_written scn number before =
      subst (AllByRecursion P)
      (sym (same_slots 16 (stamped page data_kind (drop 16 with_row) scn number) with_row (stamped_behind page with_row 5 scn number with_long) (omega arith)
      (stamped_long page (drop 16 with_row) 5 scn number (omega (arith, room, length-drop 16 with_row, with_long)) ∙ sym with_long)))
      (rows_with_row before)
