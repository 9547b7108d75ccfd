-- What the pages of a new database show.
use Rattle.std.proofs.Common.{◌≡◌, ℕ, zero, suc, ◌+◌, ◌-◌, ◌*◌, ◌/◌, ◌%◌, ◌^◌, ◌<◌, ◌≤◌, List, ◌∷◌, ◌++◌, length, get_or, take, drop, replicate, refl, sym, ap, ◌∙◌, ⊎_elim, arith, length-append, IsTrue}
use Rattle.nb_fields.proofs.Common.{bit_at, cases_lt, length-replicate, length-take-le, get_or-take, get_or_append_left, get_or-replicate, get_or_at, get_or-append_right, get_or-drop, drop-drop, bytes_of, number_of, number_in, padded, code_of, is_page_size, entries_in, bits_in, head_of, page_of, taken_bits, inventory_payload, same_entries, scn_payload, bit_of, entry_of, fresh_count, fresh_kind, fresh_payload, fresh_page, ShowsFresh}
use Rattle.std.proofs.lemmas.Nat.Bits.{bit_at-zero, bit_at_ones, bit_at_mask_below, bit_at_mask_inside}
use Rattle.nb_fields.proofs.NumberLaws.{number_of-bytes_of}
use Rattle.nb_fields.proofs.PageLaws.{kind_of-page_of, generation_of-page_of, stamp_of-page_of, number_of_page-page_of}
use Rattle.nb_fields.proofs.SizeLaws.{size_facts}
use Rattle.nb_fields.proofs.LengthLaws.{fresh_count-most}
use Rattle.nb_fields.proofs.PlaceLaws.{entries-least, bits-least, inventory_index, fresh_kind-inventory, fresh_kind-scn}

-- bits of which so many are taken
module _ (bytes taken : ℕ) where
  abbrev edge : ℕ
  edge = 256 - 2 ^ (taken % 8)

  abbrev row : List ℕ
  row = replicate (taken / 8) 0 ++ (edge ∷ replicate bytes 255)

  pub length-taken_bits : length (taken_bits bytes taken) ≡ bytes
  unfolding taken_bits
  length-taken_bits =
      length-take-le bytes row (omega (arith, length-append (replicate (taken / 8) 0) (edge ∷ replicate bytes 255), length-replicate {A = ℕ} (taken / 8) 0, length-replicate {A = ℕ} bytes 255))

  byte_below : (j : ℕ) → j < bytes → j < taken / 8 → get_or (taken_bits bytes taken) j 0 ≡ 0
  unfolding taken_bits
  byte_below j inside below =
      get_or-take bytes row j 0 inside
      ∙ get_or_append_left (replicate (taken / 8) 0) (edge ∷ replicate bytes 255) 0 j (omega (arith, length-replicate {A = ℕ} (taken / 8) 0))
      ∙ get_or-replicate (taken / 8) j 0 0 below

  byte_at : (j : ℕ) → j < bytes → j ≡ taken / 8 → get_or (taken_bits bytes taken) j 0 ≡ edge
  unfolding taken_bits
  byte_at j inside at = get_or-take bytes row j 0 inside ∙ get_or_at (replicate (taken / 8) 0) edge (replicate bytes 255) 0 j (length-replicate (taken / 8) 0 ∙ sym at)

  byte_above : (j : ℕ) → j < bytes → taken / 8 < j → get_or (taken_bits bytes taken) j 0 ≡ 255
  unfolding taken_bits
  byte_above j inside above =
      let i : ℕ = j - taken / 8 - 1 in
      let next : j - taken / 8 ≡ suc i = omega arith in
      get_or-take bytes row j 0 inside
      ∙ get_or-append_right (replicate (taken / 8) 0) (edge ∷ replicate bytes 255) (taken / 8) j 0 (length-replicate (taken / 8) 0) (omega arith)
      ∙ ap (λ m. get_or (edge ∷ replicate bytes 255) m 0) next
      ∙ get_or-replicate bytes i 255 0 (omega arith)

  pub taken_bits-taken : (i : ℕ) → i / 8 < bytes → i < taken → bit_at (get_or (taken_bits bytes taken) (i / 8) 0) (i % 8) ≡ 0
  taken_bits-taken i inside below = ⊎_elim
      (λ before. ap (λ b. bit_at b (i % 8)) (byte_below (i / 8) inside before) ∙ bit_at-zero (i % 8))
      (λ not_before. ap (λ b. bit_at b (i % 8)) (byte_at (i / 8) inside (omega arith)) ∙ bit_at_mask_below (taken % 8) 8 (i % 8) (omega arith))
      (cases_lt (i / 8) (taken / 8))

  pub taken_bits-free : (i : ℕ) → i / 8 < bytes → taken ≤ i → bit_at (get_or (taken_bits bytes taken) (i / 8) 0) (i % 8) ≡ 1
  taken_bits-free i inside past = ⊎_elim
      (λ after. ap (λ b. bit_at b (i % 8)) (byte_above (i / 8) inside after) ∙ bit_at_ones 8 (i % 8) (omega arith))
      (λ not_after. ap (λ b. bit_at b (i % 8)) (byte_at (i / 8) inside (omega arith)) ∙ bit_at_mask_inside (taken % 8) 8 (i % 8) (omega arith) (omega arith))
      (cases_lt (taken / 8) (i / 8))

-- an entry among entries that are all the same
same_entries-at : (scn n i : ℕ) (rest : List ℕ) → i < n → take 4 (drop (4 * i) (same_entries scn n ++ rest)) ≡ bytes_of 4 scn
unfolding same_entries bytes_of
same_entries-at scn zero i rest inside = absurd (omega arith)
same_entries-at scn (suc n) zero rest inside = refl
same_entries-at scn (suc n) (suc i) rest inside =
    ap (λ m. take 4 (drop m (same_entries scn (suc n) ++ rest))) (let e : 4 * suc i ≡ suc (suc (suc (suc (4 * i)))) = omega arith in e) ∙ same_entries-at scn n i rest (omega arith)

-- what stands from byte 32 on
module _ (size kind generation scn number : ℕ) where
  drop-inventory : (k taken : ℕ) → drop 32 (page_of size kind generation scn number (inventory_payload size k taken))
      ≡ taken_bits (size - 32) taken ++ replicate (size - 16 - length (inventory_payload size k taken)) 0
  unfolding page_of padded head_of bytes_of inventory_payload
  drop-inventory k taken = refl

  drop-scn : (k entry : ℕ) → drop 32 (page_of size kind generation scn number (scn_payload size k entry))
      ≡ same_entries entry (entries_in size) ++ replicate (size - 16 - length (scn_payload size k entry)) 0
  unfolding page_of padded head_of bytes_of scn_payload
  drop-scn k entry = refl

  pub bit_of-inventory : (k taken i : ℕ) → i / 8 < size - 32
      → bit_of (page_of size kind generation scn number (inventory_payload size k taken)) i ≡ bit_at (get_or (taken_bits (size - 32) taken) (i / 8) 0) (i % 8)
  bit_of-inventory k taken i inside =
      let page : List ℕ = page_of size kind generation scn number (inventory_payload size k taken) in
      let zeros : List ℕ = replicate (size - 16 - length (inventory_payload size k taken)) 0 in
      let len = length-taken_bits (size - 32) taken in
      let read : get_or page (32 + i / 8) 0 ≡ get_or (taken_bits (size - 32) taken) (i / 8) 0 =
      sym (get_or-drop 32 page (i / 8) 0) ∙ ap (λ xs. get_or xs (i / 8) 0) (drop-inventory k taken) ∙ get_or_append_left (taken_bits (size - 32) taken) zeros 0 (i / 8) (omega arith) in
      ap (λ b. bit_at b (i % 8)) read

  pub entry_of-scn : (k entry i : ℕ) → entry < 2 ^ 32 → i < entries_in size → entry_of (page_of size kind generation scn number (scn_payload size k entry)) i ≡ entry
  unfolding number_in
  entry_of-scn k entry i small inside =
      let page : List ℕ = page_of size kind generation scn number (scn_payload size k entry) in
      ap (λ xs. number_of (take 4 xs)) (sym (drop-drop (4 * i) 32 page) ∙ ap (drop (4 * i)) (drop-scn k entry))
      ∙ ap number_of (same_entries-at entry (entries_in size) i _ inside)
      ∙ number_of-bytes_of 4 entry small

-- the pages of a new database show what is meant
pub fresh_shows : (size raw p : ℕ) → IsTrue (is_page_size size) → raw ≤ 65535 → p < fresh_count size raw → ShowsFresh size raw p (fresh_page size raw p)
unfolding fresh_page fresh_payload
fresh_shows size raw p is few inside =
    let facts = size_facts size is in
    let most = fresh_count-most size raw in
    let kind : ℕ = code_of (fresh_kind size p) in
    let payload : List ℕ = fresh_payload size raw p (fresh_kind size p) in
    let some = bits-least size is in
    let some_entries = entries-least size is in
    record {
      kind = kind_of-page_of size kind 1 1 p payload;
      generation = generation_of-page_of size kind 1 1 p payload (omega arith);
      stamp = stamp_of-page_of size kind 1 1 p payload (omega arith);
      number = number_of_page-page_of size kind 1 1 p payload (omega arith);
      taken = λ q at below.
          let k : ℕ = q / bits_in size in
          let i : ℕ = q % bits_in size in
          let held : ℕ = fresh_count size raw - k * bits_in size in
          ap (λ w. bit_of (page_of size (code_of w) 1 1 p (fresh_payload size raw p w)) i) (fresh_kind-inventory size k p is at)
          ∙ ap (λ m. bit_of (page_of size 2 1 1 p (inventory_payload size m (fresh_count size raw - m * bits_in size))) i) (inventory_index size k p is at)
          ∙ bit_of-inventory size 2 1 1 p k held i (omega arith)
          ∙ taken_bits-taken (size - 32) held i (omega arith) (omega arith);
      free = λ q at past.
          let k : ℕ = q / bits_in size in
          let i : ℕ = q % bits_in size in
          let held : ℕ = fresh_count size raw - k * bits_in size in
          ap (λ w. bit_of (page_of size (code_of w) 1 1 p (fresh_payload size raw p w)) i) (fresh_kind-inventory size k p is at)
          ∙ ap (λ m. bit_of (page_of size 2 1 1 p (inventory_payload size m (fresh_count size raw - m * bits_in size))) i) (inventory_index size k p is at)
          ∙ bit_of-inventory size 2 1 1 p k held i (omega arith)
          ∙ taken_bits-free (size - 32) held i (omega arith) (omega arith);
      entries = λ q at.
          ap (λ w. entry_of (page_of size (code_of w) 1 1 p (fresh_payload size raw p w)) (q % entries_in size)) (fresh_kind-scn size (q / entries_in size) p is at)
          ∙ entry_of-scn size 10 1 1 p (p / entries_in size) 1 (q % entries_in size) (omega arith) (omega arith);
    }
