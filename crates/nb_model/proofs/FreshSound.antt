-- A new database is sound, and names no backup.
use Rattle.std.proofs.Common.{◌≡◌, inl, inr, ℕ, zero, suc, ◌+◌, ◌-◌, ◌*◌, ◌/◌, ◌%◌, ◌<◌, ◌≤◌, List, [], length, take, drop, replicate, refl, sym, ap, subst, ◌∙◌, arith, true, false, ◌==◌, IsTrue, if◌then◌else◌, slice_index}
use Rattle.nb_model.proofs.Common.{AllByRecursion, true≢false, cond-true, cond-false, ne_eqb, eq-eqb, eqb-true, and_parts, cases_lt, drop-drop, drop-replicate, PageKind, Header, Inventory, Data, Raw, ScnInventory, bytes_of, padded, part, guid_of, code_of, data_kind, is_page_size, entries_in, bits_in, inventory_place, scn_place, is_inventory_place, is_scn_place, head_of, page_of, kind_of, control_block, header_payload, inventory_payload, scn_payload, data_payload, bit_of, entry_of, fresh_count, fresh_kind, fresh_payload, fresh_page, fresh, ShowsFresh, fresh_count-most, fresh_shows, length-taken_bits, fresh_kind-scn, Page, page_at, image_size, image_guid, Kept, Slot, is_used, slots_from, slots_in, GoesOn, IsRemembered, NamesItsPast, is_history_page, scn_page_of, scn_entry, is_free_page, IsOfSize, HasSystemPages, HasBitsBelow, HasEntries, HasStamps, IsSoundImage}
use Rattle.nb_model.proofs.FreshImageLaws.{length-same_entries, fresh_count-least, fresh_length, fresh_page_at, fresh_first, fresh_size, fresh_scn, fresh_no_zeros, fresh_sizes}
use Rattle.nb_model.proofs.SoundLaws.{inventory_behind, scn_place_of, scn_place_before}

-- what stands at the system places
pub kind_inventory : (size p : ℕ) → IsTrue (is_page_size size) → is_inventory_place size p ≡ true → fresh_kind size p ≡ Inventory
unfolding fresh_kind
kind_inventory size p is at = cond-false (p == 0) _ _ (ne_eqb p 0 (inventory_behind size p is at)) ∙ cond-true (is_inventory_place size p) _ _ at

pub kind_scn : (size p : ℕ) → IsTrue (is_page_size size) → is_scn_place size p ≡ true → fresh_kind size p ≡ ScnInventory
kind_scn size p is at = fresh_kind-scn size (p / entries_in size) p is (scn_place_of size p is at)

-- how long the payload of a system page is
pub inventory_length : (size k taken : ℕ) → length (inventory_payload size k taken) ≡ 16 + (size - 32)
unfolding inventory_payload bytes_of
inventory_length size k taken = let h = length-taken_bits (size - 32) taken in omega arith

pub scn_length : (size k scn : ℕ) → length (scn_payload size k scn) ≡ 16 + 4 * entries_in size
unfolding scn_payload bytes_of
scn_length size k scn = let h = length-same_entries scn (entries_in size) in omega arith

-- no backup is named
pub header_guid : (size raw : ℕ) → guid_of (fresh_page size raw 0) ≡ replicate 16 0
unfolding fresh_page fresh_kind fresh_payload page_of head_of padded header_payload control_block bytes_of
header_guid size raw = refl

-- slots of zeros are free
free_first : (m : ℕ) → slice_index (take 256 (replicate {A = ℕ} m 0)) 0 ≡ 0
free_first zero = refl
free_first (suc m) = refl

all_free : (X : Slot → Type 0) (page : Page) (n count at : ℕ) → drop 32 page ≡ replicate n 0 → 32 ≤ at → AllByRecursion (λ row. is_used row ≡ true → X row) (slots_from count at page)
unfolding slots_from
all_free X page n zero at zeros behind = tt
all_free X page n (suc count) at zeros behind =
    let place : 32 + (at - 32) ≡ at = omega arith in
    let rest : drop at page ≡ replicate (n - (at - 32)) 0 = ap (λ (k : ℕ). drop k page) (sym place) ∙ sym (drop-drop (at - 32) 32 page) ∙ ap (drop (at - 32)) zeros ∙ drop-replicate (at - 32) n 0 in
    let first : slice_index (part at 256 page) 0 ≡ 0 = ap (λ (bytes : List ℕ). slice_index (take 256 bytes) 0) rest ∙ free_first (n - (at - 32)) in (
      λ used. let one = eqb-true (slice_index (part at 256 page) 0) 1 used in absurd (omega arith),
      all_free X page n count (at + 256) zeros (omega arith),
    )

-- a page of data begins without a slot
data_rest : (size p owner : ℕ) → drop 32 (page_of size 5 1 1 p (data_payload 0 owner [])) ≡ replicate (size - 16 - 16) 0
unfolding page_of head_of padded data_payload bytes_of
data_rest size p owner = refl

kind_data : (kind : PageKind) → code_of kind ≡ 5 → kind ≡ Data
kind_data Header e = absurd (omega arith)
kind_data Inventory e = absurd (omega arith)
kind_data Data e = refl
kind_data Raw e = absurd (omega arith)
kind_data ScnInventory e = absurd (omega arith)

pub fresh_rest : (size raw p : ℕ) → code_of (fresh_kind size p) ≡ 5 → drop 32 (fresh_page size raw p) ≡ replicate (size - 16 - 16) 0
unfolding fresh_page fresh_payload
fresh_rest size raw p e =
    ap (λ (kind : PageKind). drop 32 (page_of size (code_of kind) 1 1 p (fresh_payload size raw p kind))) (kind_data (fresh_kind size p) e) ∙ data_rest size p (if p == 4 then 1 else 0)

history_kind : (page : Page) → is_history_page page ≡ true → kind_of page ≡ data_kind
unfolding is_history_page
history_kind page is = eqb-true (kind_of page) 5 (and_parts (kind_of page == data_kind) _ is).0

module _ (size raw : ℕ) (is : IsTrue (is_page_size size)) (few : raw ≤ 65535) where
  pub size_is : image_size (fresh size raw) ≡ size
  size_is = fresh_size size raw is

  pub fresh_at : (p : ℕ) → p < length (fresh size raw) → page_at (fresh size raw) p ≡ fresh_page size raw p
  fresh_at p low = fresh_page_at size raw p (omega (arith, fresh_length size raw))

  fresh_guid : image_guid (fresh size raw) ≡ replicate 16 0
  fresh_guid = ap guid_of (fresh_first size raw) ∙ header_guid size raw

  -- what each page shows
  pub shows : (p : ℕ) → p < length (fresh size raw) → ShowsFresh size raw p (page_at (fresh size raw) p)
  shows p low = subst (ShowsFresh size raw p) (sym (fresh_at p low)) (fresh_shows size raw p is few (omega (arith, fresh_length size raw)))

  of_size : IsOfSize (image_size (fresh size raw)) (fresh size raw)
  of_size = subst (λ (s : ℕ). IsOfSize s (fresh size raw)) (sym size_is) (fresh_sizes size raw is)

  system : HasSystemPages (fresh size raw)
  system = record {
    inventories = λ p low at. (shows p low).kind ∙ ap code_of (kind_inventory size p is (subst (λ (s : ℕ). is_inventory_place s p ≡ true) size_is at));
    scn_pages = λ p low at. (shows p low).kind ∙ ap code_of (kind_scn size p is (subst (λ (s : ℕ). is_scn_place s p ≡ true) size_is at));
  }

  -- the facts on bits and entries, for a page size
  abbrev BitsBelow : ℕ → Type 0
  BitsBelow s = (p : ℕ) → inventory_place s (p / bits_in s) < length (fresh size raw) → (bit_of (page_at (fresh size raw) (inventory_place s (p / bits_in s))) (p % bits_in s) == 1) ≡ false → p < length (fresh size raw)

  taken_below : BitsBelow size
  taken_below p low taken = elim (cases_lt p (fresh_count size raw)) [
    | inl below ↦ omega (arith, fresh_length size raw)
    | inr past ↦
        let free = (shows (inventory_place size (p / bits_in size)) low).free p refl past in
        absurd (true≢false (sym (eq-eqb _ 1 free) ∙ taken))
  ]

  bits : HasBitsBelow (fresh size raw)
  unfolding is_free_page
  bits = subst BitsBelow (sym size_is) taken_below

  abbrev EntryThere : ℕ → Type 0
  EntryThere s = (p : ℕ) → p < length (fresh size raw) → scn_place s (p / entries_in s) < length (fresh size raw)

  entry_there : EntryThere size
  entry_there p low =
      let least = fresh_count-least size raw in
      elim (scn_place_before size p is) [ inl second ↦ omega (arith, fresh_length size raw) | inr before ↦ omega arith ]

  abbrev EntryIs : ℕ → Type 0
  EntryIs s = (p : ℕ) → scn_place s (p / entries_in s) < length (fresh size raw) → entry_of (page_at (fresh size raw) (scn_place s (p / entries_in s))) (p % entries_in s) ≡ 1

  entry_is : EntryIs size
  entry_is p low = (shows (scn_place size (p / entries_in size)) low).entries p refl

  entry_one : (p : ℕ) → scn_page_of (fresh size raw) p < length (fresh size raw) → scn_entry (fresh size raw) p ≡ 1
  unfolding scn_entry
  entry_one = subst EntryIs (sym size_is) entry_is

  page_there : (p : ℕ) → p < length (fresh size raw) → scn_page_of (fresh size raw) p < length (fresh size raw)
  page_there = subst EntryThere (sym size_is) entry_there

  entries : HasEntries (fresh size raw)
  entries = record {
    there = λ p low has. page_there p low;
    no_lower = λ p low has. omega (arith, (shows p low).stamp, entry_one p (page_there p low));
    no_later = λ p low has. omega (arith, entry_one p low, fresh_scn size raw);
  }

  stamps : HasStamps (fresh size raw)
  stamps = record {
    no_later = λ p low. omega (arith, (shows p low).stamp, fresh_scn size raw);
    head = (shows 0 (let least = fresh_count-least size raw in omega (arith, fresh_length size raw))).stamp ∙ sym (fresh_scn size raw);
  }

  -- a new database is sound
  pub fresh_sound : IsSoundImage (fresh size raw)
  fresh_sound =
      let least = fresh_count-least size raw in
      let most = fresh_count-most size raw in
      record {
        sound = record { no_zeros = fresh_no_zeros size raw; system = system; bits = bits; entries = entries; stamps = stamps };
        least = omega (arith, fresh_length size raw);
        most = omega (arith, fresh_length size raw);
        sizes = of_size;
      }

  -- it names no backup
  pub fresh_past : (kept : List Kept) → NamesItsPast kept (fresh size raw)
  unfolding slots_in
  fresh_past kept = record {
    rows = λ p low history.
        let page : Page = page_at (fresh size raw) p in
        let kind : code_of (fresh_kind size p) ≡ 5 = sym (shows p low).kind ∙ history_kind page history in
        let rest : drop 32 page ≡ replicate (size - 16 - 16) 0 = ap (drop 32) (fresh_at p low) ∙ fresh_rest size raw p kind in
        all_free (IsRemembered kept (λ r. GoesOn r (fresh size raw))) page (size - 16 - 16) ((length page - 32) / 256) 32 rest (omega arith);
    last = λ some. absurd (some fresh_guid);
  }
