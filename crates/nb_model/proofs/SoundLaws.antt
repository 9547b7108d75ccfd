-- What keeps an image sound: each page stroke of a page that fits at its place.
use Rattle.std.proofs.Common.{◌≡◌, ◌≢◌, ◌⊎◌, inl, inr, ℕ, zero, suc, ◌+◌, ◌-◌, ◌*◌, ◌/◌, ◌%◌, ◌<◌, ◌≤◌, List, [], ◌∷◌, length, take, refl, sym, ap, subst, ◌∙◌, arith, length-append, length-set, Bool, true, false, ◌==◌, ◌||◌, ◌&&◌, nat_le, nat_lt, max, IsTrue}
use Rattle.nb_model.proofs.Common.{AllByRecursion, mul-mod_left, mod-eq_of_lt, div-eq_of_lt, true≢false, eq-eqb, eqb-true, lt-ltb, ltb-true, or_right, or_cases, and_left, and_from, and_parts, eqb_tells, leb_tells, part, number_in, is_zeros, is_marked, is_header, is_page_size, entries_in, bits_in, inventory_place, scn_place, is_inventory_place, is_scn_place, most_pages, head_of, page_of, kind_of, stamp_of, bit_of, entry_of, is_header-take, number_in-take, part-take, entries-least, bits-least, header_kind, inventory_kind, scn_kind, Page, Image, page_at, first_page, image_size, image_state, image_scn, image_guid, with_page, inventory_of, scn_page_of, bit_number, entry_number, scn_entry, is_free_page, has_entry, IsOfSize, HasSystemPages, HasBitsBelow, HasEntries, HasStamps, IsSoundImage}
use Rattle.nb_model.proofs.StrokeLaws.{with_page_same, with_page_other}

-- what holds of each page holds of the list, and back
pub all_from : (P : Page → Type 0) (image : Image) → ((p : ℕ) → p < length image → P (page_at image p)) → AllByRecursion P image
all_from P [] h = tt
all_from P (x ∷ xs) h = (h 0 (omega arith), all_from P xs (λ p low. h (suc p) (omega arith)))

pub all_at : (P : Page → Type 0) (image : Image) → AllByRecursion P image → (p : ℕ) → p < length image → P (page_at image p)
all_at P [] h p low = absurd (omega arith)
all_at P (x ∷ xs) h zero low = h.0
all_at P (x ∷ xs) h (suc p) low = all_at P xs h.1 p (omega arith)

-- an inventory page stands at the place of its number
pub inventory_there : (size k : ℕ) → IsTrue (is_page_size size) → is_inventory_place size (inventory_place size k) ≡ true
unfolding is_inventory_place
inventory_there size zero is = refl
inventory_there size (suc k) is =
    let least = bits-least size is in
    let p : ℕ = suc k * bits_in size - 1 in
    let more : bits_in size ≤ suc k * bits_in size = omega arith in
    let next : p + 1 ≡ suc k * bits_in size = omega arith in
    or_right (p == 1) ((p + 1) % bits_in size == 0) (eq-eqb ((p + 1) % bits_in size) 0 (ap (λ n. n % bits_in size) next ∙ mul-mod_left (suc k) (bits_in size)))

pub scn_page_there : (size k : ℕ) → IsTrue (is_page_size size) → is_scn_place size (scn_place size k) ≡ true
unfolding is_scn_place
scn_page_there size zero is = refl
scn_page_there size (suc k) is =
    let least = entries-least size is in
    let p : ℕ = suc k * entries_in size in
    let more : entries_in size ≤ p = omega arith in
    or_right (p == 2) (nat_lt 0 p && p % entries_in size == 0) (and_from (nat_lt 0 p) (p % entries_in size == 0) (lt-ltb 0 p (omega arith)) (eq-eqb (p % entries_in size) 0 (mul-mod_left (suc k) (entries_in size))))

-- no inventory page is page 0, and no SCN page is
pub inventory_place_some : (size k : ℕ) → IsTrue (is_page_size size) → 1 ≤ inventory_place size k
inventory_place_some size zero is = omega arith
inventory_place_some size (suc k) is =
    let least = bits-least size is in
    let more : bits_in size ≤ suc k * bits_in size = omega arith in
    omega arith

pub inventory_behind : (size p : ℕ) → IsTrue (is_page_size size) → is_inventory_place size p ≡ true → p ≢ 0
unfolding is_inventory_place
inventory_behind size p is at e =
    let least = bits-least size is in
    let one : 1 < bits_in size = omega arith in
    let rest : (p + 1) % bits_in size ≡ 1 = ap (λ n. (n + 1) % bits_in size) e ∙ mod-eq_of_lt one in
    elim (or_cases (p == 1) ((p + 1) % bits_in size == 0) at) [
      | inl first ↦ let is_one = eqb-true p 1 first in absurd (omega arith)
      | inr whole ↦ let none = eqb-true ((p + 1) % bits_in size) 0 whole in absurd (omega arith)
    ]

pub scn_page_behind : (size p : ℕ) → is_scn_place size p ≡ true → p ≢ 0
unfolding is_scn_place
scn_page_behind size p at e = true≢false (sym at ∙ ap (is_scn_place size) e)

-- an SCN page stands where its number says
pub scn_place_of : (size p : ℕ) → IsTrue (is_page_size size) → is_scn_place size p ≡ true → scn_place size (p / entries_in size) ≡ p
unfolding is_scn_place
scn_place_of size p is at =
    let least = entries-least size is in
    elim (or_cases (p == 2) (nat_lt 0 p && p % entries_in size == 0) at) [
      | inl second ↦
          let two : p ≡ 2 = eqb-true p 2 second in
          let small : p < entries_in size = omega arith in
          let first : p / entries_in size ≡ 0 = div-eq_of_lt small in
          ap (scn_place size) first ∙ sym two
      | inr behind ↦
          let parts = and_parts (nat_lt 0 p) (p % entries_in size == 0) behind in
          let some : 0 < p = ltb-true 0 p parts.0 in
          let none : p % entries_in size ≡ 0 = eqb-true (p % entries_in size) 0 parts.1 in
          whole (p / entries_in size) some (omega arith)
    ]
  where
    whole : (k : ℕ) → 0 < p → k * entries_in size ≡ p → scn_place size k ≡ p
    whole zero some e = absurd (omega arith)
    whole (suc k) some e = e

-- the SCN page of a page stands before it, or is page 2
pub scn_place_before : (size p : ℕ) → IsTrue (is_page_size size) → (scn_place size (p / entries_in size) ≡ 2) ⊎ (scn_place size (p / entries_in size) ≤ p)
scn_place_before size p is =
    let least = entries-least size is in
    let low : p / entries_in size * entries_in size ≤ p = omega arith in
    by_index (p / entries_in size) low
  where
    by_index : (k : ℕ) → k * entries_in size ≤ p → (scn_place size k ≡ 2) ⊎ (scn_place size k ≤ p)
    by_index zero low = inl refl
    by_index (suc k) low = inr low

-- a page whose first byte is no zero
pub page_no_zeros : (size kind generation scn number : ℕ) (payload : List ℕ) → (kind == 0) ≡ false → is_zeros (page_of size kind generation scn number payload) ≡ false
unfolding page_of head_of
page_no_zeros size kind generation scn number payload some = and_left (kind == 0) _ some

-- how long the image is with a page written
pub with_page_length : (p : ℕ) (bytes : Page) (image : Image) → p ≤ length image → length (with_page p bytes image) ≡ max (length image) (p + 1)
unfolding with_page
with_page_length p bytes image low = elim (leb_tells (suc p) (length image)) [
  | inl w ↦ rw (w.0, with_page) (omega (arith, w.1, length-set image p bytes))
  | inr w ↦ rw (w.0, with_page) (omega (arith, w.1, length-append image (bytes ∷ [])))
]

-- a header's page is of kind 1
pub kind_of_header : (first : Page) → is_header first ≡ true → kind_of first ≡ header_kind
unfolding is_header is_marked
kind_of_header first is =
    let marked = (and_parts (is_marked first) _ (and_parts (nat_le 64 (length first)) _ is).1).0 in
    eqb-true (kind_of first) 1 (and_parts _ _ (and_parts _ _ (and_parts _ _ marked).0).0).0

-- the header names a page size, and its SCN has four bytes
pub record HasFields (image : Image) : Type 0 where
  pub size : IsTrue (is_page_size (image_size image))
  pub scn : image_scn image < 4294967296

-- What may be written at a place: a page stamped with the current SCN, whose own entry is current. Page 0 keeps its first 64
-- bytes. A system page takes no bit past the length, and lowers no entry.
pub record FitsAt (image : Image) (p : ℕ) (bytes : Page) : Type 0 where
  pub head : p ≡ 0 → take 64 bytes ≡ take 64 (first_page image)
  pub there : p ≤ length image
  pub most : p < most_pages
  pub size : length bytes ≡ image_size image
  pub no_zeros : is_zeros bytes ≡ false
  pub stamp : stamp_of bytes ≡ image_scn image
  pub inventory : is_inventory_place (image_size image) p ≡ true → kind_of bytes ≡ inventory_kind
  pub scn_page : is_scn_place (image_size image) p ≡ true → kind_of bytes ≡ scn_kind
  pub bits : (q : ℕ) → inventory_of image q ≡ p → (bit_of bytes (bit_number image q) == 1) ≡ false → q < length image
  pub current : has_entry image p ≡ true → scn_entry image p ≡ image_scn image
  pub no_lower : (q : ℕ) → scn_page_of image q ≡ p → has_entry image q ≡ true → q < length image → scn_entry image q ≤ entry_of bytes (entry_number image q)
  pub no_later : (q : ℕ) → scn_page_of image q ≡ p → has_entry image q ≡ true → entry_of bytes (entry_number image q) ≤ image_scn image

-- an SCN page has no entry of its own
pub scn_no_entry : (image : Image) (p : ℕ) → is_scn_place (image_size image) p ≡ true → has_entry image p ≡ false
unfolding has_entry
scn_no_entry image p at = ap (λ (t : Bool). elim t as (λ z. Bool) [ true ↦ false | false ↦ true ]) (or_right (p == 0) (is_scn_place (image_size image) p) at)

module _ (image : Image) (p : ℕ) (bytes : Page) (fields : HasFields image) (is : IsSoundImage image) (fits : FitsAt image p bytes) where
  abbrev new : Image
  new = with_page p bytes image

  written_here : page_at new p ≡ bytes
  written_here = with_page_same p bytes image fits.there

  pub written_other : (q : ℕ) → q ≢ p → page_at new q ≡ page_at image q
  written_other q other = with_page_other p q bytes image fits.there other

  longer : length new ≡ max (length image) (p + 1)
  longer = with_page_length p bytes image fits.there

  -- the header's fields stay
  pub head_stays : take 64 (first_page new) ≡ take 64 (first_page image)
  head_stays = elim (eqb_tells p 0) [
    | inl w ↦ ap (λ (n : ℕ). take 64 (page_at new n)) (sym w.1) ∙ ap (take 64) written_here ∙ fits.head w.1
    | inr w ↦ ap (take 64) (written_other 0 (λ e. w.1 (sym e)))
  ]

  pub header_stays : is_header (first_page new) ≡ is_header (first_page image)
  header_stays = sym (is_header-take (first_page new)) ∙ ap is_header head_stays ∙ is_header-take (first_page image)

  number_stays : (at w : ℕ) → at + w ≤ 64 → number_in at w (first_page new) ≡ number_in at w (first_page image)
  number_stays at w inside = sym (number_in-take 64 at w (first_page new) inside) ∙ ap (number_in at w) head_stays ∙ number_in-take 64 at w (first_page image) inside

  pub size_stays : image_size new ≡ image_size image
  size_stays = number_stays 24 4 (omega arith)

  pub scn_stays : image_scn new ≡ image_scn image
  scn_stays = number_stays 28 4 (omega arith)

  pub state_stays : image_state new ≡ image_state image
  state_stays = number_stays 22 2 (omega arith)

  pub guid_stays : image_guid new ≡ image_guid image
  guid_stays = sym (part-take 64 32 16 (first_page new) (omega arith)) ∙ ap (part 32 16) head_stays ∙ part-take 64 32 16 (first_page image) (omega arith)

  pub fields_stay : HasFields new
  fields_stay = record {
    size = subst (λ (s : ℕ). IsTrue (is_page_size s)) (sym size_stays) fields.size;
    scn = subst (λ (n : ℕ). n < 4294967296) (sym scn_stays) fields.scn;
  }

  -- what holds of the page written and of the others
  each : (P : Page → Type 0) → P bytes → AllByRecursion P image → AllByRecursion P new
  each P now before = all_from P new (λ q low. elim (eqb_tells q p) [
    | inl w ↦ subst P (sym (ap (page_at new) w.1 ∙ written_here)) now
    | inr w ↦ subst P (sym (written_other q w.1)) (all_at P image before q (omega (arith, longer, w.1)))
  ])

  system_stays : HasSystemPages new
  system_stays = record {
    inventories = λ q low at.
        let place : is_inventory_place (image_size image) q ≡ true = subst (λ (s : ℕ). is_inventory_place s q ≡ true) size_stays at in
        elim (eqb_tells q p) [
          | inl w ↦ ap kind_of (ap (page_at new) w.1 ∙ written_here) ∙ fits.inventory (subst (λ (n : ℕ). is_inventory_place (image_size image) n ≡ true) w.1 place)
          | inr w ↦ ap kind_of (written_other q w.1) ∙ is.sound.system.inventories q (omega (arith, longer, w.1)) place
        ];
    scn_pages = λ q low at.
        let place : is_scn_place (image_size image) q ≡ true = subst (λ (s : ℕ). is_scn_place s q ≡ true) size_stays at in
        elim (eqb_tells q p) [
          | inl w ↦ ap kind_of (ap (page_at new) w.1 ∙ written_here) ∙ fits.scn_page (subst (λ (n : ℕ). is_scn_place (image_size image) n ≡ true) w.1 place)
          | inr w ↦ ap kind_of (written_other q w.1) ∙ is.sound.system.scn_pages q (omega (arith, longer, w.1)) place
        ];
  }

  -- where bits and entries stand goes by the page size alone
  inventory_stays : (q : ℕ) → inventory_of new q ≡ inventory_of image q
  inventory_stays q = ap (λ (s : ℕ). inventory_place s (q / bits_in s)) size_stays

  free_now : (q : ℕ) → is_free_page new q ≡ (bit_of (page_at new (inventory_of image q)) (bit_number image q) == 1)
  unfolding is_free_page
  free_now q = ap (λ (s : ℕ). bit_of (page_at new (inventory_place s (q / bits_in s))) (q % bits_in s) == 1) size_stays

  free_before : (q : ℕ) → inventory_of image q ≢ p → (bit_of (page_at new (inventory_of image q)) (bit_number image q) == 1) ≡ is_free_page image q
  unfolding is_free_page
  free_before q other = ap (λ (page : Page). bit_of page (bit_number image q) == 1) (written_other (inventory_of image q) other)

  bits_stay : HasBitsBelow new
  bits_stay q low taken =
      let now : (bit_of (page_at new (inventory_of image q)) (bit_number image q) == 1) ≡ false = sym (free_now q) ∙ taken in
      let inside : inventory_of image q < length new = subst (λ (n : ℕ). n < length new) (inventory_stays q) low in
      elim (eqb_tells (inventory_of image q) p) [
        | inl w ↦
            let at : page_at new (inventory_of image q) ≡ bytes = ap (page_at new) w.1 ∙ written_here in
            let below = fits.bits q w.1 (ap (λ (page : Page). bit_of page (bit_number image q) == 1) (sym at) ∙ now) in
            omega (arith, longer)
        | inr w ↦
            let below = is.sound.bits q (omega (arith, longer, w.1)) (sym (free_before q w.1) ∙ now) in
            omega (arith, longer)
      ]

  pub has_stays : (q : ℕ) → has_entry new q ≡ has_entry image q
  unfolding has_entry
  has_stays q = ap (λ (s : ℕ). elim (q == 0 || is_scn_place s q) as (λ z. Bool) [ true ↦ false | false ↦ true ]) size_stays

  pub scn_page_stays : (q : ℕ) → scn_page_of new q ≡ scn_page_of image q
  scn_page_stays q = ap (λ (s : ℕ). scn_place s (q / entries_in s)) size_stays

  entry_now : (q : ℕ) → scn_entry new q ≡ entry_of (page_at new (scn_page_of image q)) (entry_number image q)
  unfolding scn_entry
  entry_now q = ap (λ (s : ℕ). entry_of (page_at new (scn_place s (q / entries_in s))) (q % entries_in s)) size_stays

  pub entry_here : (q : ℕ) → scn_page_of image q ≡ p → scn_entry new q ≡ entry_of bytes (entry_number image q)
  entry_here q at = entry_now q ∙ ap (λ (page : Page). entry_of page (entry_number image q)) (ap (page_at new) at ∙ written_here)

  pub entry_other : (q : ℕ) → scn_page_of image q ≢ p → scn_entry new q ≡ scn_entry image q
  unfolding scn_entry
  entry_other q other = entry_now q ∙ ap (λ (page : Page). entry_of page (entry_number image q)) (written_other (scn_page_of image q) other)

  -- the page of an SCN page isn't one whose entry it has
  pub not_itself : (q : ℕ) → scn_page_of image q ≡ p → has_entry image q ≡ true → q ≢ p
  not_itself q at has same =
      let place : is_scn_place (image_size image) q ≡ true = subst (λ (n : ℕ). is_scn_place (image_size image) n ≡ true) (at ∙ sym same) (scn_page_there (image_size image) (q / entries_in (image_size image)) fields.size) in
      true≢false (sym has ∙ scn_no_entry image q place)

  entry_there : (q : ℕ) → q < length new → scn_page_of new q < length new
  entry_there q low =
      let least = is.least in
      let page : scn_page_of new q ≡ scn_page_of image q = scn_page_stays q in
      elim (scn_place_before (image_size image) q fields.size) [ inl second ↦ omega (arith, longer) | inr before ↦ omega arith ]

  entry_no_lower : (q : ℕ) → q < length new → has_entry image q ≡ true → stamp_of (page_at new q) ≤ scn_entry new q
  entry_no_lower q low has = elim (eqb_tells (scn_page_of image q) p) [
    | inl w ↦
        let other : q ≢ p = not_itself q w.1 has in
        let stamp : stamp_of (page_at new q) ≡ stamp_of (page_at image q) = ap stamp_of (written_other q other) in
        let inside : q < length image = omega (arith, longer, other) in
        omega (arith, is.sound.entries.no_lower q inside has, fits.no_lower q w.1 has inside, entry_here q w.1)
    | inr w ↦ elim (eqb_tells q p) [
      | inl v ↦
          let stamp : stamp_of (page_at new q) ≡ image_scn image = ap stamp_of (ap (page_at new) v.1 ∙ written_here) ∙ fits.stamp in
          let current : scn_entry image q ≡ image_scn image = ap (scn_entry image) v.1 ∙ fits.current (subst (λ (n : ℕ). has_entry image n ≡ true) v.1 has) in
          omega (arith, entry_other q w.1)
      | inr v ↦
          let stamp : stamp_of (page_at new q) ≡ stamp_of (page_at image q) = ap stamp_of (written_other q v.1) in
          omega (arith, is.sound.entries.no_lower q (omega (arith, longer, v.1)) has, entry_other q w.1)
    ]
  ]

  entry_no_later : (q : ℕ) → scn_page_of new q < length new → has_entry image q ≡ true → scn_entry new q ≤ image_scn image
  entry_no_later q low has =
      let inside : scn_page_of image q < length new = subst (λ (n : ℕ). n < length new) (scn_page_stays q) low in
      elim (eqb_tells (scn_page_of image q) p) [
        | inl w ↦ omega (arith, fits.no_later q w.1 has, entry_here q w.1)
        | inr w ↦ omega (arith, is.sound.entries.no_later q (omega (arith, longer, w.1)) has, entry_other q w.1)
      ]

  entries_stay : HasEntries new
  entries_stay = record {
    there = λ q low has. entry_there q low;
    no_lower = λ q low has. entry_no_lower q low (sym (has_stays q) ∙ has);
    no_later = λ q low has. omega (arith, entry_no_later q low (sym (has_stays q) ∙ has), scn_stays);
  }

  stamps_stay : HasStamps new
  stamps_stay = record {
    no_later = λ q low. elim (eqb_tells q p) [
      | inl w ↦
          let stamp : stamp_of (page_at new q) ≡ image_scn image = ap stamp_of (ap (page_at new) w.1 ∙ written_here) ∙ fits.stamp in
          omega (arith, scn_stays)
      | inr w ↦
          let stamp : stamp_of (page_at new q) ≡ stamp_of (page_at image q) = ap stamp_of (written_other q w.1) in
          omega (arith, is.sound.stamps.no_later q (omega (arith, longer, w.1)), scn_stays)
    ];
    head = number_stays 8 4 (omega arith) ∙ is.sound.stamps.head ∙ sym scn_stays;
  }

  -- a page that fits keeps the image sound
  pub page_sound : IsSoundImage (with_page p bytes image)
  page_sound = record {
    sound = record {
      no_zeros = each (λ page. is_zeros page ≡ false) fits.no_zeros is.sound.no_zeros;
      system = system_stays;
      bits = bits_stay;
      entries = entries_stay;
      stamps = stamps_stay;
    };
    least = let least = is.least in omega (arith, longer);
    most = let most = is.most in let place = fits.most in omega (arith, longer);
    sizes = subst (λ (s : ℕ). IsOfSize s new) (sym size_stays) (each (λ page. length page ≡ image_size image) fits.size is.sizes);
  }
