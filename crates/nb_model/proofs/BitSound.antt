-- Each stroke that takes a page or gives it back fits at its point.
use Rattle.std.proofs.Common.{◌≡◌, inl, inr, ℕ, ◌+◌, ◌/◌, ◌%◌, ◌<◌, ◌≤◌, length, drop, refl, sym, ap, subst, ◌∙◌, arith, length-drop, Bool, true, false, not, ◌==◌, nat_lt, None}
use Rattle.nb_model.proofs.Common.{true≢false, and_parts, ltb-true, eqb_tells, entries_in, bits_in, inventory_place, is_scn_place, kind_of, stamped, bit_of, SizeFacts, size_facts, bits-least, inventory_kind, scn_kind, Page, Image, page_at, image_size, image_scn, Base, Draft, drafted, old_page, needs, is_kind, inventory_of, scn_page_of, bit_number, is_free_page, with_bit, set_bit, give_page, not_raw, not_kind, IsSoundImage, HasHeader}
use Rattle.nb_model.proofs.SoundLaws.{all_at, inventory_there, inventory_place_some, scn_page_there, HasFields, FitsAt}
use Rattle.nb_model.proofs.FitLaws.{IsWhole, Fits, fits_first, fits_needs}
use Rattle.nb_model.proofs.PutSound.{IsPlace, Raises, IsPut, header_whole, needs_image, old_length, now_length, now_some, now_stamp, now_kind, put_fits, raw_facts, no_first, not_when}
use Rattle.nb_model.proofs.BitLaws.{bit_else, with_bit_length, bit_behind, one_bit}

-- The inventory page of page p with its bit written, once the entry of that inventory page is raised.
module _ (image x : Image) (p bit : ℕ) (fields : HasFields image) (is : IsSoundImage image) (fields_x : HasFields x) (is_x : IsSoundImage x)
    (raises : Raises image x (inventory_of image p)) (low : p < length image) (there : inventory_of image p < length image) (small : bit ≤ 1) where
  abbrev i : ℕ
  i = inventory_of image p

  abbrev row : Page
  row = with_bit (bit_number image p) bit (page_at image i)

  abbrev bit_page : Page
  bit_page = stamped (old_page i x) inventory_kind (drop 16 row) (image_scn x) i

  no_scn_page : is_scn_place (image_size image) i ≡ true → ⊥
  no_scn_page at =
      let two = is.sound.system.inventories i there (inventory_there (image_size image) (p / bits_in (image_size image)) fields.size) in
      let ten = is.sound.system.scn_pages i there at in
      absurd (omega arith)

  -- so it is no page of SCN entries
  no_entries : (q : ℕ) → scn_page_of x q ≡ i → ⊥
  no_entries q at =
      let place : is_scn_place (image_size x) i ≡ true = subst (λ (n : ℕ). is_scn_place (image_size x) n ≡ true) at (scn_page_there (image_size x) (q / entries_in (image_size x)) fields_x.size) in
      no_scn_page (subst (λ (s : ℕ). is_scn_place s i ≡ true) raises.size place)

  inventory_length : length (page_at image i) ≡ image_size image
  inventory_length = all_at (λ page. length page ≡ image_size image) image is.sizes i there

  row_length : length row ≡ image_size image
  row_length = with_bit_length (bit_number image p) bit (page_at image i) ∙ inventory_length

  inside : 32 + bit_number image p / 8 < length (page_at image i)
  inside =
      let facts : SizeFacts (image_size image) = size_facts (image_size image) fields.size in
      let least = bits-least (image_size image) fields.size in
      let below : bit_number image p < bits_in (image_size image) = omega arith in
      omega (arith, facts.at_least, inventory_length)

  room : 16 + length (drop 16 row) ≤ image_size x
  room = let facts : SizeFacts (image_size image) = size_facts (image_size image) fields.size in omega (arith, facts.at_least, row_length, length-drop 16 row, raises.size)

  read_back : (j : ℕ) → bit_of bit_page j ≡ bit_of row j
  read_back j =
      let facts : SizeFacts (image_size image) = size_facts (image_size image) fields.size in
      let old = old_length x i 2 (drop 16 row) fields_x is_x refl room in
      bit_behind (old_page i x) 2 (image_scn x) i j row (row_length ∙ sym raises.size ∙ sym old) (omega (arith, facts.at_least, raises.size))

  bits_below : (q : ℕ) → inventory_of image q ≡ i → (bit_of bit_page (bit_number image q) == 1) ≡ false → q < length image
  unfolding is_free_page
  bits_below q at taken = elim (eqb_tells (bit_number image q) (bit_number image p)) [
    | inl w ↦ subst (λ (n : ℕ). n < length image) (sym (one_bit (image_size image) p q fields.size at w.1)) low
    | inr w ↦
        let before : bit_of bit_page (bit_number image q) ≡ bit_of (page_at image (inventory_of image q)) (bit_number image q) =
        read_back (bit_number image q) ∙ bit_else (bit_number image p) (bit_number image q) bit (page_at image i) small inside w.1
        ∙ ap (λ (n : ℕ). bit_of (page_at image n) (bit_number image q)) (sym at) in
        is.sound.bits q (subst (λ (n : ℕ). n < length image) (sym at) there) (ap (λ (n : ℕ). n == 1) (sym before) ∙ taken)
  ]

  bit_fits : FitsAt x i bit_page
  bit_fits = record {
    head = λ e. absurd (let some = inventory_place_some (image_size image) (p / bits_in (image_size image)) fields.size in omega arith);
    there = omega (arith, raises.long);
    most = let most = is.most in omega arith;
    size = now_length x i 2 (drop 16 row) fields_x is_x refl room;
    no_zeros = now_some x i 2 (drop 16 row) fields_x is_x refl room;
    stamp = now_stamp x i 2 (drop 16 row) fields_x is_x refl room;
    inventory = λ at. now_kind x i 2 (drop 16 row) fields_x is_x refl room;
    scn_page = λ at. absurd (no_scn_page (subst (λ (s : ℕ). is_scn_place s i ≡ true) raises.size at));
    bits = λ q at taken.
        let place : inventory_of image q ≡ i = ap (λ (s : ℕ). inventory_place s (q / bits_in s)) (sym raises.size) ∙ at in
        let bit_there : (bit_of bit_page (bit_number image q) == 1) ≡ false = ap (λ (s : ℕ). bit_of bit_page (q % bits_in s) == 1) (sym raises.size) ∙ taken in
        let below = bits_below q place bit_there in
        omega (arith, raises.long);
    current = raises.current;
    no_lower = λ q at has below. absurd (no_entries q at);
    no_later = λ q at has. absurd (no_entries q at);
  }

  bit_kind : kind_of bit_page ≡ inventory_kind
  bit_kind = now_kind x i 2 (drop 16 row) fields_x is_x refl room

-- the inventory page of a raw page is there
raw_inventory : (image : Image) (p : ℕ) → not_raw image p ≡ None → inventory_of image p < length image
unfolding not_raw is_kind
raw_inventory image p none =
    let second = no_first _ _ (no_first _ _ none).1 in
    by_test (is_kind image inventory_kind (inventory_of image p)) refl second.0
  where
    by_test : (t : Bool) → is_kind image inventory_kind (inventory_of image p) ≡ t → not_kind image inventory_kind (inventory_of image p) ≡ None → inventory_of image p < length image
    by_test true is e = ltb-true (inventory_of image p) (length image) (and_parts (nat_lt (inventory_of image p) (length image)) _ is).0
    by_test false is e = absurd (true≢false (sym (ap not is) ∙ not_when _ _ e))

module _ (K : Page → Type 0) (scn_pages : (bytes : Page) → kind_of bytes ≡ scn_kind → K bytes) (inventories : (bytes : Page) → kind_of bytes ≡ inventory_kind → K bytes) (b : Base) where
  -- the bit of a page below the length is written
  pub bit_put : (bit p : ℕ) (d : Draft) → bit ≤ 1 → Fits K b d → p < length d.image → inventory_of d.image p < length d.image
      → IsPut K b d.image (inventory_of d.image p) 2 (drop 16 (with_bit (bit_number d.image p) bit (page_at d.image (inventory_of d.image p)))) (set_bit bit p d)
  unfolding set_bit
  bit_put bit p d small fits low there =
      subst (λ (y : Image). IsPut K b y (inventory_of d.image p) 2 (drop 16 (with_bit (bit_number d.image p) bit (page_at d.image (inventory_of d.image p)))) (set_bit bit p d)) same
      (put_fits K scn_pages b (inventory_of d.image p) 2 _ read (fits_needs K b 2 (inventory_of d.image p) d fits) at fit)
    where
      read : Draft
      read = needs 2 (inventory_of d.image p) d

      same : read.image ≡ d.image
      same = needs_image 2 (inventory_of d.image p) d

      h : IsWhole d.image
      h = fits.whole

      at : IsPlace read.image (inventory_of d.image p)
      at = subst (λ (y : Image). IsPlace y (inventory_of d.image p)) (sym same) (record {
        behind = inventory_place_some (image_size d.image) (p / bits_in (image_size d.image)) h.fields.size;
        there = omega arith;
        most = let most = h.sound.most in omega arith;
      })

      written_bit : Image → Page
      written_bit x = stamped (old_page (inventory_of d.image p) x) inventory_kind (drop 16 (with_bit (bit_number d.image p) bit (page_at d.image (inventory_of d.image p)))) (image_scn x) (inventory_of d.image p)

      fit : (x : Image) → IsWhole x → Raises read.image x (inventory_of d.image p)
          → FitsAt x (inventory_of d.image p) (written_bit x) × K (written_bit x)
      fit x h_x before =
          let raises : Raises d.image x (inventory_of d.image p) = subst (λ (y : Image). Raises y x (inventory_of d.image p)) same before in
          (bit_fits d.image x p bit h.fields h.sound h_x.fields h_x.sound raises low there small, inventories _ (bit_kind d.image x p bit h.fields h.sound h_x.fields h_x.sound raises low there small))

  -- a page is given back
  pub give_fits : (p : ℕ) → HasHeader b.image → IsSoundImage b.image → not_raw b.image p ≡ None → Fits K b (give_page p (drafted b.image))
  give_fits p h is none = (bit_put 1 p (drafted b.image) (omega arith) (fits_first K b (header_whole b.image h is)) (raw_facts b.image p none).0 (raw_inventory b.image p none)).fits
