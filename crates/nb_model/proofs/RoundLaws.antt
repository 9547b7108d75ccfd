-- A round of the search for a new page in a sound image: what it finds, what it leaves, and where the search goes on.
use Rattle.std.proofs.Common.{◌≡◌, ◌≢◌, inl, inr, ℕ, zero, suc, ◌+◌, ◌-◌, ◌/◌, ◌%◌, ◌<◌, ◌≤◌, List, [], ◌∷◌, ◌++◌, length, drop, replicate, refl, sym, ap, subst, ◌∙◌, arith, Bool, true, false, ◌==◌, nat_lt, Option, Some, None}
use Rattle.nb_model.proofs.Common.{true≢false, and_from, or_parts, lt-ltb, eq-eqb, eqb-false, eqb_tells, entries_in, bits_in, inventory_place, scn_place, is_inventory_place, is_scn_place, is_system_place, most_pages, kind_of, stamped, bit_of, SizeFacts, size_facts, bits-least, scn_place-some, inventory_kind, scn_kind, Page, Image, page_at, image_size, image_scn, with_page, base_of, Draft, drafted, old_page, wrote, written, needs, is_kind, inventory_of, scn_page_of, bit_number, has_entry, scn_entry, is_free_page, entry_written, entry_raised, raised, put, with_bit, set_bit, take_page, free_from, lowest_free, Need, first_not, maps_from, entry_page, is_kept, needed_at, system_kind, system_payload, system_page, no_page, new_within}
use Rattle.nb_model.proofs.StrokeLaws.{with_page_same, with_page_other}
use Rattle.nb_model.proofs.NeedLaws.{first_behind, first_append, behind_none, first_none, maps_found, ready_none}
use Rattle.nb_model.proofs.PlaceOrder.{map_places_from}
use Rattle.nb_model.proofs.SoundLaws.{all_at, inventory_there, inventory_place_some, scn_page_there, scn_no_entry, with_page_length}
use Rattle.nb_model.proofs.FitLaws.{IsWhole, Fits, fits_first, written_image}
use Rattle.nb_model.proofs.PutSound.{IsPlace, Raises, is_raised, scn_page_below, plain_put}
use Rattle.nb_model.proofs.BitLaws.{bit_else, bit_here, with_bit_length, bit_behind, one_bit}
use Rattle.nb_model.proofs.NewSound.{HoldsOfKinds, IsThere, places_apart, inventory_before, lowest_between, plain_place, put_there, taken_fits, system_there, stamped_kind}
use Rattle.nb_model.proofs.ReadLaws.{eq_no}
use Rattle.nb_model.proofs.DraftJoin.{joined, joined_new, join_set_bit, join_new}

abbrev pub AnyPage : Page → Type 0
AnyPage bytes = Unit {0}

pub any_kinds : HoldsOfKinds AnyPage
any_kinds = record { inventories = λ bytes e. tt; scn_pages = λ bytes e. tt }

started : (image : Image) → IsWhole image → Fits AnyPage (base_of image) (drafted image)
started image h = fits_first AnyPage (base_of image) h

-- a page of that kind is found
pub kind_found : (image : Image) (kind p : ℕ) → p < length image → kind_of (page_at image p) ≡ kind → is_kind image kind p ≡ true
unfolding is_kind
kind_found image kind p low same = and_from (nat_lt p (length image)) (kind_of (page_at image p) == kind) (lt-ltb p (length image) low) (eq-eqb (kind_of (page_at image p)) kind same)

pub needs_found : (image : Image) (kind p : ℕ) → is_kind image kind p ≡ true → needs kind p (drafted image) ≡ drafted image
unfolding needs
needs_found image kind p is = rw (is, needs) refl

-- no system page is a page inventory page or an SCN page
pub no_place : (image : Image) → IsWhole image → (q : ℕ) → is_system_place (image_size image) q ≡ false → ((k : ℕ) → q ≢ inventory_place (image_size image) k) × ((k : ℕ) → q ≢ scn_place (image_size image) k)
no_place image h q plain =
    let places = plain_place (image_size image) q plain in (
      λ k e. true≢false (sym (inventory_there (image_size image) k h.fields.size) ∙ ap (is_inventory_place (image_size image)) (sym e) ∙ places.0),
      λ k e. true≢false (sym (scn_page_there (image_size image) k h.fields.size) ∙ ap (is_scn_place (image_size image)) (sym e) ∙ places.1),
    )

-- What is written at a place of a sound image.
module _ (image : Image) (h : IsWhole image) (p : ℕ) (at : IsPlace image p) where
  abbrev before : Draft
  before = raised p (drafted image)

  pub raises : Raises image before.image p
  raises = (is_raised AnyPage (λ bytes e. tt) (base_of image) p (drafted image) (started image h) at).raises

  -- the SCN page of its entry is there
  pub scn_page_found : has_entry image p ≡ true → is_kind image scn_kind (scn_page_of image p) ≡ true
  scn_page_found has =
      let low = scn_page_below image p h.fields h.sound.least at has in
      kind_found image scn_kind (scn_page_of image p) low (h.sound.sound.system.scn_pages (scn_page_of image p) low (scn_page_there (image_size image) (p / entries_in (image_size image)) h.fields.size))

  raised_none : has_entry image p ≡ false → before ≡ drafted image
  unfolding raised
  raised_none none = ap (λ (t : Bool). elim t as (λ z. Draft) [ true ↦ entry_raised p (needs 10 (scn_page_of image p) (drafted image)) | false ↦ drafted image ]) none

  raised_one : has_entry image p ≡ true → before ≡ entry_raised p (drafted image)
  unfolding raised
  raised_one has =
      ap (λ (t : Bool). elim t as (λ z. Draft) [ true ↦ entry_raised p (needs 10 (scn_page_of image p) (drafted image)) | false ↦ drafted image ]) has
      ∙ ap (entry_raised p) (needs_found image 10 (scn_page_of image p) (scn_page_found has))

  entry_unbroken : (entry_raised p (drafted image)).broken ≡ []
  unfolding entry_raised entry_written written wrote
  entry_unbroken = by (nat_lt (scn_entry image p) (image_scn image))
    where
      by : (t : Bool) → (elim t as (λ z. Draft) [ true ↦ entry_written p (drafted image) | false ↦ drafted image ]).broken ≡ []
      by true = refl
      by false = refl

  raised_unbroken : before.broken ≡ []
  raised_unbroken = by (has_entry image p) refl
    where
      by : (t : Bool) → has_entry image p ≡ t → before.broken ≡ []
      by true e = ap (λ (d : Draft). d.broken) (raised_one e) ∙ entry_unbroken
      by false e = ap (λ (d : Draft). d.broken) (raised_none e)

  -- the page itself is as it was when its entry was raised
  raised_same : page_at before.image p ≡ page_at image p
  raised_same = by (has_entry image p) refl
    where
      by : (t : Bool) → has_entry image p ≡ t → page_at before.image p ≡ page_at image p
      by true e = raises.others p (λ same. true≢false (sym e ∙ scn_no_entry image p (subst (λ (n : ℕ). is_scn_place (image_size image) n ≡ true) (sym same) (scn_page_there (image_size image) (p / entries_in (image_size image)) h.fields.size))))
      by false e = ap (λ (d : Draft). page_at d.image p) (raised_none e)

  raised_old : old_page p before.image ≡ old_page p image
  unfolding old_page
  raised_old =
      ap (λ (n : ℕ). elim (nat_lt p n) as (λ z. Page) [ true ↦ page_at before.image p | false ↦ replicate (image_size before.image) 0 ]) raises.long
      ∙ ap (λ (x : Page). elim (nat_lt p (length image)) as (λ z. Page) [ true ↦ x | false ↦ replicate (image_size before.image) 0 ]) raised_same
      ∙ ap (λ (n : ℕ). elim (nat_lt p (length image)) as (λ z. Page) [ true ↦ page_at image p | false ↦ replicate n 0 ]) raises.size

  module _ (kind : ℕ) (payload : List ℕ) where
    abbrev bytes : Page
    bytes = stamped (old_page p image) kind payload (image_scn image) p

    same_bytes : stamped (old_page p before.image) kind payload (image_scn before.image) p ≡ bytes
    same_bytes = ap (λ (x : Page). stamped x kind payload (image_scn before.image) p) raised_old ∙ ap (λ (n : ℕ). stamped (old_page p image) kind payload n p) raises.scn

    -- nothing that it needs is broken
    pub put_unbroken : (put p kind payload (drafted image)).broken ≡ []
    unfolding put written wrote
    put_unbroken = raised_unbroken

    put_image : (put p kind payload (drafted image)).image ≡ with_page p bytes before.image
    unfolding put
    put_image = written_image p kind payload before at.behind ∙ ap (λ (x : Page). with_page p x before.image) same_bytes

    below_end : p ≤ length before.image
    below_end = let low = at.there in omega (arith, raises.long)

    pub put_long : p < length image → length (put p kind payload (drafted image)).image ≡ length image
    put_long low = ap length put_image ∙ with_page_length p bytes before.image below_end ∙ omega (arith, raises.long, low)

    pub put_longer : length image ≤ length (put p kind payload (drafted image)).image
    put_longer = omega (arith, ap length put_image, with_page_length p bytes before.image below_end, raises.long)

    pub put_here : page_at (put p kind payload (drafted image)).image p ≡ bytes
    put_here = ap (λ (x : Image). page_at x p) put_image ∙ with_page_same p bytes before.image below_end

    -- no page changes but that and the page of its entry
    pub put_other : (r : ℕ) → r ≢ p → r ≢ scn_page_of image p → page_at (put p kind payload (drafted image)).image r ≡ page_at image r
    put_other r ne entry = ap (λ (x : Image). page_at x r) put_image ∙ with_page_other p r bytes before.image below_end ne ∙ raises.others r entry

    pub put_size : image_size (put p kind payload (drafted image)).image ≡ image_size image
    put_size =
        ap (λ (x : Page). Rattle.nb_fields.specs.Header.size_of x)
        (put_other 0 (λ e. absurd (let some = at.behind in omega (arith, e))) (λ e. absurd (let two = scn_place-some (image_size image) (p / entries_in (image_size image)) h.fields.size in omega (arith, e))))

    -- nor does a page inventory page, where that is none
    pub put_inventory : (k : ℕ) → inventory_place (image_size image) k ≢ p → page_at (put p kind payload (drafted image)).image (inventory_place (image_size image) k) ≡ page_at image (inventory_place (image_size image) k)
    put_inventory k ne =
        let r : ℕ = inventory_place (image_size image) k in
        let place : is_inventory_place (image_size image) r ≡ true = inventory_there (image_size image) k h.fields.size in
        put_other r ne (λ e. places_apart (image_size image) r h.fields.size place (subst (λ (n : ℕ). is_scn_place (image_size image) n ≡ true) (sym e) (scn_page_there (image_size image) (p / entries_in (image_size image)) h.fields.size)))

-- the bit of a page by its inventory page
pub bit_by : (image after : Image) (q : ℕ) → image_size after ≡ image_size image → page_at after (inventory_of image q) ≡ page_at image (inventory_of image q) → is_free_page after q ≡ is_free_page image q
unfolding is_free_page
bit_by image after q size same =
    ap (λ (s : ℕ). bit_of (page_at after (inventory_place s (q / bits_in s))) (q % bits_in s) == 1) size ∙ ap (λ (x : Page). bit_of x (bit_number image q) == 1) same

-- a page that is written keeps the bits of the pages up to it
pub put_bits : (image : Image) → IsWhole image → (p kind : ℕ) (payload : List ℕ) → IsPlace image p → (q : ℕ) → 2 ≤ q → q ≤ p → is_free_page (put p kind payload (drafted image)).image q ≡ is_free_page image q
put_bits image h p kind payload at q two le =
    let before = inventory_before (image_size image) q h.fields.size two in
    bit_by image _ q (put_size image h p at kind payload) (put_inventory image h p at kind payload (q / bits_in (image_size image)) (λ e. absurd (omega (arith, e, before, le))))

-- A page that is taken.
module _ (image : Image) (h : IsWhole image) (p : ℕ) (two : 2 ≤ p) (low : p < length image) where
  abbrev i : ℕ
  i = inventory_of image p

  abbrev row : Page
  row = with_bit (bit_number image p) 0 (page_at image i)

  abbrev taken : Draft
  taken = put i inventory_kind (drop 16 row) (drafted image)

  i_before : i < p
  i_before = inventory_before (image_size image) p h.fields.size two

  i_low : i < length image
  i_low = omega (arith, i_before, low)

  i_place : IsPlace image i
  i_place = record { behind = inventory_place_some (image_size image) (p / bits_in (image_size image)) h.fields.size; there = omega (arith, i_low); most = let most = h.sound.most in omega (arith, i_low) }

  pub i_found : is_kind image inventory_kind i ≡ true
  i_found = kind_found image inventory_kind i i_low (h.sound.sound.system.inventories i i_low (inventory_there (image_size image) (p / bits_in (image_size image)) h.fields.size))

  pub take_is : take_page p (drafted image) ≡ taken
  unfolding set_bit
  take_is = ap (put i inventory_kind (drop 16 row)) (needs_found image 2 i i_found)

  pub take_unbroken : (take_page p (drafted image)).broken ≡ []
  take_unbroken = ap (λ (d : Draft). d.broken) take_is ∙ put_unbroken image h i i_place 2 (drop 16 row)

  pub take_well : IsWhole (take_page p (drafted image)).image
  take_well = (taken_fits AnyPage any_kinds (base_of image) p (drafted image) two (record { fits = started image h; below = low })).whole

  take_size : image_size (take_page p (drafted image)).image ≡ image_size image
  take_size = ap (λ (d : Draft). image_size d.image) take_is ∙ put_size image h i i_place 2 (drop 16 row)

  -- the image is no shorter
  pub take_long : p < length (take_page p (drafted image)).image
  take_long = (taken_there).1
    where
      taken_there : (length (take_page p (drafted image)).image ≡ length image) × (p < length (take_page p (drafted image)).image)
      taken_there =
          let long : length (put i inventory_kind (drop 16 row) (drafted image)).image ≡ length image = put_long image h i i_place 2 (drop 16 row) i_low in
          let same : length (take_page p (drafted image)).image ≡ length image = ap (λ (d : Draft). length d.image) take_is ∙ long in
          (same, omega (arith, same, low))

  -- no page that isn't a system page changes
  pub take_plain : (q : ℕ) → is_system_place (image_size image) q ≡ false → page_at (take_page p (drafted image)).image q ≡ page_at image q
  take_plain q plain =
      let other = no_place image h q plain in
      ap (λ (d : Draft). page_at d.image q) take_is ∙ put_other image h i i_place 2 (drop 16 row) q (other.0 (p / bits_in (image_size image))) (other.1 (i / entries_in (image_size image)))

  i_long : length (page_at image i) ≡ image_size image
  i_long = all_at (λ x. length x ≡ image_size image) image h.sound.sizes i i_low

  old_is : old_page i image ≡ page_at image i
  unfolding old_page
  old_is = rw (lt-ltb i (length image) i_low, old_page) refl

  -- a bit of that inventory page
  row_bit : (j : ℕ) → bit_of (page_at taken.image i) j ≡ bit_of row j
  row_bit j =
      let facts : SizeFacts (image_size image) = size_facts (image_size image) h.fields.size in
      ap (λ (x : Page). bit_of x j) (put_here image h i i_place 2 (drop 16 row))
      ∙ bit_behind (old_page i image) 2 (image_scn image) i j row (with_bit_length (bit_number image p) 0 (page_at image i) ∙ ap length (sym old_is)) (omega (arith, facts.at_least, i_long, ap length old_is))

  inside : 32 + bit_number image p / 8 < length (page_at image i)
  inside =
      let facts : SizeFacts (image_size image) = size_facts (image_size image) h.fields.size in
      let least = bits-least (image_size image) h.fields.size in
      let below : bit_number image p < bits_in (image_size image) = omega arith in
      omega (arith, facts.at_least, i_long)

  -- its bit says taken
  pub take_here : is_free_page (take_page p (drafted image)).image p ≡ false
  unfolding is_free_page
  take_here =
      let bit : bit_of (page_at taken.image i) (bit_number image p) ≡ 0 = row_bit (bit_number image p) ∙ bit_here (bit_number image p) 0 (page_at image i) (omega arith) inside in
      ap (λ (s : ℕ). bit_of (page_at (take_page p (drafted image)).image (inventory_place s (p / bits_in s))) (p % bits_in s) == 1) take_size
      ∙ ap (λ (d : Draft). bit_of (page_at d.image i) (bit_number image p) == 1) take_is ∙ ap (λ (n : ℕ). n == 1) bit

  -- and the other bits are as they were
  pub take_other : (q : ℕ) → q ≢ p → is_free_page (take_page p (drafted image)).image q ≡ is_free_page image q
  unfolding is_free_page
  take_other q other =
      ap (λ (s : ℕ). bit_of (page_at (take_page p (drafted image)).image (inventory_place s (q / bits_in s))) (q % bits_in s) == 1) take_size
      ∙ ap (λ (d : Draft). bit_of (page_at d.image (inventory_of image q)) (bit_number image q) == 1) take_is ∙ ap (λ (n : ℕ). n == 1) by
    where
      by : bit_of (page_at taken.image (inventory_of image q)) (bit_number image q) ≡ bit_of (page_at image (inventory_of image q)) (bit_number image q)
      by = elim (eqb_tells (inventory_of image q) i) [
        | inl w ↦
            ap (λ (n : ℕ). bit_of (page_at taken.image n) (bit_number image q)) w.1 ∙ row_bit (bit_number image q)
            ∙ bit_else (bit_number image p) (bit_number image q) 0 (page_at image i) (omega arith) inside (λ e. other (one_bit (image_size image) p q h.fields.size w.1 e))
            ∙ ap (λ (n : ℕ). bit_of (page_at image n) (bit_number image q)) (sym w.1)
        | inr w ↦ ap (λ (x : Page). bit_of x (bit_number image q)) (put_inventory image h i i_place 2 (drop 16 row) (q / bits_in (image_size image)) w.1)
      ]

-- the inventory pages that a search reads are there, and so are the SCN pages
maps_there : (image : Image) → IsWhole image → (p : ℕ) → p ≤ length image → 2 ≤ p → (j : ℕ) → 0 ≤ j → j < 0 + (p / bits_in (image_size image) + 1) → is_kind image inventory_kind (inventory_place (image_size image) j) ≡ true
maps_there image h p low two j none few =
    let size : ℕ = image_size image in
    let before = inventory_before size p h.fields.size two in
    let r : ℕ = inventory_place size j in
    let there : r < length image = omega (arith, map_places_from size j (p / bits_in size) h.fields.size (omega (arith, few)), before, low) in
    kind_found image inventory_kind r there (h.sound.sound.system.inventories r there (inventory_there size j h.fields.size))

-- a new page needs nothing that isn't there
pub needed_found : (image : Image) → IsWhole image → (p : ℕ) → 2 ≤ p → p ≤ length image → first_not image (needed_at image p) ≡ None
unfolding needed_at
needed_found image h p two low =
    first_append image (maps_from (image_size image) (p / bits_in (image_size image) + 1) 0) (rest (p == most_pages))
    ∙ ap (λ (o : Option ℕ). first_behind o (first_not image (rest (p == most_pages)))) (maps_found image (image_size image) (p / bits_in (image_size image) + 1) 0 (maps_there image h p low two))
    ∙ behind_none (first_not image (rest (p == most_pages))) ∙ by_end (p == most_pages) refl
  where
    own : Bool → List Need
    own t = elim t [ true ↦ [] | false ↦ entry_page image p ]

    rest : Bool → List Need
    rest t = elim t [ true ↦ [] | false ↦ entry_page image (inventory_of image p) ++ own (is_kept image p) ]

    before : inventory_of image p < p
    before = inventory_before (image_size image) p h.fields.size two

    entry : (q : ℕ) → 1 ≤ q → q ≤ length image → q < most_pages → first_not image (entry_page image q) ≡ None
    entry q behind there most = ready_none image q (λ has. scn_page_found image h q (record { behind = behind; there = there; most = most }) has)

    by_own : p < most_pages → (t : Bool) → first_not image (own t) ≡ None
    by_own most true = first_none image
    by_own most false = entry p (omega (arith, two)) low most

    by_end : (t : Bool) → (p == most_pages) ≡ t → first_not image (rest t) ≡ None
    by_end true e = first_none image
    by_end false e =
        let long = h.sound.most in
        let most : p < most_pages = omega (arith, low, long, eqb-false p most_pages e) in
        first_append image (entry_page image (inventory_of image p)) (own (is_kept image p))
        ∙ ap (λ (o : Option ℕ). first_behind o (first_not image (own (is_kept image p))))
        (entry (inventory_of image p) (inventory_place_some (image_size image) (p / bits_in (image_size image)) h.fields.size) (omega (arith, before, low)) (omega (arith, before, most)))
        ∙ behind_none (first_not image (own (is_kept image p))) ∙ by_own most (is_kept image p)

-- A round at a system place: its system page is there, and it is taken.
abbrev pub round : ℕ → Image → Draft
round p image = take_page p (system_page p (drafted image))

module _ (image : Image) (h : IsWhole image) (p : ℕ) (at : IsPlace image p) (place : is_system_place (image_size image) p ≡ true) where
  abbrev made : Draft
  made = system_page p (drafted image)

  system_either : (P : Draft → Type 0) → P (drafted image) → P (put p (system_kind image p) (system_payload image p) (drafted image)) → P made
  unfolding system_page
  system_either P here written = by (is_kind image (system_kind image p) p)
    where
      by : (t : Bool) → P (elim t as (λ z. Draft) [ true ↦ drafted image | false ↦ put p (system_kind image p) (system_payload image p) (drafted image) ])
      by true = here
      by false = written

  there : IsThere AnyPage any_kinds (base_of image) p made
  there = system_there AnyPage any_kinds (base_of image) p (drafted image) place at (started image h)

  pub system_well : IsWhole made.image
  system_well = there.fits.whole

  pub system_low : p < length made.image
  system_low = there.below

  pub system_unbroken : made.broken ≡ []
  system_unbroken = system_either (λ d. d.broken ≡ []) refl (put_unbroken image h p at (system_kind image p) (system_payload image p))

  pub system_bits : (q : ℕ) → 2 ≤ q → q ≤ p → is_free_page made.image q ≡ is_free_page image q
  system_bits q two le = system_either (λ d. is_free_page d.image q ≡ is_free_page image q) refl (put_bits image h p (system_kind image p) (system_payload image p) at q two le)

  system_size : image_size made.image ≡ image_size image
  system_size = system_either (λ d. image_size d.image ≡ image_size image) refl (put_size image h p at (system_kind image p) (system_payload image p))

  system_plain : (q : ℕ) → is_system_place (image_size image) q ≡ false → page_at made.image q ≡ page_at image q
  system_plain q plain = system_either (λ d. page_at d.image q ≡ page_at image q) refl
      (put_other image h p at (system_kind image p) (system_payload image p) q (λ e. true≢false (sym place ∙ ap (is_system_place (image_size image)) (sym e) ∙ plain)) ((no_place image h q plain).1 (p / entries_in (image_size image))))

  module _ (two : 2 ≤ p) where
    abbrev last : Draft
    last = take_page p (drafted made.image)

    round_is : round p image ≡ joined made last
    round_is = join_set_bit 0 p made

    -- its strokes in order
    pub round_strokes : (round p image).strokes ≡ made.strokes ++ last.strokes
    round_strokes = ap (λ (d : Draft). d.strokes) round_is

    pub round_image : (round p image).image ≡ last.image
    round_image = ap (λ (d : Draft). d.image) round_is

    pub round_unbroken : (round p image).broken ≡ []
    round_unbroken = ap (λ (d : Draft). d.broken) round_is ∙ ap (λ (ps : List ℕ). ps ++ made.broken) (take_unbroken made.image system_well p two system_low) ∙ system_unbroken

    pub round_well : IsWhole (round p image).image
    round_well = subst IsWhole (sym round_image) (take_well made.image system_well p two system_low)

    -- no page changes but system pages
    pub round_size : image_size (round p image).image ≡ image_size image
    round_size = ap image_size round_image ∙ take_size made.image system_well p two system_low ∙ system_size

    pub round_plain : (q : ℕ) → is_system_place (image_size image) q ≡ false → page_at (round p image).image q ≡ page_at image q
    round_plain q plain =
        ap (λ (x : Image). page_at x q) round_image ∙ take_plain made.image system_well p two system_low q (ap (λ (s : ℕ). is_system_place s q) system_size ∙ plain) ∙ system_plain q plain

-- A page that is no system page is made at its place, and taken.
module _ (image : Image) (h : IsWhole image) (p kind : ℕ) (payload : List ℕ) (at : IsPlace image p) (plain : is_system_place (image_size image) p ≡ false) (some : (kind == 0) ≡ false) (room : length payload ≤ 1008) where
  abbrev put_at : Draft
  put_at = put p kind payload (drafted image)

  is_there : IsThere AnyPage any_kinds (base_of image) p put_at
  is_there =
      let places = plain_place (image_size image) p plain in
      let size : SizeFacts (image_size image) = size_facts (image_size image) h.fields.size in
      put_there AnyPage any_kinds (base_of image) image p kind payload put_at at
      (plain_put AnyPage (λ bytes e. tt) (base_of image) p kind payload (drafted image) (started image h)
      (record { place = at; no_inventory = places.0; no_scn_page = places.1 }) some (omega (arith, size.at_least, room)) (λ bytes e. tt))

  pub plain_well : IsWhole put_at.image
  plain_well = is_there.fits.whole

  pub plain_low : p < length put_at.image
  plain_low = is_there.below

  -- its strokes in order
  pub last_strokes : (take_page p put_at).strokes ≡ put_at.strokes ++ (take_page p (drafted put_at.image)).strokes
  last_strokes = ap (λ (d : Draft). d.strokes) (join_set_bit 0 p put_at)

  pub last_unbroken : 2 ≤ p → (take_page p put_at).broken ≡ []
  last_unbroken two =
      ap (λ (d : Draft). d.broken) (join_set_bit 0 p put_at) ∙ ap (λ (ps : List ℕ). ps ++ put_at.broken) (take_unbroken put_at.image plain_well p two plain_low) ∙ put_unbroken image h p at kind payload

  -- no page changes but that one and system pages
  module _ (two : 2 ≤ p) where
    pub last_image : (take_page p put_at).image ≡ (take_page p (drafted put_at.image)).image
    last_image = ap (λ (d : Draft). d.image) (join_set_bit 0 p put_at)

    pub last_size : image_size (take_page p put_at).image ≡ image_size image
    last_size = ap image_size last_image ∙ take_size put_at.image plain_well p two plain_low ∙ put_size image h p at kind payload

    pub last_low : p < length (take_page p put_at).image
    last_low = subst (λ (x : Image). p < length x) (sym last_image) (take_long put_at.image plain_well p two plain_low)

    pub last_same : (q : ℕ) → is_system_place (image_size image) q ≡ false → page_at (take_page p put_at).image q ≡ page_at put_at.image q
    last_same q other = ap (λ (x : Image). page_at x q) last_image ∙ take_plain put_at.image plain_well p two plain_low q (ap (λ (s : ℕ). is_system_place s q) (put_size image h p at kind payload) ∙ other)

    pub last_kind : kind_of (page_at (take_page p put_at).image p) ≡ kind
    last_kind = ap kind_of (last_same p plain ∙ put_here image h p at kind payload) ∙ stamped_kind (old_page p image) kind payload (image_scn image) p

    pub last_plain : (q : ℕ) → is_system_place (image_size image) q ≡ false → q ≢ p → page_at (take_page p put_at).image q ≡ page_at image q
    last_plain q other ne = last_same q other ∙ put_other image h p at kind payload q ne ((no_place image h q other).1 (p / entries_in (image_size image)))

-- no page before the one that is found is free
free_before : (left p : ℕ) (image : Image) (q : ℕ) → p ≤ q → q < free_from left p image → is_free_page image q ≡ false
unfolding free_from
free_before zero p image q from low = absurd (omega (arith, from, low))
free_before (suc left) p image q from low = by (λ more rest. free_before left (p + 1) image q more rest) (is_free_page image p) refl low
  where
    by : (p + 1 ≤ q → q < free_from left (p + 1) image → is_free_page image q ≡ false) → (t : Bool) → is_free_page image p ≡ t → q < (elim t as (λ z. ℕ) [ true ↦ p | false ↦ free_from left (p + 1) image ]) → is_free_page image q ≡ false
    by rest true is less = absurd (omega (arith, from, less))
    by rest false is less = elim (eqb_tells q p) [
      | inl w ↦ ap (is_free_page image) w.1 ∙ is
      | inr w ↦ rest (omega (arith, from, w.1)) less
    ]

free_next : (left p : ℕ) (image : Image) → is_free_page image p ≡ false → free_from (suc left) p image ≡ free_from left (p + 1) image
unfolding free_from
free_next left p image used = ap (λ (t : Bool). elim t as (λ z. ℕ) [ true ↦ p | false ↦ free_from left (p + 1) image ]) used

-- taken pages are passed over
free_behind : (n left p : ℕ) (image : Image) → ((q : ℕ) → p ≤ q → q < p + n → is_free_page image q ≡ false) → free_from (n + left) p image ≡ free_from left (p + n) image
free_behind zero left p image used = ap (λ (m : ℕ). free_from m p image) (let e : 0 + left ≡ left = omega arith in e) ∙ ap (λ (m : ℕ). free_from left m image) (let e : p ≡ p + 0 = omega arith in e)
free_behind (suc n) left p image used =
    ap (λ (m : ℕ). free_from m p image) (let e : suc n + left ≡ suc (n + left) = omega arith in e)
    ∙ free_next (n + left) p image (used p (omega arith) (omega arith))
    ∙ free_behind n left (p + 1) image (λ q from low. used q (omega (arith, from)) (omega (arith, low)))
    ∙ ap (λ (m : ℕ). free_from left m image) (let e : p + 1 + n ≡ p + suc n = omega arith in e)

-- so the search goes on after a page up to which all are taken
pub lowest_behind : (image : Image) (p : ℕ) → 5 ≤ p → p < length image → ((q : ℕ) → 5 ≤ q → q ≤ p → is_free_page image q ≡ false) → lowest_free image ≡ free_from (length image - (p + 1)) (p + 1) image
unfolding lowest_free
lowest_behind image p five low used =
    ap (λ (m : ℕ). free_from m 5 image) (let e : length image - 5 ≡ (p - 4) + (length image - (p + 1)) = omega (arith, five, low) in e)
    ∙ free_behind (p - 4) (length image - (p + 1)) 5 image (λ q from less. used q from (omega (arith, less, five)))
    ∙ ap (λ (m : ℕ). free_from (length image - (p + 1)) m image) (let e : 5 + (p - 4) ≡ p + 1 = omega (arith, five) in e)

-- what holds at the lowest free page, where a page is left
pub record IsFound (image : Image) (tries p : ℕ) : Type 0 where
  pub left : ℕ
  pub tries_is : tries ≡ suc left
  pub five : 5 ≤ p
  pub at : IsPlace image p

module _ (image : Image) (h : IsWhole image) (kind : ℕ) (payload : ℕ → List ℕ) where
  abbrev p : ℕ
  p = lowest_free image

  abbrev new : ℕ → Draft × ℕ
  new tries = new_within tries kind payload (drafted image)

  between : (5 ≤ p) × (p ≤ length image)
  between = lowest_between image h.sound.least

  read : first_not image (needed_at image p) ≡ None
  read = needed_found image h p (omega (arith, between.0)) between.1

  -- the choice of a round by its tests
  abbrev by_place : ℕ → Draft → Bool → Draft × ℕ
  by_place left d t = elim t as (λ z. Draft × ℕ) [
    | true ↦ new_within left kind payload (take_page p (system_page p d))
    | false ↦ (take_page p (put p kind (payload p) d), p)
  ]

  abbrev by_end : ℕ → Draft → Bool → Bool → Draft × ℕ
  by_end left d t u = elim t as (λ z. Draft × ℕ) [ true ↦ (no_page d, p) | false ↦ by_place left d u ]

  abbrev by_need : ℕ → Draft → Option ℕ → Draft × ℕ
  by_need left d o = elim o as (λ z. Draft × ℕ) [ Some q ↦ (record d { broken = q ∷ d.broken }, 0) | None ↦ by_end left d (p == most_pages) (is_system_place (image_size image) p) ]

  new_is : (left : ℕ) → new (suc left) ≡ by_need left (drafted image) (first_not image (needed_at image p))
  unfolding new_within
  new_is left = refl

  new_by : (left : ℕ) (t u : Bool) → (p == most_pages) ≡ t → is_system_place (image_size image) p ≡ u → new (suc left) ≡ by_end left (drafted image) t u
  new_by left t u e f =
      new_is left ∙ ap (by_need left (drafted image)) read
      ∙ ap (λ (x : Bool). by_end left (drafted image) x (is_system_place (image_size image) p)) e ∙ ap (λ (x : Bool). by_end left (drafted image) t x) f

  none_full : (new zero).0.full ≡ true
  unfolding new_within
  none_full = refl

  end_full : (left : ℕ) → (p == most_pages) ≡ true → (new (suc left)).0.full ≡ true
  end_full left e = ap (λ (x : Draft × ℕ). x.0.full) (new_by left true (is_system_place (image_size image) p) e refl)

  pub found : (tries : ℕ) → (new tries).0.full ≡ false → IsFound image tries p
  found zero room = absurd (true≢false (sym none_full ∙ room))
  found (suc left) room = by (p == most_pages) refl
    where
      by : (t : Bool) → (p == most_pages) ≡ t → IsFound image (suc left) p
      by true e = absurd (true≢false (sym (end_full left e) ∙ room))
      by false e =
          let most = h.sound.most in
          record { left = left; tries_is = refl; five = between.0; at = record { behind = omega (arith, between.0); there = between.1; most = omega (arith, between.1, most, eqb-false p most_pages e) } }

  -- a system place, and then on
  pub new_more : (left : ℕ) → p < most_pages → is_system_place (image_size image) p ≡ true → new (suc left) ≡ joined_new (round p image) (new_within left kind payload (drafted (round p image).image))
  new_more left below place = new_by left false true (eq_no p most_pages (λ e. absurd (omega (arith, e, below)))) place ∙ join_new left kind payload (round p image)

  -- or the new page
  pub new_last : (left : ℕ) → p < most_pages → is_system_place (image_size image) p ≡ false → new (suc left) ≡ (take_page p (put p kind (payload p) (drafted image)), p)
  new_last left below place = new_by left false false (eq_no p most_pages (λ e. absurd (omega (arith, e, below)))) place

-- A new page stands where no system page does, and no page but it and system pages has changed.
pub record IsNew (image : Image) (kind : ℕ) (made : Draft × ℕ) : Type 0 where
  pub size : image_size made.0.image ≡ image_size image
  pub behind : 1 ≤ made.1
  pub below : made.1 < length made.0.image
  pub plain : is_system_place (image_size image) made.1 ≡ false
  pub of_kind : kind_of (page_at made.0.image made.1) ≡ kind
  pub others : (q : ℕ) → is_system_place (image_size image) q ≡ false → q ≢ made.1 → page_at made.0.image q ≡ page_at image q

-- where a page was left for it
pub new_is_new : (tries kind : ℕ) (payload : ℕ → List ℕ) (image : Image) → IsWhole image → (kind == 0) ≡ false → ((p : ℕ) → length (payload p) ≤ 1008)
    → (new_within tries kind payload (drafted image)).0.full ≡ false → IsNew image kind (new_within tries kind payload (drafted image))
new_is_new zero kind payload image h some room left = absurd (omega (arith, (found image h kind payload zero left).tries_is))
new_is_new (suc tries) kind payload image h some room left = by (λ x well full. new_is_new tries kind payload x well some room full) (is_system_place (image_size image) p) refl
  where
    p : ℕ
    p = lowest_free image

    f : IsFound image (suc tries) p
    f = found image h kind payload (suc tries) left

    two : 2 ≤ p
    two = omega (arith, f.five)

    new : Draft × ℕ
    new = new_within (suc tries) kind payload (drafted image)

    more : Draft × ℕ
    more = new_within tries kind payload (drafted (round p image).image)

    by : ((x : Image) → IsWhole x → (new_within tries kind payload (drafted x)).0.full ≡ false → IsNew x kind (new_within tries kind payload (drafted x))) → (t : Bool) → is_system_place (image_size image) p ≡ t → IsNew image kind new
    by rest true place =
        let e : new ≡ joined_new (round p image) more = new_more image h kind payload tries f.at.most place in
        let full : more.0.full ≡ false = (or_parts more.0.full (round p image).full (ap (λ (x : Draft × ℕ). x.0.full) (sym e) ∙ left)).0 in
        let size : image_size (round p image).image ≡ image_size image = round_size image h p f.at place two in
        let one : IsNew (round p image).image kind more = rest (round p image).image (round_well image h p f.at place two) full in
        subst (IsNew image kind) (sym e) (record {
          size = one.size ∙ size;
          behind = one.behind;
          below = one.below;
          plain = ap (λ (s : ℕ). is_system_place s more.1) (sym size) ∙ one.plain;
          of_kind = one.of_kind;
          others = λ q plain ne. one.others q (ap (λ (s : ℕ). is_system_place s q) size ∙ plain) ne ∙ round_plain image h p f.at place two q plain;
        })
    by rest false place = subst (IsNew image kind) (sym (new_last image h kind payload tries f.at.most place)) (record {
      size = last_size image h p kind (payload p) f.at place some (room p) two;
      behind = f.at.behind;
      below = last_low image h p kind (payload p) f.at place some (room p) two;
      plain = place;
      of_kind = last_kind image h p kind (payload p) f.at place some (room p) two;
      others = λ q plain ne. last_plain image h p kind (payload p) f.at place some (room p) two q plain ne;
    })
