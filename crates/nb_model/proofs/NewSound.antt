-- Each stroke of a new page fits at its point, also where system pages are made on the way.
use Rattle.std.proofs.Common.{◌≡◌, inl, inr, ℕ, zero, suc, ◌+◌, ◌-◌, ◌*◌, ◌/◌, ◌%◌, ◌^◌, ◌<◌, ◌≤◌, List, [], ◌∷◌, length, refl, sym, ap, subst, ◌∙◌, arith, Bool, true, false, ◌==◌, nat_lt, IsTrue, max, Option, Some, None}
use Rattle.nb_model.proofs.Common.{true≢false, and_parts, and_from, or_parts, or_cases, ltb-true, eq-eqb, eqb-false, leb_tells, Inventory, ScnInventory, bytes_of, code_of, inventory_kind, raw_kind, scn_kind, is_page_size, entries_in, bits_in, inventory_place, is_inventory_place, is_scn_place, is_system_place, most_pages, page_of, kind_of, generation_of, stamped, inventory_payload, scn_payload, text_payload, bit_of, entry_of, taken_bits-free, bit_of-inventory, entry_of-scn, kind_of-page_of, SizeFacts, size_facts, bits-least, entries-least, Page, Image, page_at, image_size, image_scn, Base, Draft, drafted, old_page, is_kind, put, scn_page_of, bit_number, entry_number, scn_entry, has_entry, is_free_page, take_page, free_from, lowest_free, first_not, needed_at, system_kind, system_payload, system_page, no_page, new_within, new_page, IsSoundImage, HasHeader}
use Rattle.nb_model.proofs.SoundLaws.{inventory_there, scn_page_there, HasFields, FitsAt, scn_no_entry, with_page_length}
use Rattle.nb_model.proofs.FreshSound.{kind_inventory, kind_scn, inventory_length, scn_length}
use Rattle.nb_model.proofs.FitLaws.{IsWhole, Fits, fits_first, fits_full, fits_broken, form_page}
use Rattle.nb_model.proofs.PutSound.{IsPlace, Raises, IsPut, header_whole, old_length, now_length, now_some, now_stamp, now_kind, put_fits, plain_here}
use Rattle.nb_model.proofs.BitSound.{bit_put}

-- no page is of both kinds of inventory
pub places_apart : (size p : ℕ) → IsTrue (is_page_size size) → is_inventory_place size p ≡ true → is_scn_place size p ≡ true → ⊥
places_apart size p is inventory scn =
    let e : code_of Inventory ≡ code_of ScnInventory = ap code_of (sym (kind_inventory size p is inventory) ∙ kind_scn size p is scn) in
    absurd (omega arith)

-- the inventory page of a page stands before it
pub inventory_before : (size p : ℕ) → IsTrue (is_page_size size) → 2 ≤ p → inventory_place size (p / bits_in size) < p
inventory_before size p is behind =
    let least = bits-least size is in
    let low : p / bits_in size * bits_in size ≤ p = omega arith in
    by_index (p / bits_in size) low
  where
    by_index : (k : ℕ) → k * bits_in size ≤ p → inventory_place size k < p
    by_index zero low = omega arith
    by_index (suc k) low =
        let least = bits-least size is in
        let more : bits_in size ≤ suc k * bits_in size = omega arith in
        omega arith

-- the lowest free page isn't after the end
free_between : (left p : ℕ) (image : Image) → (p ≤ free_from left p image) × (free_from left p image ≤ p + left)
unfolding free_from
free_between zero p image = (omega arith, omega arith)
free_between (suc left) p image = let rest = free_between left (p + 1) image in by_test rest.0 rest.1 (is_free_page image p)
  where
    by_test : p + 1 ≤ free_from left (p + 1) image → free_from left (p + 1) image ≤ p + 1 + left → (t : Bool)
        → (p ≤ (elim t as (λ z. ℕ) [ true ↦ p | false ↦ free_from left (p + 1) image ])) × ((elim t as (λ z. ℕ) [ true ↦ p | false ↦ free_from left (p + 1) image ]) ≤ p + suc left)
    by_test low high true = (omega arith, omega arith)
    by_test low high false = (omega arith, omega arith)

pub lowest_between : (image : Image) → 5 ≤ length image → (5 ≤ lowest_free image) × (lowest_free image ≤ length image)
unfolding lowest_free
lowest_between image least = let found = free_between (length image - 5) 5 image in (found.0, omega (arith, found.1))

-- A system page at the end of the image.
module _ (x : Image) (p : ℕ) (fields : HasFields x) (is : IsSoundImage x) (at : IsPlace x p) (past : p ≡ length x) where
  facts : SizeFacts (image_size x)
  facts = size_facts (image_size x) fields.size

  -- an inventory page of free bits
  module _ (place : is_inventory_place (image_size x) p ≡ true) (current : has_entry x p ≡ true → scn_entry x p ≡ image_scn x) where
    abbrev bits : List ℕ
    bits = inventory_payload (image_size x) ((p + 1) / bits_in (image_size x)) 0

    bits_room : 16 + length bits ≤ image_size x
    bits_room = omega (arith, facts.at_least, inventory_length (image_size x) ((p + 1) / bits_in (image_size x)) 0)

    all_free : (i : ℕ) → i < bits_in (image_size x) → bit_of (stamped (old_page p x) inventory_kind bits (image_scn x) p) i ≡ 1
    unfolding stamped
    all_free i inside =
        let g : ℕ = (generation_of (old_page p x) + 1) % 2 ^ 32 in
        let byte : i / 8 < image_size x - 32 = omega (arith, facts.at_least) in
        ap (λ (s : ℕ). bit_of (page_of s 2 g (image_scn x) p bits) i) (old_length x p 2 bits fields is refl bits_room)
        ∙ bit_of-inventory (image_size x) 2 g (image_scn x) p ((p + 1) / bits_in (image_size x)) 0 i byte
        ∙ taken_bits-free (image_size x - 32) 0 i byte (omega arith)

    inventory_fits : FitsAt x p (stamped (old_page p x) inventory_kind bits (image_scn x) p)
    inventory_fits = record {
      head = λ e. absurd (let some = at.behind in omega arith);
      there = at.there;
      most = at.most;
      size = now_length x p 2 bits fields is refl bits_room;
      no_zeros = now_some x p 2 bits fields is refl bits_room;
      stamp = now_stamp x p 2 bits fields is refl bits_room;
      inventory = λ e. now_kind x p 2 bits fields is refl bits_room;
      scn_page = λ e. absurd (places_apart (image_size x) p fields.size place e);
      bits = λ q e taken.
          let least = bits-least (image_size x) fields.size in
          let inside : bit_number x q < bits_in (image_size x) = omega arith in
          absurd (true≢false (sym (eq-eqb _ 1 (all_free (bit_number x q) inside)) ∙ taken));
      current = current;
      no_lower = λ q e has below. absurd (none q e);
      no_later = λ q e has. absurd (none q e);
    }
      where
        none : (q : ℕ) → scn_page_of x q ≡ p → ⊥
        none q e = places_apart (image_size x) p fields.size place (subst (λ (n : ℕ). is_scn_place (image_size x) n ≡ true) e (scn_page_there (image_size x) (q / entries_in (image_size x)) fields.size))

  -- an SCN page of the current SCN
  module _ (place : is_scn_place (image_size x) p ≡ true) where
    abbrev entries : List ℕ
    entries = scn_payload (image_size x) (p / entries_in (image_size x)) (image_scn x)

    entries_room : 16 + length entries ≤ image_size x
    entries_room = omega (arith, facts.at_least, scn_length (image_size x) (p / entries_in (image_size x)) (image_scn x))

    all_current : (i : ℕ) → i < entries_in (image_size x) → entry_of (stamped (old_page p x) scn_kind entries (image_scn x) p) i ≡ image_scn x
    unfolding stamped
    all_current i inside =
        let g : ℕ = (generation_of (old_page p x) + 1) % 2 ^ 32 in
        ap (λ (s : ℕ). entry_of (page_of s 10 g (image_scn x) p entries) i) (old_length x p 10 entries fields is refl entries_room)
        ∙ entry_of-scn (image_size x) 10 g (image_scn x) p (p / entries_in (image_size x)) (image_scn x) i fields.scn inside

    scn_fits : FitsAt x p (stamped (old_page p x) scn_kind entries (image_scn x) p)
    scn_fits = record {
      head = λ e. absurd (let some = at.behind in omega arith);
      there = at.there;
      most = at.most;
      size = now_length x p 10 entries fields is refl entries_room;
      no_zeros = now_some x p 10 entries fields is refl entries_room;
      stamp = now_stamp x p 10 entries fields is refl entries_room;
      inventory = λ e. absurd (places_apart (image_size x) p fields.size e place);
      scn_page = λ e. now_kind x p 10 entries fields is refl entries_room;
      bits = λ q e taken. absurd (places_apart (image_size x) p fields.size (subst (λ (n : ℕ). is_inventory_place (image_size x) n ≡ true) e (inventory_there (image_size x) (q / bits_in (image_size x)) fields.size)) place);
      current = λ has. absurd (true≢false (sym has ∙ scn_no_entry x p place));
      no_lower = λ q e has below. absurd (let there = is.sound.entries.there q below has in omega arith);
      no_later = λ q e has.
          let least = entries-least (image_size x) fields.size in
          let inside : entry_number x q < entries_in (image_size x) = omega arith in
          omega (arith, all_current (entry_number x q) inside);
    }

pub stamped_kind : (old : Page) (kind : ℕ) (payload : List ℕ) (scn number : ℕ) → kind_of (stamped old kind payload scn number) ≡ kind
unfolding stamped
stamped_kind old kind payload scn number = kind_of-page_of (length old) kind _ scn number payload

pub plain_place : (size p : ℕ) → is_system_place size p ≡ false → (is_inventory_place size p ≡ false) × (is_scn_place size p ≡ false)
unfolding is_system_place
plain_place size p none = or_parts (is_inventory_place size p) (is_scn_place size p) none

-- a system page by its kind and its payload
pub system_is : (p kind : ℕ) (payload : List ℕ) (d : Draft) → system_kind d.image p ≡ kind → system_payload d.image p ≡ payload → system_page p d ≡ elim (is_kind d.image kind p) as (λ z. Draft) [ true ↦ d | false ↦ put p kind payload d ]
unfolding system_page
system_is p kind payload d e f =
    ap (λ (k : ℕ). elim (is_kind d.image k p) as (λ z. Draft) [ true ↦ d | false ↦ put p k (system_payload d.image p) d ]) e
    ∙ ap (λ (xs : List ℕ). elim (is_kind d.image kind p) as (λ z. Draft) [ true ↦ d | false ↦ put p kind xs d ]) f

-- what K has to hold of
pub record HoldsOfKinds (K : Page → Type 0) : Type 0 where
  pub inventories : (bytes : Page) → kind_of bytes ≡ inventory_kind → K bytes
  pub scn_pages : (bytes : Page) → kind_of bytes ≡ scn_kind → K bytes

module _ (K : Page → Type 0) (kinds : HoldsOfKinds K) (b : Base) where
  -- a draft in which page p is there
  pub record IsThere (p : ℕ) (d : Draft) : Type 0 where
    pub fits : Fits K b d
    pub below : p < length d.image

  pub put_there : (image : Image) (p kind : ℕ) (payload : List ℕ) (d : Draft) → IsPlace image p → IsPut K b image p kind payload d → IsThere p d
  put_there image p kind payload d at h = record {
    fits = h.fits;
    below =
        let low = at.there in
        let long : length d.image ≡ max (length h.between) (p + 1) = ap length h.is ∙ with_page_length p _ h.between (omega (arith, h.raises.long)) in
        omega arith;
  }

  -- a page that is there is taken
  pub taken_fits : (p : ℕ) (d : Draft) → 2 ≤ p → IsThere p d → Fits K b (take_page p d)
  taken_fits p d behind h =
      let held : IsWhole d.image = h.fits.whole in
      let low = h.below in
      let earlier = inventory_before (image_size d.image) p held.fields.size behind in
      (bit_put K kinds.scn_pages kinds.inventories b 0 p d (omega arith) h.fits low (omega arith)).fits

  place_later : (image x : Image) (p : ℕ) → Raises image x p → IsPlace image p → IsPlace x p
  place_later image x p raises at = record { behind = at.behind; there = let low = at.there in omega (arith, raises.long); most = at.most }

  -- a page of that kind is there already, or is made
  kind_there : (p kind : ℕ) (payload : List ℕ) (d : Draft) → IsPlace d.image p → Fits K b d → (p < length d.image → kind_of (page_at d.image p) ≡ kind)
      → (length d.image ≤ p → IsPut K b d.image p kind payload (put p kind payload d)) → IsThere p (elim (is_kind d.image kind p) as (λ z. Draft) [ true ↦ d | false ↦ put p kind payload d ])
  unfolding is_kind
  kind_there p kind payload d at before of_kind made = by_test (is_kind d.image kind p) refl
    where
      by_test : (t : Bool) → is_kind d.image kind p ≡ t → IsThere p (elim t as (λ z. Draft) [ true ↦ d | false ↦ put p kind payload d ])
      by_test true is = record { fits = before; below = ltb-true p (length d.image) (and_parts (nat_lt p (length d.image)) _ is).0 }
      by_test false none = elim (leb_tells (suc p) (length d.image)) [
        | inl w ↦ absurd (true≢false (sym (and_from _ _ w.0 (eq-eqb _ kind (of_kind w.1))) ∙ none))
        | inr w ↦ put_there d.image p kind payload _ at (made (omega (arith, w.1)))
      ]

  -- an inventory page of free bits is made at the end
  inventory_made : (p : ℕ) (d : Draft) → is_inventory_place (image_size d.image) p ≡ true → IsPlace d.image p → Fits K b d → length d.image ≤ p
      → IsPut K b d.image p 2 (inventory_payload (image_size d.image) ((p + 1) / bits_in (image_size d.image)) 0) (put p inventory_kind (inventory_payload (image_size d.image) ((p + 1) / bits_in (image_size d.image)) 0) d)
  inventory_made p d place at before end = put_fits K kinds.scn_pages b p 2 _ d before at
      (λ x h raises.
      let there = at.there in (
        subst (λ (s : ℕ). FitsAt x p (stamped (old_page p x) inventory_kind (inventory_payload s ((p + 1) / bits_in s) 0) (image_scn x) p)) raises.size
            (inventory_fits x p h.fields h.sound (place_later d.image x p raises at) (omega (arith, raises.long)) (subst (λ (s : ℕ). is_inventory_place s p ≡ true) (sym raises.size) place) raises.current),
        kinds.inventories _ (stamped_kind (old_page p x) 2 _ (image_scn x) p),
      ))

  -- an SCN page of the current SCN is made at the end
  scn_page_made : (p : ℕ) (d : Draft) → is_scn_place (image_size d.image) p ≡ true → IsPlace d.image p → Fits K b d → length d.image ≤ p
      → IsPut K b d.image p 10 (scn_payload (image_size d.image) (p / entries_in (image_size d.image)) (image_scn d.image)) (put p scn_kind (scn_payload (image_size d.image) (p / entries_in (image_size d.image)) (image_scn d.image)) d)
  scn_page_made p d place at before end = put_fits K kinds.scn_pages b p 10 _ d before at
      (λ x h raises.
      let there = at.there in (
        subst (λ (n : ℕ). FitsAt x p (stamped (old_page p x) scn_kind (scn_payload (image_size d.image) (p / entries_in (image_size d.image)) n) (image_scn x) p)) raises.scn
            (subst (λ (s : ℕ). FitsAt x p (stamped (old_page p x) scn_kind (scn_payload s (p / entries_in s) (image_scn x)) (image_scn x) p)) raises.size
            (scn_fits x p h.fields h.sound (place_later d.image x p raises at) (omega (arith, raises.long)) (subst (λ (s : ℕ). is_scn_place s p ≡ true) (sym raises.size) place))),
        kinds.scn_pages _ (stamped_kind (old_page p x) 10 _ (image_scn x) p),
      ))

  -- so a system page is there
  pub system_there : (p : ℕ) (d : Draft) → is_system_place (image_size d.image) p ≡ true → IsPlace d.image p → Fits K b d → IsThere p (system_page p d)
  unfolding system_payload is_system_place
  system_there p d place at before = by_kind (is_inventory_place (image_size d.image) p) refl
    where
      held : IsWhole d.image
      held = before.whole

      scn_place_there : is_inventory_place (image_size d.image) p ≡ false → is_scn_place (image_size d.image) p ≡ true
      scn_place_there other = elim (or_cases (is_inventory_place (image_size d.image) p) _ place) [ inl e ↦ absurd (true≢false (sym e ∙ other)) | inr e ↦ e ]

      chosen_kind : (t : Bool) → is_inventory_place (image_size d.image) p ≡ t → system_kind d.image p ≡ elim t as (λ z. ℕ) [ true ↦ 2 | false ↦ 10 ]
      chosen_kind t e = ap (λ (u : Bool). elim u as (λ z. ℕ) [ true ↦ 2 | false ↦ 10 ]) e

      chosen_payload : (t : Bool) → is_inventory_place (image_size d.image) p ≡ t
          → system_payload d.image p
          ≡ elim t as (λ z. List ℕ) [
            | true ↦ inventory_payload (image_size d.image) ((p + 1) / bits_in (image_size d.image)) 0
            | false ↦ scn_payload (image_size d.image) (p / entries_in (image_size d.image)) (image_scn d.image)
          ]
      chosen_payload t e = ap (λ (u : Bool). elim u as (λ z. List ℕ) [
        | true ↦ inventory_payload (image_size d.image) ((p + 1) / bits_in (image_size d.image)) 0
        | false ↦ scn_payload (image_size d.image) (p / entries_in (image_size d.image)) (image_scn d.image)
      ]) e

      by_kind : (t : Bool) → is_inventory_place (image_size d.image) p ≡ t → IsThere p (system_page p d)
      by_kind true inventory = subst (IsThere p)
          (sym (system_is p inventory_kind (inventory_payload (image_size d.image) ((p + 1) / bits_in (image_size d.image)) 0) d (chosen_kind true inventory) (chosen_payload true inventory)))
          (kind_there p 2 _ d at before (λ low. held.sound.sound.system.inventories p low inventory) (inventory_made p d inventory at before))
      by_kind false other =
          let scn : is_scn_place (image_size d.image) p ≡ true = scn_place_there other in
          subst (IsThere p)
          (sym (system_is p scn_kind (scn_payload (image_size d.image) (p / entries_in (image_size d.image)) (image_scn d.image)) d (chosen_kind false other) (chosen_payload false other)))
          (kind_there p 10 _ d at before (λ low. held.sound.sound.system.scn_pages p low scn) (scn_page_made p d scn at before))

  -- a new page with a payload that fits into each page size
  pub new_fits : (tries kind : ℕ) (payload : ℕ → List ℕ) (d : Draft) → (kind == 0) ≡ false → ((p : ℕ) → length (payload p) ≤ 1008) → ((x : Image) (p : ℕ) → IsWhole x → 5 ≤ p → p < most_pages → K (form_page p kind (payload p) x))
      → Fits K b d → Fits K b (new_within tries kind payload d).0
  unfolding new_within
  new_fits zero kind payload d some room holds before = fits_full K b d before
  new_fits (suc tries) kind payload d some room holds before = by_need (λ e h. new_fits tries kind payload e some room holds h) (first_not d.image (needed_at d.image p))
    where
      p : ℕ
      p = lowest_free d.image

      held : IsWhole d.image
      held = before.whole

      between : (5 ≤ p) × (p ≤ length d.image)
      between = lowest_between d.image held.sound.least

      at_place : (p == most_pages) ≡ false → IsPlace d.image p
      at_place below = let most = held.sound.most in record { behind = omega (arith, between.0); there = between.1; most = omega (arith, most, between.1, eqb-false p most_pages below) }

      by_place : ((e : Draft) → Fits K b e → Fits K b (new_within tries kind payload e).0) → IsPlace d.image p → (t : Bool) → is_system_place (image_size d.image) p ≡ t
          → Fits K b (elim t as (λ z. Draft × ℕ) [ true ↦ new_within tries kind payload (take_page p (system_page p d)) | false ↦ (take_page p (put p kind (payload p) d), p) ]).0
      by_place again at true place = again (take_page p (system_page p d)) (taken_fits p (system_page p d) (omega (arith, between.0)) (system_there p d place at before))
      by_place again at false place =
          let plain = plain_place (image_size d.image) p place in
          let size : SizeFacts (image_size d.image) = size_facts (image_size d.image) held.fields.size in
          taken_fits p (put p kind (payload p) d) (omega (arith, between.0)) (put_there d.image p kind (payload p) _ at
          (plain_here K kinds.scn_pages b p kind (payload p) d before (record { place = at; no_inventory = plain.0; no_scn_page = plain.1 }) some (omega (arith, size.at_least, room p))
          (holds d.image p held between.0 at.most)))

      by_end : ((e : Draft) → Fits K b e → Fits K b (new_within tries kind payload e).0) → (t : Bool) → (p == most_pages) ≡ t
          → Fits K b (elim t as (λ z. Draft × ℕ) [
            | true ↦ (no_page d, p)
            | false ↦ elim (is_system_place (image_size d.image) p) as (λ z. Draft × ℕ) [ true ↦ new_within tries kind payload (take_page p (system_page p d)) | false ↦ (take_page p (put p kind (payload p) d), p) ]
          ]).0
      by_end again true none = fits_full K b d before
      by_end again false below = by_place again (at_place below) (is_system_place (image_size d.image) p) refl

      by_need : ((e : Draft) → Fits K b e → Fits K b (new_within tries kind payload e).0) → (o : Option ℕ)
          → Fits K b (elim o as (λ z. Draft × ℕ) [
            | Some q ↦ (record d { broken = q ∷ d.broken }, 0)
            | None ↦ elim (p == most_pages) [
              | true ↦ (no_page d, p)
              | false ↦ elim (is_system_place (image_size d.image) p) [ true ↦ new_within tries kind payload (take_page p (system_page p d)) | false ↦ (take_page p (put p kind (payload p) d), p) ]
            ]
          ]).0
      by_need again (Some q) = fits_broken K b (q ∷ d.broken) d before
      by_need again None = by_end again (p == most_pages) refl

pub empty_text : (p : ℕ) → length (text_payload []) ≤ 1008
unfolding text_payload bytes_of
empty_text p = omega arith

-- a new raw page
pub new_raw_fits : (K : Page → Type 0) → HoldsOfKinds K → ((bytes : Page) → kind_of bytes ≡ raw_kind → K bytes) → (b : Base) → HasHeader b.image → IsSoundImage b.image
    → Fits K b (new_page 8 (λ p. text_payload []) (drafted b.image)).0
new_raw_fits K kinds raw_pages b h is =
    new_fits K kinds b (length b.image + 4) 8 (λ p. text_payload []) (drafted b.image) refl empty_text (λ x p whole five most. raw_pages _ (stamped_kind (old_page p x) 8 (text_payload []) (image_scn x) p)) (fits_first K b (header_whole b.image h is))
