-- A write of page 0 fits: its first 64 bytes stay.
use Rattle.std.proofs.Common.{◌≡◌, ◌≢◌, ℕ, zero, suc, ◌+◌, ◌-◌, ◌<◌, ◌≤◌, ◌/◌, List, [], ◌∷◌, length, take, drop, replicate, refl, sym, ap, ◌∙◌, arith, length-append, length-drop, true, false, ◌==◌}
use Rattle.nb_model.proofs.Common.{true≢false, and_parts, eqb-true, false_from_ne_true, take_at, length-take-le, drop-replicate, number_of, number_in, with_part, is_zeros, is_header, entries_in, bits_in, kind_of, number_in-take, length-with_part, SizeFacts, size_facts, header_kind, Page, Image, first_page, image_size, Base, merged_page, has_entry, byte_strokes, IsSoundImage, HasHeader, scn_place-some}
use Rattle.nb_model.proofs.SoundLaws.{all_at, inventory_behind, inventory_place_some, scn_page_behind, HasFields, FitsAt, kind_of_header}
use Rattle.nb_model.proofs.FitLaws.{AreFitting}
use Rattle.nb_model.proofs.PutSound.{header_fields}

-- bytes of zeros spell 0
pub all_zeros : (bytes : List ℕ) → is_zeros bytes ≡ true → bytes ≡ replicate (length bytes) 0
all_zeros [] h = refl
all_zeros (b ∷ bs) h =
    let parts = and_parts (b == 0) (is_zeros bs) h in
    let here : b ≡ 0 = eqb-true b 0 parts.0 in
    let rest = all_zeros bs parts.1 in
    cc

front_spells : (k m : ℕ) → number_of (take k (replicate m 0)) ≡ 0
unfolding number_of
front_spells zero m = refl
front_spells (suc k) zero = refl
front_spells (suc k) (suc m) = let rest = front_spells k m in omega arith

zeros_spell : (at w n : ℕ) → number_in at w (replicate n 0) ≡ 0
unfolding number_in
zeros_spell at w n = ap (λ (xs : List ℕ). number_of (take w xs)) (drop-replicate at n 0) ∙ front_spells w (n - at)

-- a page that has a number other than 0 isn't all zeros
spells : (at w : ℕ) (bytes : List ℕ) → number_in at w bytes ≢ 0 → is_zeros bytes ≡ false
spells at w bytes some = false_from_ne_true (is_zeros bytes) (λ none. some (ap (number_in at w) (all_zeros bytes none) ∙ zeros_spell at w (length bytes)))

module _ (image : Image) (bytes : Page) (fields : HasFields image) (is : IsSoundImage image) (long : length bytes ≡ image_size image) where
  abbrev head_page : Page
  head_page = merged_page 0 bytes image

  facts : SizeFacts (image_size image)
  facts = size_facts (image_size image) fields.size

  first_length : length (first_page image) ≡ image_size image
  first_length = let least = is.least in all_at (λ page. length page ≡ image_size image) image is.sizes 0 (omega arith)

  front_length : length (take 64 (first_page image)) ≡ 64
  front_length = length-take-le 64 (first_page image) (omega (arith, facts.at_least, first_length))

  front : take 64 head_page ≡ take 64 (first_page image)
  unfolding merged_page
  front = take_at (take 64 (first_page image)) (drop 64 bytes) 64 front_length

  head_length : length head_page ≡ image_size image
  unfolding merged_page
  head_length = omega (arith, facts.at_least, front_length, length-append (take 64 (first_page image)) (drop 64 bytes), length-drop 64 bytes)

  head_number : (at w : ℕ) → at + w ≤ 64 → number_in at w head_page ≡ number_in at w (first_page image)
  head_number at w inside = sym (number_in-take 64 at w head_page inside) ∙ ap (number_in at w) front ∙ number_in-take 64 at w (first_page image) inside

  first_has_none : has_entry image 0 ≡ false
  unfolding has_entry
  first_has_none = refl

  -- page 0 fits with its first 64 bytes
  pub head_fits : FitsAt image 0 (merged_page 0 bytes image)
  head_fits = record {
    head = λ e. front;
    there = omega arith;
    most = omega arith;
    size = head_length;
    no_zeros = spells 24 4 head_page (λ none. absurd (omega (arith, facts.at_least, head_number 24 4 (omega arith))));
    stamp = head_number 8 4 (omega arith) ∙ is.sound.stamps.head;
    inventory = λ at. absurd (inventory_behind (image_size image) 0 fields.size at refl);
    scn_page = λ at. absurd (scn_page_behind (image_size image) 0 at refl);
    bits = λ q at taken. absurd (let some = inventory_place_some (image_size image) (q / bits_in (image_size image)) fields.size in omega arith);
    current = λ has. absurd (true≢false (sym has ∙ first_has_none));
    no_lower = λ q at has low. absurd (let some = scn_place-some (image_size image) (q / entries_in (image_size image)) fields.size in omega arith);
    no_later = λ q at has. absurd (let some = scn_place-some (image_size image) (q / entries_in (image_size image)) fields.size in omega arith);
  }

  head_kind : is_header (first_page image) ≡ true → kind_of head_page ≡ header_kind
  head_kind header = head_number 0 1 (omega arith) ∙ kind_of_header (first_page image) header

-- One byte of page 0 is written, as for forced writes and for access.
changed_length : (image : Image) (at value : ℕ) → HasFields image → IsSoundImage image → at < 1024 → length (with_part at (value ∷ []) (first_page image)) ≡ image_size image
changed_length image at value fields is inside =
    let size : SizeFacts (image_size image) = size_facts (image_size image) fields.size in
    let first : length (first_page image) ≡ image_size image = let least = is.least in all_at (λ page. length page ≡ image_size image) image is.sizes 0 (omega arith) in
    length-with_part at (value ∷ []) (first_page image) (omega (arith, size.at_least)) ∙ first

pub byte_fits : (K : Page → Type 0) → ((bytes : Page) → kind_of bytes ≡ header_kind → K bytes) → (b : Base) (at value : ℕ) → HasHeader b.image → IsSoundImage b.image → at < 1024
    → AreFitting K b (byte_strokes at value b.image)
unfolding byte_strokes
byte_fits K headers b at value h is inside =
    let fields : HasFields b.image = header_fields b.image h in
    let long : length (with_part at (value ∷ []) (first_page b.image)) ≡ image_size b.image = changed_length b.image at value fields is inside in
    ((head_fits b.image (with_part at (value ∷ []) (first_page b.image)) fields is long, headers _ (head_kind b.image (with_part at (value ∷ []) (first_page b.image)) fields is long h.header)), tt)
