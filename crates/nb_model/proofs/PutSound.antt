-- Each stroke of `put` fits at its point.
use Rattle.std.proofs.Common.{◌≡◌, ◌≢◌, inl, inr, ℕ, suc, ◌+◌, ◌-◌, ◌*◌, ◌/◌, ◌%◌, ◌^◌, ◌<◌, ◌≤◌, List, ◌∷◌, ◌++◌, length, take, drop, replicate, refl, sym, ap, subst, ◌∙◌, arith, length-drop, Bool, true, false, not, ◌==◌, nat_le, nat_lt, Some, None}
use Rattle.nb_model.proofs.Common.{true≢false, cases_lt, eqb_tells, leb_tells, length-replicate, drop-drop, number_of, bytes_of, number_in, part, with_part, is_zeros, padded, entries_in, bits_in, is_inventory_place, is_scn_place, most_pages, head_of, page_of, kind_of, stamp_of, generation_of, stamped, entry_of, text_payload, length-bytes_of, length-with_part, number_in-with_part, number_in-with_part_other, length-head_of, length-page_of, kind_of-page_of, stamp_of-page_of, padded_whole, part-append, SizeFacts, size_facts, entries-least, scn_place-some, header_kind, raw_kind, scn_kind, Refusal, Page, Image, page_at, first_page, image_size, image_scn, with_page, Base, Draft, drafted, old_page, needs, is_kind, inventory_of, scn_page_of, entry_number, scn_entry, has_entry, entry_written, entry_raised, raised, put, Cause, first_cause, when, not_raw, too_long, IsSoundImage, HasHeader, some_none}
use Rattle.nb_model.proofs.DraftLaws.{either}
use Rattle.nb_model.proofs.FitLaws.{IsWhole, Fits, fits_first, fits_needs, form_page, written_image, fits_more}
use Rattle.nb_model.proofs.HeaderLaws.{header-size}
use Rattle.nb_model.proofs.SoundLaws.{all_at, page_no_zeros, inventory_there, scn_page_there, scn_place_before, with_page_length, HasFields, FitsAt, scn_no_entry, size_stays, scn_stays, entry_here, kind_of_header, written_other}

-- page p may be written: it isn't page 0, and stands below the length or at it
pub record IsPlace (image : Image) (p : ℕ) : Type 0 where
  pub behind : 1 ≤ p
  pub there : p ≤ length image
  pub most : p < most_pages

-- such a page that is no system page
pub record IsPlain (image : Image) (p : ℕ) : Type 0 where
  pub place : IsPlace image p
  pub no_inventory : is_inventory_place (image_size image) p ≡ false
  pub no_scn_page : is_scn_place (image_size image) p ≡ false

-- A page with the current SCN as its stamp.
module _ (image : Image) (p kind : ℕ) (payload : List ℕ) (fields : HasFields image) (is : IsSoundImage image) (some : (kind == 0) ≡ false) (room : 16 + length payload ≤ image_size image) where
  abbrev now_page : Page
  now_page = stamped (old_page p image) kind payload (image_scn image) p

  pub old_length : length (old_page p image) ≡ image_size image
  unfolding old_page
  old_length = elim (leb_tells (suc p) (length image)) [
    | inl w ↦ rw (w.0, old_page) (all_at (λ page. length page ≡ image_size image) image is.sizes p w.1)
    | inr w ↦ rw (w.0, old_page) (length-replicate (image_size image) 0)
  ]

  pub now_length : length now_page ≡ image_size image
  unfolding stamped
  now_length = length-page_of (length (old_page p image)) kind _ (image_scn image) p payload (omega (arith, old_length)) ∙ old_length

  pub now_kind : kind_of now_page ≡ kind
  unfolding stamped
  now_kind = kind_of-page_of (length (old_page p image)) kind _ (image_scn image) p payload

  pub now_stamp : stamp_of now_page ≡ image_scn image
  unfolding stamped
  now_stamp = stamp_of-page_of (length (old_page p image)) kind _ (image_scn image) p payload fields.scn

  pub now_some : is_zeros now_page ≡ false
  unfolding stamped
  now_some = page_no_zeros (length (old_page p image)) kind _ (image_scn image) p payload some

  -- it fits where no system page stands, once the entry is current
  plain_fits : IsPlain image p → (has_entry image p ≡ true → scn_entry image p ≡ image_scn image) → FitsAt image p now_page
  plain_fits plain current = record {
    head = λ e. absurd (let some = plain.place.behind in omega arith);
    there = plain.place.there;
    most = plain.place.most;
    size = now_length;
    no_zeros = now_some;
    stamp = now_stamp;
    inventory = λ at. absurd (true≢false (sym at ∙ plain.no_inventory));
    scn_page = λ at. absurd (true≢false (sym at ∙ plain.no_scn_page));
    bits = λ q at taken. absurd (inventory q at);
    current = current;
    no_lower = λ q at has low. absurd (scn_page q at);
    no_later = λ q at has. absurd (scn_page q at);
  }
    where
      inventory : (q : ℕ) → inventory_of image q ≡ p → ⊥
      inventory q at =
          let there : is_inventory_place (image_size image) p ≡ true = subst (λ (n : ℕ). is_inventory_place (image_size image) n ≡ true) at (inventory_there (image_size image) (q / bits_in (image_size image)) fields.size) in
          true≢false (sym there ∙ plain.no_inventory)

      scn_page : (q : ℕ) → scn_page_of image q ≡ p → ⊥
      scn_page q at =
          let there : is_scn_place (image_size image) p ≡ true = subst (λ (n : ℕ). is_scn_place (image_size image) n ≡ true) at (scn_page_there (image_size image) (q / entries_in (image_size image)) fields.size) in
          true≢false (sym there ∙ plain.no_scn_page)

-- the SCN page of a page with an entry is there
pub scn_page_below : (image : Image) (p : ℕ) → HasFields image → 5 ≤ length image → IsPlace image p → has_entry image p ≡ true → scn_page_of image p < length image
scn_page_below image p fields least at has =
    let place : is_scn_place (image_size image) (scn_page_of image p) ≡ true = scn_page_there (image_size image) (p / entries_in (image_size image)) fields.size in
    let other : scn_page_of image p ≢ p = λ e. true≢false (sym has ∙ scn_no_entry image p (ap (is_scn_place (image_size image)) (sym e) ∙ place)) in
    let there = at.there in
    elim (scn_place_before (image_size image) p fields.size) [ inl second ↦ omega arith | inr before ↦ omega arith ]

-- an entry after the head of a page that is stamped
entry_behind : (old : Page) (kind scn number i : ℕ) (whole : Page) → length whole ≡ length old → 16 ≤ length old → entry_of (stamped old kind (drop 16 whole) scn number) i ≡ entry_of whole i
unfolding stamped page_of number_in
entry_behind old kind scn number i whole len long =
    let g : ℕ = (generation_of old + 1) % 2 ^ 32 in
    let head : List ℕ = head_of kind g scn number in
    let place : 32 + 4 * i ≡ 16 + (16 + 4 * i) = omega arith in
    let rest : padded (length old - 16) (drop 16 whole) ≡ drop 16 whole = padded_whole (length old - 16) (drop 16 whole) (omega (arith, length-drop 16 whole)) in
    ap (λ (xs : List ℕ). number_of (part (32 + 4 * i) 4 (head ++ xs))) rest
    ∙ ap (λ (at : ℕ). number_of (part at 4 (head ++ drop 16 whole))) place
    ∙ ap number_of (part-append 16 (16 + 4 * i) 4 head (drop 16 whole) (length-head_of kind g scn number))
    ∙ ap (λ (xs : List ℕ). number_of (take 4 xs)) (drop-drop (16 + 4 * i) 16 whole)
    ∙ ap (λ (at : ℕ). number_of (part at 4 whole)) (sym place)

-- An SCN page with one entry raised to the current SCN.
module _ (image : Image) (p : ℕ) (fields : HasFields image) (is : IsSoundImage image) (low : scn_page_of image p < length image) where
  abbrev s : ℕ
  s = scn_page_of image p

  abbrev i : ℕ
  i = entry_number image p

  abbrev entries : Page
  entries = with_part (32 + 4 * i) (bytes_of 4 (image_scn image)) (page_at image s)

  abbrev raised_page : Page
  raised_page = stamped (old_page s image) scn_kind (drop 16 entries) (image_scn image) s

  page_length : length (page_at image s) ≡ image_size image
  page_length = all_at (λ page. length page ≡ image_size image) image is.sizes s low

  inside : (q : ℕ) → 32 + 4 * entry_number image q + 4 ≤ image_size image
  inside q =
      let facts : SizeFacts (image_size image) = size_facts (image_size image) fields.size in
      let least = entries-least (image_size image) fields.size in
      let below : entry_number image q < entries_in (image_size image) = omega arith in
      omega (arith, facts.at_least)

  entries_length : length entries ≡ image_size image
  entries_length =
      let room = inside p in
      let four = length-bytes_of 4 (image_scn image) in
      length-with_part (32 + 4 * i) (bytes_of 4 (image_scn image)) (page_at image s) (omega (arith, page_length)) ∙ page_length

  room : 16 + length (drop 16 entries) ≤ image_size image
  room = let facts : SizeFacts (image_size image) = size_facts (image_size image) fields.size in omega (arith, facts.at_least, entries_length, length-drop 16 entries)

  read_back : (q : ℕ) → entry_of raised_page (entry_number image q) ≡ entry_of entries (entry_number image q)
  read_back q =
      let facts : SizeFacts (image_size image) = size_facts (image_size image) fields.size in
      let len = old_length image s 10 (drop 16 entries) fields is refl room in
      entry_behind (old_page s image) 10 (image_scn image) s (entry_number image q) entries (entries_length ∙ sym len) (omega (arith, facts.at_least))

  entry_same : (q : ℕ) → entry_number image q ≡ i → entry_of raised_page (entry_number image q) ≡ image_scn image
  entry_same q e =
      let here = inside p in
      read_back q ∙ ap (entry_of entries) e ∙ number_in-with_part (32 + 4 * i) 4 (image_scn image) (page_at image s) fields.scn (omega (arith, page_length))

  entry_else : (q : ℕ) → scn_page_of image q ≡ s → entry_number image q ≢ i → entry_of raised_page (entry_number image q) ≡ scn_entry image q
  unfolding scn_entry
  entry_else q at other =
      let here = inside p in
      read_back q
      ∙ number_in-with_part_other (32 + 4 * i) 4 (32 + 4 * entry_number image q) 4 (bytes_of 4 (image_scn image)) (page_at image s) (length-bytes_of 4 (image_scn image)) (omega (arith, page_length))
      (elim (cases_lt i (entry_number image q)) [ inl less ↦ inl (omega arith) | inr more ↦ inr (omega (arith, other)) ])
      ∙ ap (λ (n : ℕ). entry_of (page_at image n) (entry_number image q)) (sym at)

  place : is_scn_place (image_size image) s ≡ true
  place = scn_page_there (image_size image) (p / entries_in (image_size image)) fields.size

  no_inventory : is_inventory_place (image_size image) s ≡ true → ⊥
  no_inventory at =
      let two = is.sound.system.inventories s low at in
      let ten = is.sound.system.scn_pages s low place in
      absurd (omega arith)

  raised_fits : FitsAt image s raised_page
  raised_fits = record {
    head = λ e. absurd (let two = scn_place-some (image_size image) (p / entries_in (image_size image)) fields.size in omega arith);
    there = omega arith;
    most = let most = is.most in omega arith;
    size = now_length image s 10 (drop 16 entries) fields is refl room;
    no_zeros = now_some image s 10 (drop 16 entries) fields is refl room;
    stamp = now_stamp image s 10 (drop 16 entries) fields is refl room;
    inventory = λ at. absurd (no_inventory at);
    scn_page = λ at. now_kind image s 10 (drop 16 entries) fields is refl room;
    bits = λ q at taken. absurd (no_inventory (subst (λ (n : ℕ). is_inventory_place (image_size image) n ≡ true) at (inventory_there (image_size image) (q / bits_in (image_size image)) fields.size)));
    current = λ has. absurd (true≢false (sym has ∙ scn_no_entry image s place));
    no_lower = λ q at has below. elim (eqb_tells (entry_number image q) i) [
      | inl w ↦ omega (arith, entry_same q w.1, is.sound.entries.no_later q (subst (λ (n : ℕ). n < length image) (sym at) low) has)
      | inr w ↦ omega (arith, entry_else q at w.1)
    ];
    no_later = λ q at has. elim (eqb_tells (entry_number image q) i) [
      | inl w ↦ omega (arith, entry_same q w.1)
      | inr w ↦ omega (arith, entry_else q at w.1, is.sound.entries.no_later q (subst (λ (n : ℕ). n < length image) (sym at) low) has)
    ];
  }

  now_current : scn_entry (with_page s raised_page image) p ≡ image_scn image
  now_current = entry_here image s raised_page fields is raised_fits p refl ∙ entry_same p refl

-- reading an inventory page changes no image
pub needs_image : (kind p : ℕ) (d : Draft) → (needs kind p d).image ≡ d.image
unfolding needs
needs_image kind p d = either (λ (x : Draft). x.image ≡ d.image) (is_kind d.image kind p) _ _ refl refl

-- x is the image with the SCN entry of page p raised to the current SCN, and no other page changed
pub record Raises (image x : Image) (p : ℕ) : Type 0 where
  pub size : image_size x ≡ image_size image
  pub scn : image_scn x ≡ image_scn image
  pub long : length x ≡ length image
  pub others : (q : ℕ) → q ≢ scn_page_of image p → page_at x q ≡ page_at image q
  pub current : has_entry x p ≡ true → scn_entry x p ≡ image_scn x

-- that changes no page that isn't an SCN page
raised_old : (image x : Image) (p : ℕ) → HasFields image → IsPlain image p → Raises image x p → old_page p x ≡ old_page p image
unfolding old_page
raised_old image x p fields plain raises =
    ap (λ (n : ℕ). elim (nat_lt p n) as (λ z. Page) [ true ↦ page_at x p | false ↦ replicate (image_size x) 0 ]) raises.long
    ∙ ap (λ (page : Page). elim (nat_lt p (length image)) as (λ z. Page) [ true ↦ page | false ↦ replicate (image_size x) 0 ]) (raises.others p other)
    ∙ ap (λ (n : ℕ). elim (nat_lt p (length image)) as (λ z. Page) [ true ↦ page_at image p | false ↦ replicate n 0 ]) raises.size
  where
    other : p ≢ scn_page_of image p
    other e = true≢false (sym (scn_page_there (image_size image) (p / entries_in (image_size image)) fields.size) ∙ ap (is_scn_place (image_size image)) (sym e) ∙ plain.no_scn_page)

-- a draft whose image is the image with that entry raised
pub record IsRaised (K : Page → Type 0) (b : Base) (image : Image) (p : ℕ) (d : Draft) : Type 0 where
  pub fits : Fits K b d
  pub raises : Raises image d.image p

-- What `put` leaves: the image with the entry of page p raised, and then with that page.
pub record IsPut (K : Page → Type 0) (b : Base) (image : Image) (p kind : ℕ) (payload : List ℕ) (d : Draft) : Type 0 where
  pub fits : Fits K b d
  pub between : Image
  pub raises : Raises image between p
  pub is : d.image ≡ with_page p (form_page p kind payload between) between

-- K holds of each SCN page
module _ (K : Page → Type 0) (scn_pages : (bytes : Page) → kind_of bytes ≡ scn_kind → K bytes) (b : Base) where
  entry_is_written : (p : ℕ) (d : Draft) → has_entry d.image p ≡ true → Fits K b d → IsPlace d.image p → IsRaised K b d.image p (entry_written p d)
  unfolding entry_written
  entry_is_written p d has before at =
      let h : IsWhole d.image = before.whole in
      let low : scn_page_of d.image p < length d.image = scn_page_below d.image p h.fields h.sound.least at has in
      let fits : FitsAt d.image (scn_page_of d.image p) (raised_page d.image p h.fields h.sound low) = raised_fits d.image p h.fields h.sound low in
      let of_kind : kind_of (raised_page d.image p h.fields h.sound low) ≡ scn_kind = fits.scn_page (place d.image p h.fields h.sound low) in
      let behind : 1 ≤ scn_page_of d.image p = let two = scn_place-some (image_size d.image) (p / entries_in (image_size d.image)) h.fields.size in omega arith in
      record {
        fits = fits_more K b (scn_page_of d.image p) 10 _ d behind before fits (scn_pages _ of_kind);
        raises = subst (λ (x : Image). Raises d.image x p) (sym (written_image (scn_page_of d.image p) 10 _ d behind)) (record {
          size = size_stays d.image _ _ h.fields h.sound fits;
          scn = scn_stays d.image _ _ h.fields h.sound fits;
          long = omega (arith, with_page_length (scn_page_of d.image p) (raised_page d.image p h.fields h.sound low) d.image fits.there);
          others = λ q other. written_other d.image _ _ h.fields h.sound fits q other;
          current = λ also. now_current d.image p h.fields h.sound low ∙ sym (scn_stays d.image _ _ h.fields h.sound fits);
        });
      }

  entry_is_raised : (p : ℕ) (d : Draft) → has_entry d.image p ≡ true → Fits K b d → IsPlace d.image p → IsRaised K b d.image p (entry_raised p d)
  unfolding entry_raised
  entry_is_raised p d has before at = elim (leb_tells (suc (scn_entry d.image p)) (image_scn d.image)) [
    | inl w ↦ rw (w.0, entry_raised) (entry_is_written p d has before at)
    | inr w ↦
        let h : IsWhole d.image = before.whole in
        let low : scn_page_of d.image p < length d.image = scn_page_below d.image p h.fields h.sound.least at has in
        let most = h.sound.sound.entries.no_later p low has in
        rw (w.0, entry_raised) (record { fits = before; raises = record { size = refl; scn = refl; long = refl; others = λ q other. refl; current = λ also. omega (arith, w.1) } })
  ]

  pub is_raised : (p : ℕ) (d : Draft) → Fits K b d → IsPlace d.image p → IsRaised K b d.image p (raised p d)
  unfolding raised
  is_raised p d before at = by_test (has_entry d.image p) refl
    where
      read : Draft
      read = needs 10 (scn_page_of d.image p) d

      same : read.image ≡ d.image
      same = needs_image 10 (scn_page_of d.image p) d

      by_test : (t : Bool) → has_entry d.image p ≡ t → IsRaised K b d.image p (raised p d)
      by_test true has = rw (has, raised) (subst (λ (image : Image). IsRaised K b image p (entry_raised p read)) same
          (entry_is_raised p read (ap (λ (x : Image). has_entry x p) same ∙ has) (fits_needs K b 10 (scn_page_of d.image p) d before) (subst (λ (x : Image). IsPlace x p) (sym same) at)))
      by_test false has = rw (has, raised) (record {
        fits = before;
        raises = record { size = refl; scn = refl; long = refl; others = λ q other. refl; current = λ also. absurd (true≢false (sym also ∙ has)) };
      })

  -- so each stroke of `put` fits, where the page fits once its entry is raised
  pub put_fits : (p kind : ℕ) (payload : List ℕ) (d : Draft) → Fits K b d → IsPlace d.image p
      → ((x : Image) → IsWhole x → Raises d.image x p → FitsAt x p (form_page p kind payload x) × K (form_page p kind payload x))
      → IsPut K b d.image p kind payload (put p kind payload d)
  unfolding put
  put_fits p kind payload d before at fit =
      let ready : IsRaised K b d.image p (raised p d) = is_raised p d before at in
      let x : Image = (raised p d).image in
      let now = fit x ready.fits.whole ready.raises in
      record {
        fits = fits_more K b p kind payload (raised p d) at.behind ready.fits now.0 now.1;
        between = x;
        raises = ready.raises;
        is = written_image p kind payload (raised p d) at.behind;
      }

  -- a page that is no system page fits then
  pub plain_here : (p kind : ℕ) (payload : List ℕ) (d : Draft) → Fits K b d → IsPlain d.image p → (kind == 0) ≡ false → 16 + length payload ≤ image_size d.image
      → K (form_page p kind payload d.image) → IsPut K b d.image p kind payload (put p kind payload d)
  plain_here p kind payload d before plain some room holds = put_fits p kind payload d before plain.place fit
    where
      fit : (x : Image) → IsWhole x → Raises d.image x p → FitsAt x p (form_page p kind payload x) × K (form_page p kind payload x)
      fit x h raises =
          let room_x : 16 + length payload ≤ image_size x = omega (arith, room, raises.size) in
          let plain_x : IsPlain x p = record {
            place = record { behind = plain.place.behind; there = let low = plain.place.there in omega (arith, raises.long); most = plain.place.most };
            no_inventory = ap (λ (s : ℕ). is_inventory_place s p) raises.size ∙ plain.no_inventory;
            no_scn_page = ap (λ (s : ℕ). is_scn_place s p) raises.size ∙ plain.no_scn_page;
          } in
          let same : form_page p kind payload x ≡ form_page p kind payload d.image =
          ap (λ (old : Page). stamped old kind payload (image_scn x) p) (raised_old d.image x p before.whole.fields plain raises) ∙ ap (λ (n : ℕ). stamped (old_page p d.image) kind payload n p) raises.scn in
          (plain_fits x p kind payload h.fields h.sound some room_x plain_x raises.current, subst K (sym same) holds)

  pub plain_put : (p kind : ℕ) (payload : List ℕ) (d : Draft) → Fits K b d → IsPlain d.image p → (kind == 0) ≡ false → 16 + length payload ≤ image_size d.image
      → ((bytes : Page) → kind_of bytes ≡ kind → K bytes) → IsPut K b d.image p kind payload (put p kind payload d)
  plain_put p kind payload d before plain some room of_kind =
      plain_here p kind payload d before plain some room (of_kind _ (now_kind d.image p kind payload before.whole.fields before.whole.sound some room))

pub header_fields : (image : Image) → HasHeader image → HasFields image
header_fields image h = record { size = header-size (first_page image) h.header; scn = h.scn }

-- no cause is there
pub no_first : (c : Cause) (cs : List Cause) → first_cause (c ∷ cs) ≡ None → (c ≡ None) × (first_cause cs ≡ None)
unfolding first_cause
no_first None cs h = (refl, h)
no_first (Some r) cs h = absurd (some_none r h)

pub not_when : (t : Bool) (r : Refusal) → when t r ≡ None → t ≡ false
not_when false r h = refl
not_when true r h = absurd (some_none r h)

-- what is read and written is below the length, and a raw page
pub raw_facts : (image : Image) (p : ℕ) → not_raw image p ≡ None → (p < length image) × (kind_of (page_at image p) ≡ raw_kind)
unfolding not_raw
raw_facts image p h =
    let one = no_first _ _ h in
    let two = no_first _ _ one.1 in
    let three = no_first _ _ two.1 in
    let four = no_first _ _ three.1 in
    let inside : nat_le (length image) p ≡ false = not_when _ _ one.0 in
    let raw : not (kind_of (page_at image p) == raw_kind) ≡ false = not_when _ _ four.0 in (
      elim (leb_tells (length image) p) [ inl w ↦ absurd (true≢false (sym w.0 ∙ inside)) | inr w ↦ w.1 ],
      elim (eqb_tells (kind_of (page_at image p)) 8) [ inl w ↦ w.1 | inr w ↦ absurd (true≢false (ap not (sym w.0) ∙ raw)) ],
    )

-- so it is no system page
pub raw_plain : (image : Image) (p : ℕ) → HasHeader image → IsSoundImage image → not_raw image p ≡ None → IsPlain image p
raw_plain image p h is none =
    let raw = raw_facts image p none in
    let low : p < length image = raw.0 in
    let kind : kind_of (page_at image p) ≡ raw_kind = raw.1 in
    let most = is.most in
    record {
      place = record {
        behind = elim (eqb_tells p 0) [
          | inl w ↦ let first : kind_of (page_at image p) ≡ header_kind = ap (λ (n : ℕ). kind_of (page_at image n)) w.1 ∙ kind_of_header (first_page image) h.header in absurd (omega arith)
          | inr w ↦ omega (arith, w.1)
        ];
        there = omega arith;
        most = omega arith;
      };
      no_inventory = by_inventory low kind (is_inventory_place (image_size image) p) refl;
      no_scn_page = by_scn_page low kind (is_scn_place (image_size image) p) refl;
    }
  where
    by_inventory : p < length image → kind_of (page_at image p) ≡ raw_kind → (t : Bool) → is_inventory_place (image_size image) p ≡ t → is_inventory_place (image_size image) p ≡ false
    by_inventory low kind true at = absurd (let two = is.sound.system.inventories p low at in omega arith)
    by_inventory low kind false at = at

    by_scn_page : p < length image → kind_of (page_at image p) ≡ raw_kind → (t : Bool) → is_scn_place (image_size image) p ≡ t → is_scn_place (image_size image) p ≡ false
    by_scn_page low kind true at = absurd (let ten = is.sound.system.scn_pages p low at in omega arith)
    by_scn_page low kind false at = at

text_room : (text : List ℕ) → length text ≤ 200 → length (text_payload text) ≤ 202
unfolding text_payload bytes_of
text_room text short = omega arith

pub header_whole : (image : Image) → HasHeader image → IsSoundImage image → IsWhole image
header_whole image h is = record { fields = header_fields image h; sound = is }

-- a text that isn't too long
pub short_text : (text : List ℕ) → too_long text ≡ None → length text ≤ 200
short_text text none = elim (leb_tells 201 (length text)) [
  | inl w ↦ absurd (true≢false (sym w.0 ∙ not_when (nat_lt 200 (length text)) _ none))
  | inr w ↦ omega (arith, w.1)
]

-- a text is put into a raw page
pub text_fits : (K : Page → Type 0) → ((bytes : Page) → kind_of bytes ≡ scn_kind → K bytes) → ((bytes : Page) → kind_of bytes ≡ raw_kind → K bytes)
    → (b : Base) (p : ℕ) (text : List ℕ) → HasHeader b.image → IsSoundImage b.image → not_raw b.image p ≡ None → length text ≤ 200 → Fits K b (put p raw_kind (text_payload text) (drafted b.image))
text_fits K scn_pages raw_pages b p text h is none short =
    let fields : HasFields b.image = header_fields b.image h in
    let facts : SizeFacts (image_size b.image) = size_facts (image_size b.image) fields.size in
    (plain_put K scn_pages b p 8 (text_payload text) (drafted b.image) (fits_first K b (header_whole b.image h is)) (raw_plain b.image p h is none) refl (omega (arith, facts.at_least, text_room text short)) raw_pages).fits
