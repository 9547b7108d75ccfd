-- An image whose page 0 becomes a later one, of the same size, stays sound and goes on from what it went on from.
use Rattle.std.proofs.Common.{◌≡◌, ◌≢◌, inl, inr, ℕ, zero, suc, ◌/◌, ◌<◌, ◌≤◌, List, [], ◌∷◌, length, refl, sym, ap, subst, ◌∙◌, arith, true, false}
use Rattle.nb_model.proofs.Common.{eqb_tells, is_zeros, is_header, size_of, scn_of, guid_of, kind_of, stamp_of, entries_in, bits_in, is_inventory_place, is_scn_place, Page, Image, page_at, first_page, image_size, image_scn, Kept, inventory_of, scn_page_of, scn_entry, has_entry, is_free_page, HasHeader, IsSoundImage, nil, IsKeptAs, GoesOn, HasRows, NamesPast, HasOldEntries, scn_place-some}
use Rattle.nb_model.proofs.HeaderLaws.{header-other}
use Rattle.nb_model.proofs.MainLaws.{some_page}
use Rattle.nb_model.proofs.MixtureLaws.{has_same, scn_page_same, inventory_same, entry_same, free_same}
use Rattle.nb_model.proofs.PastLaws.{rows_with, no_history, no_rows_pass}
use Rattle.nb_model.proofs.PutSound.{header_fields}
use Rattle.nb_model.proofs.SoundLaws.{HasFields, all_from, all_at, kind_of_header, inventory_behind, inventory_place_some, scn_page_behind}
use Rattle.nb_model.proofs.StalledLaws.{behind_first}

-- the image with another page 0
abbrev pub with_first : Page → Image → Image
with_first page [] = []
with_first page (p ∷ ps) = page ∷ ps

-- page 0 may become this page
pub record IsLaterFirst (before page : Page) : Type 0 where
  pub long : length page ≡ length before
  pub header : is_header page ≡ true
  pub size : size_of page ≡ size_of before
  pub later : scn_of before ≤ scn_of page
  pub stamp : stamp_of page ≡ scn_of page

its_first : (page : Page) (image : Image) → 1 ≤ length image → first_page (with_first page image) ≡ page
its_first page [] some = absurd (omega arith)
its_first page (p ∷ ps) some = refl

its_rest : (page : Page) (image : Image) (q : ℕ) → 1 ≤ q → page_at (with_first page image) q ≡ page_at image q
its_rest page [] q some = refl
its_rest page (p ∷ ps) zero some = absurd (omega arith)
its_rest page (p ∷ ps) (suc q) some = refl

its_long : (page : Page) (image : Image) → length (with_first page image) ≡ length image
its_long page [] = refl
its_long page (p ∷ ps) = refl

module _ (image : Image) (page : Page) (h : HasHeader image) (is : IsSoundImage image) (later : IsLaterFirst (first_page image) page) where
  abbrev new : Image
  new = with_first page image

  fields : HasFields image
  fields = header_fields image h

  pub first : first_page new ≡ page
  first = its_first page image (some_page image h.header)

  rest : (q : ℕ) → 1 ≤ q → page_at new q ≡ page_at image q
  rest = its_rest page image

  same_length : length new ≡ length image
  same_length = its_long page image

  new_size : image_size new ≡ image_size image
  new_size = ap size_of first ∙ later.size

  new_scn : image_scn new ≡ scn_of page
  new_scn = ap scn_of first

  new_stamp : stamp_of (first_page new) ≡ scn_of page
  new_stamp = ap stamp_of first ∙ later.stamp

  pub new_header : is_header (first_page new) ≡ true
  new_header = ap is_header first ∙ later.header

  -- bits and entries stay
  new_entry : (p : ℕ) → scn_entry new p ≡ scn_entry image p
  new_entry p = entry_same new image new_size p (rest (scn_page_of image p) (omega (arith, scn_place-some (image_size image) (p / entries_in (image_size image)) fields.size)))

  pub new_free : (p : ℕ) → is_free_page new p ≡ is_free_page image p
  new_free p = free_same new image new_size p (rest (inventory_of image p) (inventory_place_some (image_size image) (p / bits_in (image_size image)) fields.size))

  -- what holds of page 0, and of the others as before
  each_new : (P : Page → Type 0) → P (first_page new) → ((q : ℕ) → q < length image → P (page_at image q)) → (q : ℕ) → q < length new → P (page_at new q)
  each_new P here others q low = elim (eqb_tells q 0) [
    | inl w ↦ subst (λ (n : ℕ). P (page_at new n)) (sym w.1) here
    | inr w ↦ subst P (sym (rest q (omega (arith, w.1)))) (others q (omega (arith, low, same_length)))
  ]

  pub first_sound : IsSoundImage new
  first_sound = record {
    sound = record {
      no_zeros = all_from (λ (x : Page). is_zeros x ≡ false) new
          (each_new (λ (x : Page). is_zeros x ≡ false) (header-other (first_page new) new_header) (λ q low. all_at (λ (x : Page). is_zeros x ≡ false) image is.sound.no_zeros q low));
      system = record {
        inventories = λ q low at.
            let place = subst (λ (s : ℕ). is_inventory_place s q ≡ true) new_size at in
            let some : q ≢ 0 = inventory_behind (image_size image) q fields.size place in
            ap kind_of (rest q (omega (arith, some))) ∙ is.sound.system.inventories q (omega (arith, low, same_length)) place;
        scn_pages = λ q low at.
            let place = subst (λ (s : ℕ). is_scn_place s q ≡ true) new_size at in
            let some : q ≢ 0 = scn_page_behind (image_size image) q place in
            ap kind_of (rest q (omega (arith, some))) ∙ is.sound.system.scn_pages q (omega (arith, low, same_length)) place;
      };
      bits = λ q low taken. omega (arith, same_length, is.sound.bits q (omega (arith, low, same_length, inventory_same new image new_size q)) (sym (new_free q) ∙ taken));
      entries = record {
        there = λ q low has. omega (arith, same_length, scn_page_same new image new_size q, is.sound.entries.there q (omega (arith, low, same_length)) (sym (has_same new image new_size q) ∙ has));
        no_lower = λ q low has.
            let has_old : has_entry image q ≡ true = sym (has_same new image new_size q) ∙ has in
            omega (arith, ap stamp_of (rest q (behind_first image q has_old)), new_entry q, is.sound.entries.no_lower q (omega (arith, low, same_length)) has_old);
        no_later = λ q low has.
            omega (arith, new_entry q, new_scn, later.later, is.sound.entries.no_later q (omega (arith, low, same_length, scn_page_same new image new_size q)) (sym (has_same new image new_size q) ∙ has));
      };
      stamps = record {
        no_later = each_new (λ (x : Page). stamp_of x ≤ image_scn new) (omega (arith, new_stamp, new_scn)) (λ q low. omega (arith, is.sound.stamps.no_later q low, later.later, new_scn));
        head = new_stamp ∙ sym new_scn;
      };
    };
    least = omega (arith, same_length, is.least);
    most = omega (arith, same_length, is.most);
    sizes = all_from (λ (x : Page). length x ≡ image_size new) new (each_new (λ (x : Page). length x ≡ image_size new)
        (ap length first ∙ later.long ∙ all_at (λ (x : Page). length x ≡ image_size image) image is.sizes 0 (omega (arith, is.least)) ∙ sym new_size)
        (λ q low. all_at (λ (x : Page). length x ≡ image_size image) image is.sizes q low ∙ sym new_size));
  }

  pub first_goes_on : (r : Kept) → GoesOn r image → GoesOn r new
  first_goes_on r on = record {
    earlier = omega (arith, on.earlier, later.later, new_scn);
    follows = record {
      size = new_size ∙ on.follows.size;
      no_shorter = omega (arith, on.follows.no_shorter, same_length);
      same = λ q low old. elim (eqb_tells q 0) [
        | inl w ↦ absurd (omega (arith, subst (λ (n : ℕ). stamp_of (page_at new n) ≤ r.scn) w.1 old, new_stamp, on.earlier, later.later))
        | inr w ↦
            let some : 1 ≤ q = omega (arith, w.1) in
            let was = on.follows.same q (omega (arith, low, same_length)) (omega (arith, old, ap stamp_of (rest q some))) in
            (was.0, rest q some ∙ was.1)
      ];
    };
  }

  -- It names what it named, but for the last backup.
  pub first_past : (kept : List Kept) (P R : Kept → Type 0) → ((r : Kept) → P r → R r) → (guid_of page ≢ nil → (r : Kept) × IsKeptAs kept (guid_of page) r × R r) → NamesPast kept P image → NamesPast kept R new
  first_past kept P R goes last past = record {
    rows = each_new (HasRows kept R) (no_rows_pass kept R (first_page new) (no_history (first_page new) (λ five. absurd (omega (arith, five, kind_of_header (first_page new) new_header)))))
        (λ q low. rows_with kept P R goes (page_at image q) (past.rows q low));
    last = λ some.
        let named = last (λ none. some (ap guid_of first ∙ none)) in
        (named.0, subst (λ (g : List ℕ). IsKeptAs kept g named.0) (sym (ap guid_of first)) named.1, named.2);
  }

  -- Where the SCN rises no entry is current.
  pub first_old : image_scn image < scn_of page → HasOldEntries new
  first_old rises q has low =
      omega (arith, new_entry q, new_scn, rises, is.sound.entries.no_later q (omega (arith, low, same_length, scn_page_same new image new_size q)) (sym (has_same new image new_size q) ∙ has))
