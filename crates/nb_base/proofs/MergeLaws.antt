-- Once every entry is equal in both files, the main file alone has the image, but for pages of zeros at its end.
use Rattle.std.proofs.Common.{◌≡◌, ◌≢◌, inl, inr, ℕ, zero, suc, ◌-◌, ◌*◌, ◌<◌, ◌≤◌, List, [], ◌++◌, length, get_or, take, drop, replicate, refl, sym, ap, ◌∙◌, arith, length-append, mul-le-mul_right, suc-mul, true, Option, Some, None}
use Rattle.nb_base.proofs.Common.{leb_tells, take-append-le, take-append-drop, length-drop, get_or_append_left, get_or-append_right, is_zeros, page_in, slot_place, Files, bytes_of, Page, Image, page_at, image_size, image_in, trimmed, Base, delta_name, entry_for, main_page, owned_page, length-joined, page-joined, all-right, IsLaid, main_here, main_past, all_at, trimmed_alike, all_zeros, Held, IsMerged, owned-none}
use Rattle.nb_delta.proofs.GroupLaws.{page_past}
use Rattle.nb_model.specs.Owner.{slot_page}
use Rattle.nb_base.proofs.OwnedLaws.{Holds, owned-entry, entry_at, main-some, base-length, base-page}
use Rattle.nb_base.proofs.WrittenLaws.{laid_image}

-- A page of the main file, as its bytes have it.
module _ (main : Image) (bytes : List ℕ) (l : IsLaid main bytes) where
  long : length bytes ≡ length (main ++ l.rest) * image_size main
  long = ap length l.is ∙ length-joined (image_size main) (main ++ l.rest) l.sizes

  whole : (p : ℕ) → p < length (main ++ l.rest) → page_in (image_size main) bytes p ≡ page_at (main ++ l.rest) p
  unfolding page_in
  whole p low =
      let most : suc p * image_size main ≤ length (main ++ l.rest) * image_size main = mul-le-mul_right (image_size main) (omega (arith, low)) in
      take-append-le (image_size main) (drop (p * image_size main) bytes) (replicate (image_size main) 0) (omega (arith, length-drop (p * image_size main) bytes, most, long, suc-mul p (image_size main)))
      ∙ ap (λ (x : List ℕ). take (image_size main) (drop (p * image_size main) x)) l.is ∙ page-joined (image_size main) p (main ++ l.rest) l.sizes low

  behind : (p : ℕ) → length main ≤ p → p < length (main ++ l.rest) → page_at (main ++ l.rest) p ≡ replicate (image_size main) 0
  behind p past low =
      let k : ℕ = p - length main in
      let at : page_at (main ++ l.rest) p ≡ page_at l.rest k = get_or-append_right main l.rest (length main) p [] refl past in
      let inside : k < length l.rest = omega (arith, past, low, length-append main l.rest) in
      let size : length (page_at l.rest k) ≡ image_size main = all_at (λ page. length page ≡ image_size main) l.rest (all-right (λ page. length page ≡ image_size main) main l.rest l.sizes) k inside in
      at ∙ all_zeros (page_at l.rest k) (all_at (λ page. is_zeros page ≡ true) l.rest l.zeros k inside) ∙ ap (λ n. replicate n 0) size

  pub page_in-main : (p : ℕ) → page_in (image_size main) bytes p ≡ main_page (image_size main) main p
  page_in-main p = elim (leb_tells (suc p) (length main)) [
    | inl w ↦ whole p (omega (arith, w.1, length-append main l.rest)) ∙ get_or_append_left main l.rest [] p w.1 ∙ sym (main_here (image_size main) main p w.1)
    | inr w ↦ elim (leb_tells (suc p) (length (main ++ l.rest))) [
      | inl v ↦ whole p v.1 ∙ behind p (omega (arith, w.1)) v.1 ∙ sym (main_past (image_size main) main p (omega (arith, w.1)))
      | inr v ↦
          let most : length (main ++ l.rest) * image_size main ≤ p * image_size main = mul-le-mul_right (image_size main) (omega (arith, v.1)) in
          page_past (image_size main) p bytes (omega (arith, most, long)) ∙ sym (main_past (image_size main) main p (omega (arith, w.1)))
    ]
  ]

-- Every entry is equal in both files.
module _ (held : Held) (files : Files) (b : Base) (h : Holds b (files held.name) (files (delta_name held.name))) (sized : held.page_size ≡ image_size h.main) (entries : held.entries ≡ b.diverted)
    (merged : (k : ℕ) → k < length held.entries → IsMerged held files k) where
  abbrev delta : List ℕ
  delta = bytes_of (files (delta_name held.name))

  bytes_main : bytes_of (files held.name) ≡ h.has.bytes
  bytes_main = ap bytes_of h.has.there

  image_main : image_in (bytes_of (files held.name)) ≡ h.main
  image_main = ap image_in bytes_main ∙ laid_image h.main h.has.bytes h.has.laid

  -- the page of an entry is the main file's
  slot_zero : (k : ℕ) → entry_for 0 b.diverted ≡ Some k → slot_page (image_size h.main) h.main delta 0 k ≡ page_at h.main 0
  unfolding slot_page
  slot_zero k at =
      let e = entry_at 0 b.diverted k at in
      let names : get_or held.entries k 0 ≡ 0 = ap (λ (l : List ℕ). get_or l k 0) entries ∙ e.names in
      let same = (merged k (omega (arith, e.below, ap length entries))).later names in
      ap (λ (x : Page). take 64 (page_at h.main 0) ++ x) (ap (λ n. drop 64 (page_in n delta (slot_place n k))) (sym sized) ∙ sym same ∙ ap (λ (x : Image). drop 64 (page_at x 0)) image_main) ∙ take-append-drop 64 (page_at h.main 0)

  slot_behind : (q k : ℕ) → entry_for (suc q) b.diverted ≡ Some k → slot_page (image_size h.main) h.main delta (suc q) k ≡ main_page (image_size h.main) h.main (suc q)
  unfolding slot_page
  slot_behind q k at =
      let e = entry_at (suc q) b.diverted k at in
      let names : get_or held.entries k 0 ≡ suc q = ap (λ (l : List ℕ). get_or l k 0) entries ∙ e.names in
      let same = (merged k (omega (arith, e.below, ap length entries))).same (omega (arith, names)) in
      ap (λ n. page_in n delta (slot_place n k)) (sym sized) ∙ sym same ∙ ap (λ n. page_in held.page_size (bytes_of (files held.name)) n) names ∙ ap (λ n. page_in n (bytes_of (files held.name)) (suc q)) sized
      ∙ ap (λ (x : List ℕ). page_in (image_size h.main) x (suc q)) bytes_main ∙ page_in-main h.main h.has.bytes h.has.laid (suc q)

  page_same : (p : ℕ) → p ≢ 0 → owned_page (image_size h.main) h.main delta b.diverted p ≡ main_page (image_size h.main) h.main p
  page_same p other = by (entry_for p b.diverted) refl
    where
      of : (n k : ℕ) → n ≢ 0 → entry_for n b.diverted ≡ Some k → slot_page (image_size h.main) h.main delta n k ≡ main_page (image_size h.main) h.main n
      of zero k ne at = absurd (ne refl)
      of (suc q) k ne at = slot_behind q k at

      by : (x : Option ℕ) → entry_for p b.diverted ≡ x → owned_page (image_size h.main) h.main delta b.diverted p ≡ main_page (image_size h.main) h.main p
      by None e = owned-none (image_size h.main) h.main delta b.diverted p e
      by (Some k) e = owned-entry (image_size h.main) h.main delta b.diverted p k e ∙ of p k other e

  page_zero : 0 < length h.main → owned_page (image_size h.main) h.main delta b.diverted 0 ≡ page_at h.main 0
  page_zero some = by (entry_for 0 b.diverted) refl
    where
      by : (x : Option ℕ) → entry_for 0 b.diverted ≡ x → owned_page (image_size h.main) h.main delta b.diverted 0 ≡ page_at h.main 0
      by None e = owned-none (image_size h.main) h.main delta b.diverted 0 e ∙ main_here (image_size h.main) h.main 0 some
      by (Some k) e = owned-entry (image_size h.main) h.main delta b.diverted 0 k e ∙ slot_zero k e

  -- each page of the image is the main file's, or zeros after it
  page_alike : (p : ℕ) → main_page (image_size h.main) b.image p ≡ main_page (image_size h.main) h.main p
  page_alike p = elim (leb_tells (suc p) (length b.image)) [
    | inl w ↦ main_here (image_size h.main) b.image p w.1 ∙ base-page b (files held.name) (files (delta_name held.name)) h p w.1 ∙ by p
    | inr w ↦
        main_past (image_size h.main) b.image p (omega (arith, w.1)) ∙ sym (main_past (image_size h.main) h.main p (omega (arith, w.1, base-length b (files held.name) (files (delta_name held.name)) h)))
  ]
    where
      some : 1 ≤ length h.main
      some = main-some b (files held.name) (files (delta_name held.name)) h

      by : (n : ℕ) → owned_page (image_size h.main) h.main delta b.diverted n ≡ main_page (image_size h.main) h.main n
      by zero = page_zero (omega (arith, some)) ∙ sym (main_here (image_size h.main) h.main 0 (omega (arith, some)))
      by (suc q) = page_same (suc q) (λ e. absurd (omega (arith, e)))

  pub merged_alone : trimmed b.image ≡ h.main
  merged_alone = trimmed_alike (image_size h.main) b.image h.main page_alike ∙ h.has.laid.whole
