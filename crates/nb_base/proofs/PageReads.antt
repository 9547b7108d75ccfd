-- What is read of a main file, and of the image by the file that owns a page.
use Rattle.std.proofs.Common.{◌≡◌, ◌≢◌, inl, inr, ℕ, zero, suc, ◌+◌, ◌-◌, ◌*◌, ◌<◌, ◌≤◌, List, [], ◌++◌, length, take, drop, replicate, refl, sym, ap, ◌∙◌, arith, length-append, length-take, suc-mul, mul-le-mul_right, le_of_mul-le-mul_right, Bool, true, false, Option, Some, None}
use Rattle.nb_base.proofs.Common.{leb_tells, take_all, get_or_append_left, get_or-append_right, is_zeros, size_of, page_in, slot_place, stalled_state, File, Files, bytes_of, Known, ReadsPage, ReadsBytes, Page, Image, page_at, first_page, image_size, image_state, image_in, not_database, Base, ShowsIn, delta_name, entry_for, main_page, owned_page, formed, header-long, all-right, length-joined, page-joined, laid, laid-front, laid-wide, main_here, main_past, all_at, all_zeros, false_true, true≢false, owned-none}
use Rattle.nb_model.specs.Owner.{slot_page}
use Rattle.nb_base.proofs.WrittenLaws.{laid_formed, laid_image}
use Rattle.nb_base.proofs.OwnedLaws.{Holds, holds, bytes-size, base-page, base-size, base-state, owned-entry}

-- A page of a main file of that form.
module _ (bytes : List ℕ) (formed : not_database bytes ≡ None) (p size : ℕ) (same : size_of bytes ≡ size) where
  size_is : image_size (image_in bytes) ≡ size
  size_is = bytes-size bytes formed ∙ same

  wide : 1024 ≤ size
  wide = omega (arith, laid-wide (image_in bytes) bytes (laid bytes formed), size_is)

  abbrev pages : List Page
  pages = image_in bytes ++ (laid bytes formed).rest

  long : length bytes ≡ length (image_in bytes ++ (laid bytes formed).rest) * size
  long = ap length (laid bytes formed).is ∙ length-joined (image_size (image_in bytes)) pages (laid bytes formed).sizes ∙ ap (λ n. length pages * n) size_is

  -- it is there, or zeros of the file are
  there : p * size + size ≤ length bytes → take size (drop (p * size) bytes) ≡ main_page size (image_in bytes) p
  there fits =
      let room : (p + 1) * size ≤ length pages * size = omega (arith, fits, long, suc-mul p size) in
      let below : p + 1 ≤ length pages = le_of_mul-le-mul_right {k = size} room (omega (arith, wide)) in
      let sizes = (laid bytes formed).sizes in
      let read : take size (drop (p * size) bytes) ≡ page_at pages p =
      ap (λ n. take n (drop (p * n) bytes)) (sym size_is) ∙ ap (λ (x : List ℕ). take (image_size (image_in bytes)) (drop (p * image_size (image_in bytes)) x)) (laid bytes formed).is
      ∙ page-joined (image_size (image_in bytes)) p pages sizes (omega (arith, below)) in
      elim (leb_tells (suc p) (length (image_in bytes))) [
        | inl w ↦ read ∙ get_or_append_left (image_in bytes) (laid bytes formed).rest [] p w.1 ∙ sym (main_here size (image_in bytes) p w.1)
        | inr w ↦
            let rest : List Page = (laid bytes formed).rest in
            let k : ℕ = p - length (image_in bytes) in
            let behind : k < length rest = omega (arith, below, w.1, length-append (image_in bytes) rest) in
            let zeros : is_zeros (page_at rest k) ≡ true = all_at (λ (x : Page). is_zeros x ≡ true) rest (laid bytes formed).zeros k behind in
            let wide_ : length (page_at rest k) ≡ size = all_at (λ (x : Page). length x ≡ image_size (image_in bytes)) rest (all-right (λ (x : Page). length x ≡ image_size (image_in bytes)) (image_in bytes) rest sizes) k behind ∙ size_is in
            read ∙ get_or-append_right (image_in bytes) rest (length (image_in bytes)) p [] refl (omega (arith, w.1)) ∙ all_zeros (page_at rest k) zeros ∙ ap (λ n. replicate n 0) wide_ ∙ sym (main_past size (image_in bytes) p (omega (arith, w.1)))
      ]

  -- or the file ends before it
  past : length bytes < p * size + size → replicate size 0 ≡ main_page size (image_in bytes) p
  past short =
      let room : length pages * size < (p + 1) * size = omega (arith, short, long, suc-mul p size) in
      elim (leb_tells (p + 1) (length pages)) [
        | inl w ↦ let all : (p + 1) * size ≤ length pages * size = mul-le-mul_right size w.1 in absurd (omega (arith, room, all))
        | inr w ↦ sym (main_past size (image_in bytes) p (omega (arith, w.1, length-append (image_in bytes) (laid bytes formed).rest)))
      ]

  pub page_there : (file : File) → file ≡ Some bytes → (before after : List ℕ) → size ≡ length before → (found : Bool) → found ≡ true → ReadsPage file (p * length before) before after found → after ≡ main_page size (image_in bytes) p
  page_there file is before after wide_ true e reads =
      let all : length (bytes_of file) ≡ length bytes = ap (λ (f : File). length (bytes_of f)) is in
      let fits : p * size + size ≤ length bytes = omega (arith, reads.0, all, ap (λ n. p * n + n) wide_) in
      reads.1 ∙ ap (λ (f : File). take (length before) (drop (p * length before) (bytes_of f))) is ∙ ap (λ n. take n (drop (p * n) bytes)) (sym wide_) ∙ there fits
  page_there file is before after wide_ false e reads = absurd (false_true e)

  pub page_past : (file : File) → file ≡ Some bytes → (before after : List ℕ) → size ≡ length before → (found : Bool) → found ≡ false → ReadsPage file (p * length before) before after found → replicate size 0 ≡ main_page size (image_in bytes) p
  page_past file is before after wide_ false e reads =
      let all : length (bytes_of file) ≡ length bytes = ap (λ (f : File). length (bytes_of f)) is in
      past (omega (arith, reads.0, all, ap (λ n. p * n + n) wide_))
  page_past file is before after wide_ true e reads = absurd (true≢false e)

-- the first 64 bytes of a file
pub front_read : (file : File) (bytes before after : List ℕ) (count : ℕ) → file ≡ Some bytes → length before ≡ 64 → length after ≡ 64 → 64 ≤ length bytes → ReadsBytes file 0 before after count → after ≡ take 64 bytes
front_read file bytes before after count is room wide low reads =
    let read : take count after ≡ take 64 bytes = reads.bytes ∙ ap (λ (f : File). take (length before) (bytes_of f)) is ∙ ap (λ n. take n bytes) room in
    let few : count ≡ 64 = omega (arith, reads.room, room, wide, low, ap length read, length-take count after, length-take 64 bytes) in
    sym (take_all 64 after (omega (arith, wide))) ∙ ap (λ n. take n after) (sym few) ∙ read

-- A page of the image, by what was read of the file that owns it.
module _ (bytes : List ℕ) (formed_ : not_database bytes ≡ None) (size : ℕ) (delta entries : List ℕ) where
  pub long_enough : 64 ≤ length bytes
  long_enough = header-long bytes (formed bytes formed_).header

  pub first_owned : (k : ℕ) → entry_for 0 entries ≡ Some k → (read got : List ℕ) → got ≡ page_in size delta (slot_place size k) → read ≡ take 64 bytes ++ drop 64 got → read ≡ owned_page size (image_in bytes) delta entries 0
  unfolding slot_page
  first_owned k at read got is fronted =
      fronted ∙ ap (λ (x : List ℕ). x ++ drop 64 got) (laid-front (image_in bytes) bytes (laid bytes formed_)) ∙ ap (λ (x : List ℕ). take 64 (page_at (image_in bytes) 0) ++ drop 64 x) is
      ∙ sym (owned-entry size (image_in bytes) delta entries 0 k at)

  pub later_owned : (p k : ℕ) → p ≢ 0 → entry_for p entries ≡ Some k → (got : List ℕ) → got ≡ page_in size delta (slot_place size k) → got ≡ owned_page size (image_in bytes) delta entries p
  unfolding slot_page
  later_owned zero k other at got is = absurd (other refl)
  later_owned (suc p) k other at got is = is ∙ sym (owned-entry size (image_in bytes) delta entries (suc p) k at)

  pub main_owned : (p : ℕ) → entry_for p entries ≡ None → (got : List ℕ) → got ≡ main_page size (image_in bytes) p → got ≡ owned_page size (image_in bytes) delta entries p
  main_owned p none got is = is ∙ sym (owned-none size (image_in bytes) delta entries p none)

-- a page goes by its entry alone
owned_same : (size : ℕ) (main : Image) (delta xs ys : List ℕ) (p : ℕ) → entry_for p xs ≡ entry_for p ys → owned_page size main delta xs p ≡ owned_page size main delta ys p
unfolding owned_page
owned_same size main delta xs ys p same = ap (λ (x : Option ℕ). elim x as (λ z. Page) [ Some k ↦ slot_page size main delta p k | None ↦ main_page size main p ]) same

-- What the files of a database hold of a page, for whoever knows its entry.
pub record ReadsPageOf (files : Files) (name : List ℕ) (size : ℕ) (entries : List ℕ) (b : Base) (p : ℕ) : Type 0 where
  pub bytes : List ℕ
  pub there : files name ≡ Some bytes
  pub formed : not_database bytes ≡ None
  pub sized : size_of bytes ≡ size
  pub page : owned_page size (image_in bytes) (bytes_of (files (delta_name name))) entries p ≡ page_at b.image p

pub base_reads : (files : Files) (name : List ℕ) (size : ℕ) (entries : List ℕ) (b : Base) (p : ℕ) → ShowsIn name b files → size ≡ image_size b.image → entry_for p entries ≡ entry_for p b.diverted → p < length b.image
    → ReadsPageOf files name size entries b p
base_reads files name size entries b p opens sized entry low =
    let d : File = files (delta_name name) in
    let h : Holds b (files name) d = holds name b (files name) d opens in
    let image : image_in h.has.bytes ≡ h.main = laid_image h.main h.has.bytes h.has.laid in
    let none : not_database h.has.bytes ≡ None = laid_formed h.main h.has.bytes h.has.laid in
    let same : image_size h.main ≡ size = sym (base-size b (files name) d h) ∙ sym sized in
    record {
      bytes = h.has.bytes;
      there = h.has.there;
      formed = none;
      sized = sym (bytes-size h.has.bytes none) ∙ ap image_size image ∙ same;
      page = ap (λ (x : Image). owned_page size x (bytes_of d) entries p) image ∙ ap (λ n. owned_page n h.main (bytes_of d) entries p) (sym same) ∙ owned_same (image_size h.main) h.main (bytes_of d) entries b.diverted p entry
          ∙ sym (base-page b (files name) d h p low);
    }

-- What the main file of a stalled database holds of a page, as it is frozen.
pub record ReadsFrozen (files : Files) (name : List ℕ) (size : ℕ) (b : Base) (p : ℕ) : Type 0 where
  pub bytes : List ℕ
  pub there : files name ≡ Some bytes
  pub formed : not_database bytes ≡ None
  pub sized : size_of bytes ≡ size
  pub page : main_page size (image_in bytes) p ≡ page_at b.frozen p

pub frozen_reads : (files : Files) (name : List ℕ) (size : ℕ) (b : Base) (p : ℕ) → ShowsIn name b files → size ≡ image_size b.image → image_state b.image ≡ stalled_state → p < length b.frozen → ReadsFrozen files name size b p
frozen_reads files name size b p opens sized stalled low =
    let d : File = files (delta_name name) in
    let h : Holds b (files name) d = holds name b (files name) d opens in
    let image : image_in h.has.bytes ≡ h.main = laid_image h.main h.has.bytes h.has.laid in
    let none : not_database h.has.bytes ≡ None = laid_formed h.main h.has.bytes h.has.laid in
    let is : b.frozen ≡ h.main = h.frozen.stalled (sym (base-state b (files name) d h) ∙ stalled) in
    record {
      bytes = h.has.bytes;
      there = h.has.there;
      formed = none;
      sized = sym (bytes-size h.has.bytes none) ∙ ap image_size image ∙ sym (base-size b (files name) d h) ∙ sym sized;
      page = ap (λ (x : Image). main_page size x p) image ∙ main_here size h.main p (omega (arith, low, ap length is)) ∙ sym (ap (λ (x : Image). page_at x p) is);
    }

-- what was read of a slot, by what the object of the difference file knows
pub got_slot : (size : ℕ) (name : List ℕ) (files now : Files) (known k_ : Known) (k : ℕ) (got : List ℕ) → now ≡ files → k_ ≡ known → size ≡ known.page_size → known.name ≡ delta_name name
    → got ≡ page_in k_.page_size (bytes_of (now k_.name)) (slot_place k_.page_size k) → got ≡ page_in size (bytes_of (files (delta_name name))) (slot_place size k)
got_slot size name files now known k_ k got same knows size_is named is =
    is ∙ ap (λ (x : Known). page_in x.page_size (bytes_of (now x.name)) (slot_place x.page_size k)) knows ∙ ap (λ n. page_in n (bytes_of (now known.name)) (slot_place n k)) (sym size_is)
    ∙ ap (λ (x : List ℕ). page_in size (bytes_of (now x)) (slot_place size k)) named ∙ ap (λ (f : Files). page_in size (bytes_of (f (delta_name name))) (slot_place size k)) same

-- the same at an equal page size
pub sized_owned : (a b : ℕ) (main : Image) (delta entries : List ℕ) (p : ℕ) (got : List ℕ) → a ≡ b → got ≡ owned_page a main delta entries p → got ≡ owned_page b main delta entries p
sized_owned a b main delta entries p got same is = is ∙ ap (λ n. owned_page n main delta entries p) same

-- Page 0 as it was read through what is held of the difference file.
pub first_read : (files : Files) (name : List ℕ) (known : Known) (b : Base) (got : Page) (size : ℕ) → ShowsIn name b files → known.page_size ≡ image_size b.image → known.entries ≡ b.diverted → 0 < length b.image → size ≡ known.page_size → known.name ≡ delta_name name
    → ((bytes : List ℕ) → files name ≡ Some bytes → not_database bytes ≡ None → size_of bytes ≡ size → known.name ≡ delta_name name → got ≡ owned_page size (image_in bytes) (bytes_of (files (delta_name name))) known.entries 0)
    → got ≡ first_page b.image
first_read files name known b got size opens sized entries low wide named page =
    let r = base_reads files name known.page_size known.entries b 0 opens sized (ap (entry_for 0) entries) low in
    sized_owned _ _ _ _ _ _ _ wide (page r.bytes r.there r.formed (r.sized ∙ sym wide) named) ∙ r.page

pub sized_main : (a b : ℕ) (main : Image) (p : ℕ) (got : List ℕ) → a ≡ b → got ≡ main_page a main p → got ≡ main_page b main p
sized_main a b main p got same is = is ∙ ap (λ n. main_page n main p) same
