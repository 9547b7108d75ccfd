-- A main file in the normal state: the database of it, and where its pages stand.
use Rattle.std.proofs.Common.{◌≡◌, ◌≢◌, ◌⊎◌, inl, inr, ℕ, zero, suc, ◌*◌, ◌<◌, ◌≤◌, List, [], ◌∷◌, ◌++◌, length, take, drop, refl, sym, ap, subst, ◌∙◌, arith, append_assoc, length-append, length-take-le, take-take, mul-le-mul_left, Bool, true, false, IsTrue, ◌==◌, Option, Some, None, Result, Ok, Err, max}
use Rattle.nb_model.proofs.Common.{eqb-false, leb_tells, take-append-le, take_at, is_zeros, is_header, state_of, size_of, is_page_size, most_pages, size_facts, normal_state, stalled_state, merge_state, File, Refusal, NoFile, BadDelta, Unfinished, Page, Image, page_at, first_page, image_size, image_state, image_in, cut, trimmed, Cause, not_database, joined, IsOfSize, Base, base_of, delta_name, entry_for, behind_entries, slot_page, main_page, owned_page, owned_from, owned, diverted_base, owner_with, owner, HoldsMain, ok_same, err_ok}
use Rattle.nb_fields.specs.Table.{table_of}
use Rattle.nb_model.specs.Owner.{owner_in}
use Rattle.nb_model.proofs.FormLaws.{Formed, formed, no_cause}
use Rattle.nb_model.proofs.HeaderLaws.{header-long, header-state, header-other, same-header, same-number}
use Rattle.nb_model.proofs.ImageLaws.{AreZeros, IsTrimmed, Pages, pages_of, cut-joined, page-joined, length-joined, trimming, trimmed-other, trimmed-append_zeros, all-append, all-left}
use Rattle.nb_model.proofs.SoundLaws.{all_at}

-- A file is an image and pages of zeros after it. The image has a header, and its last page isn't zeros.
pub record IsLaid (image : Image) (bytes : List ℕ) : Type 0 where
  pub rest : List Page
  pub is : bytes ≡ joined (image ++ rest)
  pub size : IsTrue (is_page_size (image_size image))
  pub sizes : IsOfSize (image_size image) (image ++ rest)
  pub zeros : AreZeros rest
  pub whole : IsTrimmed image
  pub header : is_header (first_page image) ≡ true
  pub least : 5 ≤ length (image ++ rest)
  pub most : length (image ++ rest) ≤ most_pages

-- The same, whether pages of zeros stand at the image's end or not.
pub record IsLaidOut (image : Image) (bytes : List ℕ) : Type 0 where
  pub rest : List Page
  pub is : bytes ≡ joined (image ++ rest)
  pub size : IsTrue (is_page_size (image_size image))
  pub sizes : IsOfSize (image_size image) (image ++ rest)
  pub zeros : AreZeros rest
  pub header : is_header (first_page image) ≡ true
  pub least : 5 ≤ length (image ++ rest)
  pub most : length (image ++ rest) ≤ most_pages

pub whole_laid : (image : Image) (bytes : List ℕ) → IsLaidOut image bytes → IsTrimmed image → IsLaid image bytes
whole_laid image bytes out whole = record { rest = out.rest; is = out.is; size = out.size; sizes = out.sizes; zeros = out.zeros; whole = whole; header = out.header; least = out.least; most = out.most }

-- an image with a header has a page
pub some_page : (image : Image) → is_header (first_page image) ≡ true → 1 ≤ length image
some_page [] h = absurd (let few : 64 ≤ 0 = header-long [] h in omega (arith, few))
some_page (p ∷ ps) h = omega arith

-- its first 64 bytes are those of the file
pub laid-front : (image : Image) (bytes : List ℕ) → IsLaid image bytes → take 64 bytes ≡ take 64 (first_page image)
laid-front [] bytes laid = absurd (let few : 1 ≤ 0 = some_page [] laid.header in omega (arith, few))
laid-front (p ∷ ps) bytes laid = ap (take 64) laid.is ∙ take-append-le 64 p (joined (ps ++ laid.rest)) (header-long p laid.header)

pub laid-wide : (image : Image) (bytes : List ℕ) → IsLaid image bytes → 1024 ≤ image_size image
laid-wide image bytes laid = (size_facts (image_size image) laid.size).at_least

-- so many pages
times-one : (n size : ℕ) → 0 < size → n ≤ n * size
times-one n size h = let low : n * 1 ≤ n * size = mul-le-mul_left n h in omega (arith, low)

pub image_in-is : (bytes : List ℕ) (size : ℕ) (ps : List Page) → size_of bytes ≡ size → bytes ≡ joined ps → IsOfSize size ps → 0 < size → image_in bytes ≡ trimmed ps
unfolding image_in
image_in-is bytes size ps same is sizes some =
    let long : length bytes ≡ length ps * size = ap length is ∙ length-joined size ps sizes in
    let low : length ps ≤ length bytes = omega (arith, times-one (length ps) size some) in
    ap (λ x. trimmed (cut x (length bytes) bytes)) same ∙ ap (λ (x : List ℕ). trimmed (cut size (length bytes) x)) is ∙ ap trimmed (cut-joined size (length bytes) ps sizes some low)

-- a file laid so holds the image
pub main_laid : (image : Image) (bytes : List ℕ) → IsLaid image bytes → image_state image ≡ normal_state → HoldsMain image (Some bytes)
main_laid image bytes laid normal =
    let front : take 64 bytes ≡ take 64 (first_page image) = laid-front image bytes laid in
    let wide : 1024 ≤ image_size image = laid-wide image bytes laid in
    let same : size_of bytes ≡ image_size image = same-number bytes (first_page image) front 24 4 (omega arith) in
    let long : length bytes ≡ length (image ++ laid.rest) * image_size image = ap length laid.is ∙ length-joined (image_size image) (image ++ laid.rest) laid.sizes in
    record {
      bytes = bytes;
      there = refl;
      formed = no_cause bytes (image_size image) (length (image ++ laid.rest)) (same-header bytes (first_page image) front ∙ laid.header) same (omega arith) long laid.least laid.most;
      normal = same-number bytes (first_page image) front 22 2 (omega arith) ∙ normal;
      is = image_in-is bytes (image_size image) (image ++ laid.rest) same laid.is laid.sizes (omega arith) ∙ trimmed-append_zeros image laid.rest laid.zeros ∙ laid.whole;
    }

-- page 0 of pages of which the first isn't zeros
pub trimmed-first : (ps : List Page) → 1 ≤ length ps → is_zeros (first_page ps) ≡ false → first_page (trimmed ps) ≡ first_page ps
trimmed-first [] some other = absurd (omega arith)
trimmed-first (p ∷ ps) some other = ap first_page (trimmed-other p ps other)

-- pages of zeros at the image's end are among those after it
pub trimmed_laid : (image : Image) (bytes : List ℕ) → IsLaidOut image bytes → IsLaid (trimmed image) bytes
trimmed_laid image bytes out =
    let cut_off = trimming image in
    let first : first_page (trimmed image) ≡ first_page image = trimmed-first image (some_page image out.header) (header-other (first_page image) out.header) in
    let same : image_size (trimmed image) ≡ image_size image = ap size_of first in
    let pages : image ++ out.rest ≡ trimmed image ++ (cut_off.rest ++ out.rest) = ap (λ (x : Image). x ++ out.rest) cut_off.is ∙ append_assoc (trimmed image) cut_off.rest out.rest in
    record {
      rest = cut_off.rest ++ out.rest;
      is = out.is ∙ ap joined pages;
      size = subst (λ x. IsTrue (is_page_size x)) (sym same) out.size;
      sizes = subst (λ x. IsOfSize x (trimmed image ++ (cut_off.rest ++ out.rest))) (sym same) (subst (λ (x : List Page). IsOfSize (image_size image) x) pages out.sizes);
      zeros = all-append (λ page. is_zeros page ≡ true) cut_off.rest out.rest cut_off.zeros out.zeros;
      whole = cut_off.whole;
      header = ap is_header first ∙ out.header;
      least = omega (arith, out.least, ap length pages);
      most = omega (arith, out.most, ap length pages);
    }

-- a file of the form is laid so
pub laid : (bytes : List ℕ) → not_database bytes ≡ None → IsLaid (image_in bytes) bytes
laid bytes none =
    let facts : Formed bytes = formed bytes none in
    let size : ℕ = size_of bytes in
    let wide : 1024 ≤ size = (size_facts size facts.size).at_least in
    let all : Pages size bytes facts.count = pages_of size facts.count bytes facts.whole in
    let ps : List Page = all.pages in
    let some : 1 ≤ length ps = omega (arith, all.count, facts.least) in
    let image_is : image_in bytes ≡ trimmed ps = image_in-is bytes size ps refl all.is all.sizes (omega arith) in
    let first_is : take size bytes ≡ first_page ps = ap (take size) all.is ∙ ap (λ x. take size (drop x (joined ps))) (let e : 0 ≡ 0 * size = omega arith in e) ∙ page-joined size 0 ps all.sizes some in
    let front : take 64 (first_page ps) ≡ take 64 bytes = ap (take 64) (sym first_is) ∙ take-take 64 size bytes (omega arith) in
    let header : is_header (first_page ps) ≡ true = same-header (first_page ps) bytes front ∙ facts.header in
    let first : first_page (image_in bytes) ≡ first_page ps = ap first_page image_is ∙ trimmed-first ps some (header-other (first_page ps) header) in
    let same : image_size (image_in bytes) ≡ size = ap size_of first ∙ same-number (first_page ps) bytes front 24 4 (omega arith) in
    let cut_off = trimming ps in
    let is : ps ≡ image_in bytes ++ cut_off.rest = cut_off.is ∙ ap (λ (x : Image). x ++ cut_off.rest) (sym image_is) in
    record {
      rest = cut_off.rest;
      is = all.is ∙ ap joined is;
      size = subst (λ x. IsTrue (is_page_size x)) (sym same) facts.size;
      sizes = subst (λ x. IsOfSize x (image_in bytes ++ cut_off.rest)) (sym same) (subst (λ (x : List Page). IsOfSize size x) is all.sizes);
      zeros = cut_off.zeros;
      whole = ap trimmed image_is ∙ cut_off.whole ∙ sym image_is;
      header = ap is_header first ∙ header;
      least = omega (arith, facts.least, all.count, ap length is);
      most = omega (arith, facts.most, all.count, ap length is);
    }

pub laid_main : (image : Image) (file : File) (h : HoldsMain image file) → IsLaid image h.bytes
laid_main image file h = subst (λ (x : Image). IsLaid x h.bytes) h.is (laid h.bytes h.formed)

pub main_state : (image : Image) (file : File) → HoldsMain image file → image_state image ≡ normal_state
main_state image file h =
    let front : take 64 h.bytes ≡ take 64 (first_page image) = laid-front image h.bytes (laid_main image file h) in
    sym (same-number h.bytes (first_page image) front 22 2 (omega arith)) ∙ h.normal

-- What a main file's image and its bytes have in common. The file has at least the pages of the image.
pub record MainFacts (image : Image) (bytes : List ℕ) : Type 0 where
  pub size : IsTrue (is_page_size (image_size image))
  pub same_size : size_of bytes ≡ image_size image
  pub state : image_state image ≡ normal_state
  pub some : 1 ≤ length image
  pub whole : (n : ℕ) × (length bytes ≡ n * image_size image) × (n ≤ most_pages) × (length image ≤ n)
  pub sizes : (p : ℕ) → p < length image → length (page_at image p) ≡ image_size image
  pub header : is_header (page_at image 0) ≡ true
  pub front : take 64 bytes ≡ take 64 (page_at image 0)

pub main_facts : (image : Image) (file : File) (h : HoldsMain image file) → MainFacts image h.bytes
main_facts image file h =
    let l : IsLaid image h.bytes = laid_main image file h in
    let front : take 64 h.bytes ≡ take 64 (first_page image) = laid-front image h.bytes l in
    let pages : List Page = image ++ l.rest in
    record {
      size = l.size;
      same_size = same-number h.bytes (first_page image) front 24 4 (omega arith);
      state = main_state image file h;
      some = some_page image l.header;
      whole = (length pages, ap length l.is ∙ length-joined (image_size image) pages l.sizes, l.most, omega (arith, length-append image l.rest));
      sizes = λ p low. all_at (λ page. length page ≡ image_size image) image (all-left (λ page. length page ≡ image_size image) image l.rest l.sizes) p low;
      header = l.header;
      front = front;
    }

-- the database by the state
pub owner-formed : (name bytes : List ℕ) (delta : File) → not_database bytes ≡ None → owner name (Some bytes) delta ≡ owner_in (state_of bytes) name bytes delta
unfolding owner
owner-formed name bytes delta none = rw (none, owner) refl

pub owner_in-normal : (name bytes : List ℕ) (delta : File) → owner_in 0 name bytes delta ≡ Ok (base_of (image_in bytes))
unfolding owner_in
owner_in-normal name bytes delta = refl

-- the database of a main file in the normal state is that of the file alone, whatever stands beside
pub owner_main : (name : List ℕ) (image : Image) (m d : File) → HoldsMain image m → owner name m d ≡ Ok (base_of image)
owner_main name image m d h =
    ap (λ (f : File). owner name f d) h.there ∙ owner-formed name h.bytes d h.formed ∙ ap (λ x. owner_in x name h.bytes d) h.normal
    ∙ owner_in-normal name h.bytes d ∙ ap (λ (x : Image). Ok (base_of x)) h.is

-- page 0 of the image of two files has the first 64 bytes of the main file's
pub owned-front : (size : ℕ) (main : Image) (delta table : List ℕ) → 1 ≤ length main → 64 ≤ length (page_at main 0) → take 64 (owned_page size main delta table 0) ≡ take 64 (page_at main 0)
unfolding owned_page slot_page main_page
owned-front size main delta table some long = by (entry_for 0 table)
  where
    here : take 64 (main_page size main 0) ≡ take 64 (page_at main 0)
    here = elim (leb_tells 1 (length main)) [ inl w ↦ rw (w.0, main_page) refl | inr w ↦ absurd (omega (arith, w.1)) ]

    by : (x : Option ℕ) → take 64 (elim x as (λ z. Page) [ Some k ↦ slot_page size main delta 0 k | None ↦ main_page size main 0 ]) ≡ take 64 (page_at main 0)
    by (Some k) = take_at (take 64 (page_at main 0)) _ 64 (length-take-le 64 (page_at main 0) long)
    by None = here

pub owned-first : (size : ℕ) (main : Image) (delta table : List ℕ) → 1 ≤ length main → first_page (owned size main delta table) ≡ owned_page size main delta table 0
unfolding owned owned_from
owned-first size main delta table some = by (max (length main) (behind_entries table)) (omega arith)
  where
    by : (count : ℕ) → 1 ≤ count → first_page (owned_from size main delta table count 0) ≡ owned_page size main delta table 0
    by zero h = absurd (omega arith)
    by (suc count) h = refl

-- the image of two files is in the state of the main file
owned-state : (bytes delta table : List ℕ) → not_database bytes ≡ None → image_state (owned (size_of bytes) (image_in bytes) delta table) ≡ state_of bytes
owned-state bytes delta table none =
    let main : Image = image_in bytes in
    let l : IsLaid main bytes = laid bytes none in
    let some : 1 ≤ length main = some_page main l.header in
    let front : take 64 (first_page (owned (size_of bytes) main delta table)) ≡ take 64 bytes =
    ap (take 64) (owned-first (size_of bytes) main delta table some) ∙ owned-front (size_of bytes) main delta table some (header-long (first_page main) l.header) ∙ sym (laid-front main bytes l) in
    same-number (first_page (owned (size_of bytes) main delta table)) bytes front 22 2 (omega arith)

-- why two files hold no database
pub owner-none : (name : List ℕ) (delta : File) → owner name None delta ≡ Err (NoFile name)
unfolding owner
owner-none name delta = refl

pub owner-refused : (name bytes : List ℕ) (delta : File) (r : Refusal) → not_database bytes ≡ Some r → owner name (Some bytes) delta ≡ Err r
unfolding owner
owner-refused name bytes delta r e = rw (e, owner) refl

-- the image of a database whose difference file is there
abbrev by_table : (bytes delta : List ℕ) → Result (List ℕ) ℕ → Result Base Refusal
by_table bytes delta found = elim found [ Err page ↦ Err (BadDelta page) | Ok table ↦ Ok (diverted_base bytes delta table) ]

pub diverted-image : (bytes delta table : List ℕ) → (diverted_base bytes delta table).image ≡ owned (size_of bytes) (image_in bytes) delta table
unfolding diverted_base
diverted-image bytes delta table = refl

-- the database has a difference file with some table
record Diverts (bytes : List ℕ) (base : Base) : Type 0 where
  delta : List ℕ
  table : List ℕ
  is : diverted_base bytes delta table ≡ base

table-base : (bytes delta : List ℕ) (found : Result (List ℕ) ℕ) (base : Base) → by_table bytes delta found ≡ Ok base → Diverts bytes base
table-base bytes delta (Err page) base e = absurd (err_ok (BadDelta page) base e)
table-base bytes delta (Ok table) base e = record { delta = delta; table = table; is = ok_same (diverted_base bytes delta table) base (by_table bytes delta (Ok table)) refl e }

with-base : (name bytes : List ℕ) (delta : File) (base : Base) → owner_with name bytes delta ≡ Ok base → Diverts bytes base
unfolding owner_with
with-base name bytes None base e = absurd (err_ok (NoFile (delta_name name)) base e)
with-base name bytes (Some delta) base e = table-base bytes delta (table_of (size_of bytes) delta) base e

in-base : (k : ℕ) (name bytes : List ℕ) (delta : File) (base : Base) → owner_in (suc k) name bytes delta ≡ Ok base → Diverts bytes base × ((k == 2) ≡ false)
unfolding owner_in
in-base k name bytes delta base = by (k == 2) refl
  where
    by : (t : Bool) → (k == 2) ≡ t → elim t as (λ z. Result Base Refusal) [ true ↦ Err Unfinished | false ↦ owner_with name bytes delta ] ≡ Ok base → Diverts bytes base × ((k == 2) ≡ false)
    by true is e = absurd (err_ok Unfinished base e)
    by false is e = (with-base name bytes delta base e, is)

-- The database of a main file and the difference file beside it, in the stalled or the merge state.
pub record IsDiverted (base : Base) (file : File) : Type 0 where
  pub bytes : List ℕ
  pub there : file ≡ Some bytes
  pub formed : not_database bytes ≡ None
  pub delta : List ℕ
  pub table : List ℕ
  pub is : base ≡ diverted_base bytes delta table
  pub state : image_state base.image ≡ state_of bytes
  pub other : (state_of bytes ≡ stalled_state) ⊎ (state_of bytes ≡ merge_state)

-- a database that can be opened is of a main file in the normal state, or has a difference file
pub owner_cases : (name : List ℕ) (base : Base) (m d : File) → owner name m d ≡ Ok base → HoldsMain base.image m ⊎ IsDiverted base m
owner_cases name base None d e = absurd (err_ok (NoFile name) base (sym (owner-none name d) ∙ e))
owner_cases name base (Some bytes) d e = by_cause (not_database bytes) refl
  where
    by_state : not_database bytes ≡ None → (state : ℕ) → state_of bytes ≡ state → owner_in state name bytes d ≡ Ok base → HoldsMain base.image (Some bytes) ⊎ IsDiverted base (Some bytes)
    by_state none zero is h = inl (record { bytes = bytes; there = refl; formed = none; normal = is; is = ap (λ (b : Base). b.image) (ok_same (base_of (image_in bytes)) base (owner_in 0 name bytes d) (owner_in-normal name bytes d) h) })
    by_state none (suc k) is h =
        let found = in-base k name bytes d base h in
        let diverts : Diverts bytes base = found.0 in
        let base_is : base ≡ diverted_base bytes diverts.delta diverts.table = sym diverts.is in
        let most : state_of bytes ≤ 3 = header-state bytes (formed bytes none).header in
        inr (record {
          bytes = bytes;
          there = refl;
          formed = none;
          delta = diverts.delta;
          table = diverts.table;
          is = base_is;
          state = ap (λ (b : Base). image_state b.image) base_is ∙ ap image_state (diverted-image bytes diverts.delta diverts.table) ∙ owned-state bytes diverts.delta diverts.table none;
          other = one_or_two k is most (eqb-false k 2 found.1);
        })
      where
        one_or_two : (k : ℕ) → state_of bytes ≡ suc k → state_of bytes ≤ 3 → k ≢ 2 → (state_of bytes ≡ stalled_state) ⊎ (state_of bytes ≡ merge_state)
        one_or_two zero is most other = inl is
        one_or_two (suc zero) is most other = inr is
        one_or_two (suc (suc zero)) is most other = absurd (other refl)
        one_or_two (suc (suc (suc k))) is most other = absurd (omega arith)

    by_cause : (cause : Cause) → not_database bytes ≡ cause → HoldsMain base.image (Some bytes) ⊎ IsDiverted base (Some bytes)
    by_cause (Some r) none = absurd (err_ok r base (sym (owner-refused name bytes d r none) ∙ e))
    by_cause None none = by_state none (state_of bytes) refl (sym (owner-formed name bytes d none) ∙ e)

-- so one whose image is in the normal state is that of a main file in the normal state
pub main_of_base : (name : List ℕ) (base : Base) (m d : File) → owner name m d ≡ Ok base → image_state base.image ≡ normal_state → HoldsMain base.image m
main_of_base name base m d e normal = elim (owner_cases name base m d e) [
  | inl holds ↦ holds
  | inr diverted ↦ absurd (elim diverted.other [ inl one ↦ omega (arith, one, diverted.state, normal) | inr two ↦ omega (arith, two, diverted.state, normal) ])
]

-- so its image tells it whole
pub base_told : (name : List ℕ) (base : Base) (m d : File) → owner name m d ≡ Ok base → image_state base.image ≡ normal_state → base ≡ base_of base.image
base_told name base m d e normal = ok_same base (base_of base.image) (owner name m d) e (owner_main name base.image m d (main_of_base name base m d e normal))
