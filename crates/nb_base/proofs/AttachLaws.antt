-- Why a file isn't opened, and what is held of one that is.
use Rattle.std.proofs.Common.{◌≡◌, ◌≢◌, inl, inr, ℕ, zero, suc, ◌+◌, ◌-◌, ◌*◌, ◌/◌, ◌%◌, ◌<◌, ◌≤◌, List, [], ◌∷◌, ◌++◌, length, get_or, take, drop, refl, sym, ap, subst, ◌∙◌, arith, length-append, mul-le-mul_right, suc-mul, Bool, true, false, not, ◌==◌, ◌||◌, IsTrue, Option, Some, None, option_map, min, max, nat_lt, Result, Ok, Err, IsErr, IsErrAnd, IfOk, IfErr}
use Rattle.nb_base.proofs.Common.{div-eq_of_lt, cases_Bool, leb_tells, eqb_tells, get_or-append_right, get_or_append_left, take-take, take_more, is_zeros, number_in, is_header, state_of, size_of, is_page_size, most_pages, number_in-take, size_facts, applying_state, File, Fault, Refused, Device, Memory, Refusal, NotDatabase, Unfinished, Image, page_at, first_page, image_size, image_in, Cause, first_cause, when, not_database, header-size, same-number, all_at, IsTrimmed, page-joined, length-joined, trimmed-drop, trimmed-zeros, IsLaid, laid, laid-front, laid-wide, some_page, Known, behind_entries, IsBlank, Tested, length_cause, start_cause, main_cause, unheaded, device_memory, nil_cons, none_some, ok_equal, some_same, true≢false, or_right}
use Rattle.nb_fields.proofs.HeaderLaws.{is_header-take}
use Rattle.nb_model.proofs.ReadLaws.{lt_no, lt_yes, eq_no, eq_yes}
use Rattle.nb_base.proofs.OwnedLaws.{behind-added}
use Rattle.nb_page.specs.Header.{header_in}
use Rattle.nb_page.specs.declared.header.Header.{Header}
use Rattle.nb_model.proofs.TurnCases.{no_cause}
use Rattle.nb_model.proofs.WholeLaws.{when_false}

-- the first test that applies decides
pub first_here : (c : Cause) (cs : List Cause) (r : Refusal) → c ≡ Some r → first_cause (c ∷ cs) ≡ Some r
unfolding first_cause
first_here c cs r e = rw (e, first_cause) refl

pub first_next : (c : Cause) (cs : List Cause) → c ≡ None → first_cause (c ∷ cs) ≡ first_cause cs
unfolding first_cause
first_next c cs e = rw (e, first_cause) refl

-- a test that applies, and one that doesn't
pub applies : (test : Bool) (r : Refusal) → test ≡ true → when test r ≡ Some r
applies test r e = ap (λ (t : Bool). when t r) e

-- by whether there is a header
pub headed : (bytes : List ℕ) → is_header bytes ≡ true → not_database bytes ≡ length_cause (length bytes) (size_of bytes)
unfolding not_database
headed bytes e = rw (e, not_database) refl

-- the tests of the length, one by one
module _ (len size : ℕ) where
  pub parted : len % size ≢ 0 → length_cause len size ≡ Some (NotDatabase (min (len / size) most_pages))
  parted h = first_here _ _ _ (applies _ _ (ap (λ (t : Bool). not t || nat_lt (len / size) 5) (eq_no (len % size) 0 h)))

  pub too_few : len / size < 5 → length_cause len size ≡ Some (NotDatabase (min (len / size) most_pages))
  too_few h = first_here _ _ _ (applies _ _ (or_right (not (len % size == 0)) _ (lt_yes (len / size) 5 h)))

  whole_test : len % size ≡ 0 → 5 ≤ len / size → (not (len % size == 0) || nat_lt (len / size) 5) ≡ false
  whole_test h k = ap (λ (t : Bool). not t || nat_lt (len / size) 5) (eq_yes (len % size) 0 h) ∙ lt_no (len / size) 5 k

  pub too_many : len % size ≡ 0 → 5 ≤ len / size → most_pages < len / size → length_cause len size ≡ Some (NotDatabase most_pages)
  too_many h k most = first_next _ _ (when_false _ _ (whole_test h k)) ∙ first_here _ _ _ (applies _ _ (lt_yes most_pages (len / size) most))

  pub fits : len % size ≡ 0 → 5 ≤ len / size → len / size ≤ most_pages → length_cause len size ≡ None
  fits h k most = first_next _ _ (when_false _ _ (whole_test h k)) ∙ first_next _ _ (when_false _ _ (lt_no most_pages (len / size) most)) ∙ no_cause

-- the causes of a file, one by one
module _ (bytes : List ℕ) where
  pub start_broken : (r : Refusal) → not_database bytes ≡ Some r → start_cause bytes ≡ Some r
  start_broken r e = first_here _ _ r e

  pub start_unfinished : not_database bytes ≡ None → state_of bytes ≡ applying_state → start_cause bytes ≡ Some Unfinished
  start_unfinished e applying = first_next _ _ e ∙ first_here _ _ _ (applies _ _ (eq_yes (state_of bytes) 3 applying))

  pub start_is : not_database bytes ≡ None → state_of bytes ≢ applying_state → start_cause bytes ≡ None
  start_is e other = first_next _ _ e ∙ first_next _ _ (when_false _ _ (eq_no (state_of bytes) 3 other)) ∙ no_cause

  -- after a form the state decides
  pub start_rest : (r : Refusal) → not_database bytes ≡ None → start_cause bytes ≡ Some r → (state_of bytes ≡ applying_state) × (r ≡ Unfinished)
  start_rest r none e = elim (eqb_tells (state_of bytes) 3) [
    | inl w ↦ (w.1, some_same r Unfinished (sym e ∙ start_unfinished none w.1))
    | inr w ↦ absurd (none_some r (sym (start_is none w.1) ∙ e))
  ]

  -- a file that is shorter than a header has none
  pub start_short : length bytes < 64 → start_cause bytes ≡ Some (NotDatabase 0)
  start_short short = start_broken _ (elim (cases_Bool (is_header bytes)) [ inl w ↦ headed bytes w ∙ none (size_of bytes) (header-size bytes w) | inr w ↦ unheaded bytes w ])
    where
      none : (size : ℕ) → IsTrue (is_page_size size) → length_cause (length bytes) size ≡ Some (NotDatabase 0)
      none size is =
          let wide = (size_facts size is).at_least in
          let none : length bytes / size ≡ 0 = div-eq_of_lt (omega (arith, wide, short)) in
          too_few (length bytes) size (omega (arith, none)) ∙ ap (λ (k : ℕ). Some (NotDatabase (min k most_pages))) none

-- a length that is refused after a header
pub length_refused : (bytes : List ℕ) (size : ℕ) (fault : Fault) → is_header bytes ≡ true → size ≡ size_of bytes → Tested {T = ℕ} (Err fault) (length_cause (length bytes) size) → Tested {T = ℕ} (Err fault) (start_cause bytes)
length_refused bytes size (Refused r) header same tested = start_broken bytes r (headed bytes header ∙ ap (length_cause (length bytes)) (sym same) ∙ tested)
length_refused bytes size Device header same tested = tt
length_refused bytes size Memory header same tested = tt

-- the first bytes of a file
module _ (first bytes : List ℕ) (read : first ≡ take 64 bytes) where
  pub first_number : (at w : ℕ) → at + w ≤ 64 → number_in at w first ≡ number_in at w bytes
  first_number at w h = ap (λ (x : List ℕ). number_in at w x) read ∙ number_in-take 64 at w bytes h

  pub first_header : is_header first ≡ is_header bytes
  first_header = ap is_header read ∙ sym (is_header-take (take 64 bytes)) ∙ ap is_header (take-take 64 64 bytes (omega arith)) ∙ is_header-take bytes

-- what was read of the start is what the file says
module _ (first bytes : List ℕ) (read : first ≡ take 64 bytes) (block : Header) (is : block ≡ header_in first) where
  pub block_size : block.page_size ≡ size_of bytes
  unfolding header_in
  block_size = ap (λ (h : Header). h.page_size) is ∙ first_number first bytes read 24 4 (omega arith)

  pub block_state : block.state ≡ state_of bytes
  unfolding header_in
  block_state = ap (λ (h : Header). h.state) is ∙ first_number first bytes read 22 2 (omega arith)

-- the last page of an image from which nothing is cut off isn't zeros
pub last_other : (n : ℕ) (image : Image) → IsTrimmed image → length image ≡ suc n → is_zeros (page_at image n) ≡ false
last_other zero [] whole long = absurd (omega arith)
last_other zero (p ∷ q ∷ qs) whole long = absurd (omega arith)
last_other zero (p ∷ []) whole long = elim (cases_Bool (is_zeros p)) [ inl w ↦ absurd (nil_cons p [] (sym (trimmed-zeros (p ∷ []) (w, tt)) ∙ whole)) | inr w ↦ w ]
last_other (suc n) [] whole long = absurd (omega arith)
last_other (suc n) (p ∷ ps) whole long = last_other n ps (trimmed-drop 1 (p ∷ ps) whole) (omega arith)

-- The length of a database, page by page from the end of its file.
module _ (bytes : List ℕ) (none : not_database bytes ≡ None) (size : ℕ) (same : size_of bytes ≡ size) (n : ℕ) (inside : n * size + size ≤ length bytes) where
  abbrev image : Image
  image = image_in bytes

  is_laid : IsLaid image bytes
  is_laid = laid bytes none

  holds_size : image_size image ≡ size
  holds_size = sym (same-number bytes (first_page image) (laid-front image bytes is_laid) 24 4 (omega arith)) ∙ same

  below : n < length (image ++ is_laid.rest)
  below = elim (leb_tells (length (image ++ is_laid.rest)) n) [
    | inl w ↦
        let low : length (image ++ is_laid.rest) * image_size image ≤ n * image_size image = mul-le-mul_right (image_size image) w.1 in
        let wide : 1024 ≤ image_size image = laid-wide image bytes is_laid in
        let long : length bytes ≡ length (image ++ is_laid.rest) * image_size image = ap length is_laid.is ∙ length-joined (image_size image) (image ++ is_laid.rest) is_laid.sizes in
        let place : n * image_size image ≡ n * size = ap (λ (k : ℕ). n * k) holds_size in
        absurd (omega (arith, low, wide, long, place, holds_size, inside))
    | inr w ↦ omega (arith, w.1)
  ]

  page_is : take size (drop (n * size) bytes) ≡ page_at (image ++ is_laid.rest) n
  page_is =
      ap (λ (k : ℕ). take k (drop (n * k) bytes)) (sym holds_size) ∙ ap (λ (x : List ℕ). take (image_size image) (drop (n * image_size image) x)) is_laid.is
      ∙ page-joined (image_size image) n (image ++ is_laid.rest) is_laid.sizes below

  -- a page of zeros isn't the last
  pub before_blank : is_zeros (take size (drop (n * size) bytes)) ≡ true → length (image_in bytes) ≤ suc n → length (image_in bytes) ≤ n
  before_blank zeros low = elim (leb_tells (length image) n) [
    | inl w ↦ w.1
    | inr w ↦
        let all : length image ≡ suc n = omega (arith, w.1, low) in
        let last : page_at (image ++ is_laid.rest) n ≡ page_at image n = get_or_append_left image is_laid.rest [] n (omega arith) in
        absurd (true≢false (sym zeros ∙ ap is_zeros (page_is ∙ last) ∙ last_other n image is_laid.whole all))
  ]

  -- and another one is, where the pages after it aren't counted
  pub last_is : is_zeros (take size (drop (n * size) bytes)) ≡ false → length (image_in bytes) ≤ suc n → suc n ≡ length (image_in bytes)
  last_is other low = elim (leb_tells (suc n) (length image)) [
    | inl w ↦ omega (arith, w.1, low)
    | inr w ↦
        let past : length image ≤ n = omega (arith, w.1) in
        let at : page_at (image ++ is_laid.rest) n ≡ page_at is_laid.rest (n - length image) = get_or-append_right image is_laid.rest (length image) n [] refl past in
        let low : n - length image < length is_laid.rest = omega (arith, past, below, length-append image is_laid.rest) in
        absurd (true≢false (sym (all_at (λ page. is_zeros page ≡ true) is_laid.rest is_laid.zeros (n - length image) low) ∙ sym (ap is_zeros (page_is ∙ at)) ∙ other))
  ]

-- pages that are left to look at
module _ (bytes : List ℕ) (none : not_database bytes ≡ None) (size : ℕ) (same : size_of bytes ≡ size) (pages : ℕ) (long : length bytes ≡ pages * size) where
  pub inside : (n : ℕ) → suc n ≤ pages → n * size + size ≤ length bytes
  inside n low = let most : suc n * size ≤ pages * size = mul-le-mul_right size low in omega (arith, most, long, suc-mul n size)

  -- all of the file's pages
  pub length_most : length (image_in bytes) ≤ pages
  length_most = elim (leb_tells (length (image_in bytes)) pages) [
    | inl w ↦ w.1
    | inr w ↦
        let is : IsLaid (image_in bytes) bytes = laid bytes none in
        let wide : 1024 ≤ image_size (image_in bytes) = laid-wide (image_in bytes) bytes is in
        let all : length bytes ≡ length (image_in bytes ++ is.rest) * image_size (image_in bytes) = ap length is.is ∙ length-joined (image_size (image_in bytes)) (image_in bytes ++ is.rest) is.sizes in
        let held : image_size (image_in bytes) ≡ size = sym (same-number bytes (first_page (image_in bytes)) (laid-front (image_in bytes) bytes is) 24 4 (omega arith)) ∙ same in
        let more : suc pages ≤ length (image_in bytes ++ is.rest) = omega (arith, w.1, length-append (image_in bytes) is.rest) in
        let low : suc pages * image_size (image_in bytes) ≤ length (image_in bytes ++ is.rest) * image_size (image_in bytes) = mul-le-mul_right (image_size (image_in bytes)) more in
        let told : pages * image_size (image_in bytes) ≡ pages * size = ap (λ (k : ℕ). pages * k) held in
        absurd (omega (arith, wide, all, low, told, long, suc-mul pages (image_size (image_in bytes))))
  ]

  -- page 0 is the last where no other is left
  pub length_one : (count : ℕ) → 1 ≤ count → count ≤ 1 → length (image_in bytes) ≤ count → count ≡ length (image_in bytes)
  length_one count some most low = omega (arith, some, most, low, some_page (image_in bytes) (laid bytes none).header)

  module _ (count : ℕ) (some : 1 ≤ count) (most : count ≤ pages) (low : length (image_in bytes) ≤ count) (blank : Bool) (told : blank ≡ is_zeros (take size (drop ((count - 1) * size) bytes))) where
    within : (count - 1) * size + size ≤ length bytes
    within = inside (count - 1) (omega (arith, some, most))

    pub length_less : blank ≡ true → length (image_in bytes) ≤ count - 1
    length_less e = before_blank bytes none size same (count - 1) within (sym told ∙ e) (omega (arith, some, low))

    pub length_found : blank ≡ false → count ≡ length (image_in bytes)
    length_found e = let found = last_is bytes none size same (count - 1) within (sym told ∙ e) (omega (arith, some, low)) in omega (arith, found, some)

-- a file with no cause is there
pub record IsThere (file : File) : Type 0 where
  pub bytes : List ℕ
  pub is : file ≡ Some bytes

pub there : (name : List ℕ) (file : File) → main_cause name file ≡ None → IsThere file
there name None e = absurd (some_none e)
  where
    some_none : main_cause name None ≡ None → ⊥
    some_none h = cc
there name (Some bytes) e = record { bytes = bytes; is = refl }

-- a file that has a length has so many bytes
pub of_length : (file : File) (size : Option ℕ) (long : ℕ) (bytes : List ℕ) → size ≡ option_map length file → size ≡ Some long → file ≡ Some bytes → length bytes ≡ long
of_length file size long bytes told is there = some_same (length bytes) long (sym (ap (option_map length) there) ∙ sym told ∙ is)

-- a callee's refusal is passed on
pub refusal_passed : (S T : Type 0) (result : Result T Fault) (fault : Fault) (cause : Cause) → IsErr result × IsErrAnd result (λ f. f ≡ fault) → Tested {T = S} (Err fault) cause → Tested result cause
refusal_passed S T (Ok value) fault cause is tested = absurd is.1
refusal_passed S T (Err e) fault cause is tested = subst (λ (f : Fault). Tested {T = T} (Err f) cause) (sym is.1) (on fault tested)
  where
    on : (f : Fault) → Tested {T = S} (Err f) cause → Tested {T = T} (Err f) cause
    on (Refused r) t = t
    on Device t = tt
    on Memory t = tt

-- a difference file that isn't looked at has no entries
pub blank_for : (result : Result Known Fault) (name : List ℕ) (size : ℕ) → IfOk result (λ known. known ≡ record { name = name; page_size = size; entries = []; drafted = 0 }) → IfErr result (λ fault. fault ≡ Memory) → IsBlank result
blank_for (Ok known) name size is only = ap (λ (k : Known). k.entries) is
blank_for (Err (Refused r)) name size is only = absurd (other only)
  where
    other : Refused r ≡ Memory → ⊥
    other e = cc
blank_for (Err Device) name size is only = absurd (device_memory only)
blank_for (Err Memory) name size is only = tt

-- one entry more
pub behind-next : (entries : List ℕ) (k : ℕ) → k < length entries → behind_entries (take (k + 1) entries) ≡ max (behind_entries (take k entries)) (get_or entries k 0 + 1)
behind-next entries k low = ap behind_entries (take_more entries k 0 low) ∙ behind-added (get_or entries k 0) (take k entries)

pub counted-next : {E : Type 0} (entries kept : List ℕ) (k page count main next : ℕ) → kept ≡ entries → ◌≡◌ {A = Result ℕ E} (Ok page) (Ok (get_or kept k 0)) → k < length entries → next ≡ max count (page + 1) → count ≡ max main (behind_entries (take k entries))
    → next ≡ max main (behind_entries (take (k + 1) entries))
counted-next {E} entries kept k page count main next same told low is so_far =
    let named : page ≡ get_or entries k 0 = ok_equal {E = E} page (get_or kept k 0) told ∙ ap (λ (l : List ℕ). get_or l k 0) same in
    omega (arith, named, is, so_far, behind-next entries k low)
