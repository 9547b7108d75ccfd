-- Page 0 in the normal state makes the target the database that the chain gives.
use Rattle.std.proofs.Common.{◌≡◌, inl, inr, ℕ, ◌+◌, ◌*◌, ◌≤◌, [], ◌∷◌, ◌++◌, length, take, drop, replicate, refl, sym, ap, subst, ◌∙◌, arith, length-append, true, false, IsTrue, Some}
use Rattle.nb_restore.proofs.Common.{and_parts, and_from, take-append-le, with_part, number_in, is_zeros, is_header, is_marked, is_sound, state_of, size_of, scn_of, guid_of, pending_of, is_page_size, most_pages, is_header-long, length-with_part, number_in-with_part, number_in-with_part_other, size_facts, normal_state, File, put_at, with_page, PageLeft, Header, Page, Image, trimmed, joined, HoldsMain, IsOfSize, fixed, header-long, form, header-size, header-scn, header-other, Trimming, trimming, trimmed-other, trimmed-before, main_laid, put-first, BeginsWith, Holds, IsFree, IsFreeOr, IsUnfinishedPage, IsWhole}
use Rattle.nb_fields.specs.Bytes.{bytes_of}
use Rattle.nb_host.specs.Files.{bytes_of as file_bytes}
use Rattle.nb_page.proofs.HeaderLaws.{is_sound-form}
use Rattle.nb_restore.proofs.HeadLaws.{HasHead}
use Rattle.nb_restore.proofs.TargetLaws.{free_front}

-- page 0 in the normal state, and nothing else changed
abbrev pub normal_page : Page → Page
normal_page page = with_part 22 (bytes_of 2 0) page

-- the state has two bytes
pub two : length (bytes_of 2 0) ≡ 2
unfolding bytes_of
two = refl

module _ (page : Page) (is : is_header page ≡ true) where
  long : 64 ≤ length page
  long = header-long page is

  pub normal-length : length (normal_page page) ≡ length page
  normal-length = length-with_part 22 (bytes_of 2 0) page (omega (arith, two, long))

  pub normal-state : state_of (normal_page page) ≡ normal_state
  normal-state = number_in-with_part 22 2 0 page (omega arith) (omega (arith, long))

  -- any other field stays
  pub before : (by v : ℕ) → by + v ≤ 22 → number_in by v (normal_page page) ≡ number_in by v page
  before by v low = number_in-with_part_other 22 2 by v (bytes_of 2 0) page two (omega (arith, long)) (inr low)

  pub past : (by v : ℕ) → 24 ≤ by → number_in by v (normal_page page) ≡ number_in by v page
  past by v low = number_in-with_part_other 22 2 by v (bytes_of 2 0) page two (omega (arith, long)) (inl (omega (arith, low)))

  pub normal-size : size_of (normal_page page) ≡ size_of page
  normal-size = past 24 4 (omega arith)

  marked : is_marked (normal_page page) ≡ true
  unfolding is_marked
  marked =
      let kind = before 0 1 (omega arith) in
      let number = before 12 4 (omega arith) in
      let sign = before 16 4 (omega arith) in
      let version = before 20 2 (omega arith) in
      rw (kind, number, sign, version) (and_parts (is_marked page) _ (form page is)).0

  pub normal-header : is_header (normal_page page) ≡ true
  normal-header =
      let header : Header = record { page_size = size_of page; state = 0; scn = scn_of page; guid = guid_of page; pending = pending_of page } in
      let sound : is_sound 0 (size_of page) (scn_of page) ≡ true = is_sound-form header (record { size = header-size page is; state = omega arith; scn = header-scn page is; room = λ h. absurd (omega arith) }) in
      let fields : is_sound (state_of (normal_page page)) (size_of (normal_page page)) (scn_of (normal_page page)) ≡ true =
      ap (λ x. is_sound x (size_of (normal_page page)) (scn_of (normal_page page))) normal-state ∙ ap (λ x. is_sound 0 x (scn_of (normal_page page))) normal-size
      ∙ ap (λ x. is_sound 0 (size_of page) x) (past 28 4 (omega arith)) ∙ sound in
      is_header-long (normal_page page) (omega (arith, normal-length, long)) ∙ and_from (is_marked (normal_page page)) _ marked fields

fixed-first : (p : Page) (ps : Image) → fixed (p ∷ ps) ≡ normal_page p ∷ ps
unfolding fixed
fixed-first p ps = refl

-- with page 0 over the page in its place the file holds the image
whole : (size : ℕ) (p : Page) (ps : Image) → IsTrue (is_page_size size) → IsOfSize size (p ∷ ps) → is_header p ≡ true → size_of p ≡ size → 5 ≤ length (p ∷ ps) → length (p ∷ ps) ≤ most_pages
    → HoldsMain (fixed (trimmed (p ∷ ps))) (Some (joined (normal_page p ∷ ps)))
whole size p ps is sizes header same least most =
    let rest : Trimming ps = trimming ps in
    let other : is_zeros p ≡ false = header-other p header in
    let image : Image = normal_page p ∷ trimmed ps in
    let image_is : fixed (trimmed (p ∷ ps)) ≡ image = ap fixed (trimmed-other p ps other) ∙ fixed-first p (trimmed ps) in
    let size_is : size_of (normal_page p) ≡ size = normal-size p header ∙ same in
    let all : normal_page p ∷ ps ≡ image ++ rest.rest = ap (λ (x : Image). normal_page p ∷ x) rest.is in
    let all_sizes : IsOfSize size (normal_page p ∷ ps) = (normal-length p header ∙ sizes.0, sizes.1) in
    subst (λ (x : Image). HoldsMain x (Some (joined (normal_page p ∷ ps)))) (sym image_is)
    (main_laid image (joined (normal_page p ∷ ps)) (record {
      rest = rest.rest;
      is = ap joined all;
      size = subst (λ k. IsTrue (is_page_size k)) (sym size_is) is;
      sizes = subst (λ k. IsOfSize k (image ++ rest.rest)) (sym size_is) (subst (λ (x : Image). IsOfSize size x) all all_sizes);
      zeros = rest.zeros;
      whole = trimmed-before [] (normal_page p) (trimmed ps) (header-other (normal_page p) (normal-header p header)) rest.whole;
      header = normal-header p header;
      least = omega (arith, least, ap length all);
      most = omega (arith, most, ap length all);
    }) (normal-state p header))

module _ (size : ℕ) (start first : Page) (image : Image) (file : File) (is : IsTrue (is_page_size size)) (holds : Holds size start first image file) (head : HasHead size 5 image) where
  -- page 0 over the page in its place: these are all pages, and nothing stands past them
  written_exact : (last : Page) → last ≡ normal_page first → with_page file (0 * length last) last ≡ Some (joined (fixed image))
  written_exact last last_is = by image holds head
    where
      by : (i : Image) → Holds size start first i file → HasHead size 5 i → with_page file (0 * length last) last ≡ Some (joined (fixed i))
      by [] h k = absurd (let few : 1 ≤ 0 = h.some in omega (arith, few))
      by (p ∷ ps) h k =
          let page : last ≡ normal_page p = last_is ∙ ap normal_page h.page_0 in
          let long : length last ≡ size = ap length page ∙ normal-length p k.header ∙ h.sizes.0 in
          ap (λ (f : File). with_page f (0 * length last) last) h.reads ∙ ap (λ x. Some (put_at (joined (start ∷ ps)) x last)) (let e : 0 * length last ≡ 0 = omega arith in e)
          ∙ ap Some (put-first size start last ps (h.long, h.sizes.1) long) ∙ ap (λ (x : Page). Some (joined (x ∷ ps))) page
          ∙ ap (λ (x : Image). Some (joined x)) (sym (fixed-first p ps))

  -- which hold the image
  pub written_whole : (last : Page) → last ≡ normal_page first → HoldsMain (fixed (trimmed image)) (with_page file (0 * length last) last)
  written_whole last last_is = subst (λ (f : File). HoldsMain (fixed (trimmed image)) f) (sym (written_exact last last_is)) (by image holds head)
    where
      by : (i : Image) → Holds size start first i file → HasHead size 5 i → HoldsMain (fixed (trimmed i)) (Some (joined (fixed i)))
      by [] h k = absurd (let few : 1 ≤ 0 = h.some in omega (arith, few))
      by (p ∷ ps) h k = subst (λ (x : Image). HoldsMain (fixed (trimmed (p ∷ ps))) (Some (joined x))) (sym (fixed-first p ps)) (whole size p ps is h.sizes k.header k.same k.long h.most)

  pub written_all : (last : Page) → last ≡ normal_page first → IsWhole fixed image (with_page file (0 * length last) last)
  written_all last last_is = record { exact = written_exact last last_is; holds = written_whole last last_is }

  -- the file begins with the page that says that a restore goes on
  began : BeginsWith (take 64 start) file
  began =
      let wide : 1024 ≤ size = (size_facts size is).at_least in
      let bytes : file_bytes file ≡ start ++ joined (drop 1 image) = ap file_bytes holds.reads in
      record {
        long = omega (arith, ap length bytes, length-append start (joined (drop 1 image)), holds.long, wide);
        is = ap (take 64) bytes ∙ take-append-le 64 start (joined (drop 1 image)) (omega (arith, holds.long, wide));
      }

  -- whatever a crash leaves of the write of page 0
  pub last_left : (last : Page) (c : File) → IsUnfinishedPage start → last ≡ normal_page first → PageLeft (0 * length last) last file c → IsFreeOr (IsWhole fixed image) c
  last_left last c stands last_is (inl same) = inl (subst IsFree (sym same) (free_front start file stands began))
  last_left last c stands last_is (inr (inl put)) = inr (subst (λ (f : File). IsWhole fixed image f) (sym put) (written_all last last_is))
  last_left last c stands last_is (inr (inr (k, fits, grown))) =
      inl (free_front start c stands (record {
        long = omega (arith, ap (λ (f : File). length (file_bytes f)) grown, length-append (file_bytes file) (replicate (k * length last) 0), began.long);
        is = ap (λ (f : File). take 64 (file_bytes f)) grown ∙ take-append-le 64 (file_bytes file) (replicate (k * length last) 0) began.long ∙ began.is;
      }))
