-- Stamps above an SCN, one piece of pages after another.
use Rattle.std.proofs.Common.{◌≡◌, inl, inr, ℕ, zero, suc, ◌+◌, ◌-◌, ◌*◌, ◌/◌, ◌<◌, ◌≤◌, List, [], ◌∷◌, ◌++◌, length, take, drop, replicate, refl, sym, ap, ◌∙◌, arith, length-drop, mul-le-mul_right, div-add-mod', true, false, Some, None, Err}
use Rattle.nb_inplace.proofs.Common.{cases_lt, take-append-le, take-replicate, drop-replicate, length-replicate, drop-drop, drop_all, take-append-drop, take_all, mul-div_cancel, number_of, number_in, is_zeros, is_header, size_of, stamp_of, number_in-take, size_facts, Fault, Refused, Device, Memory, Refusal, ChainScn, Cause, not_database, Page, Image, page_at, image_in, trimmed, written_since, other_pages, joined, IsOfSize, Formed, formed, all_zeros, header-long, header-other, same-header, image_in-is, AreZeros, trimming, trimmed-other, all-drop, length-joined, drop-joined, take-joined, page-joined, lt_no, lt_yes, IsDone, TestedByReads, none_some, some_none}
use Rattle.nb_fields.proofs.NumberLaws.{number_of-zeros}

module _ (name : List ℕ) (scn : ℕ) where
  none_since : written_since name scn [] ≡ None
  unfolding written_since
  none_since = refl

  pub since_first : (p : Page) (ps : List Page) → scn < stamp_of p → written_since name scn (p ∷ ps) ≡ Some (ChainScn name (stamp_of p) scn)
  unfolding written_since
  since_first p ps late = rw (lt_yes scn (stamp_of p) late, written_since) refl

  pub since_behind : (p : Page) (ps : List Page) → stamp_of p ≤ scn → written_since name scn (p ∷ ps) ≡ written_since name scn ps
  unfolding written_since
  since_behind p ps early = rw (lt_no scn (stamp_of p) early, written_since) refl

  -- pages after others that aren't written since
  since_on : (xs ys : List Page) → written_since name scn xs ≡ None → written_since name scn (xs ++ ys) ≡ written_since name scn ys
  since_on [] ys e = refl
  since_on (x ∷ xs) ys e = elim (cases_lt scn (stamp_of x)) [
    | inl late ↦ absurd (some_none (ChainScn name (stamp_of x) scn) (sym (since_first x xs late) ∙ e))
    | inr early ↦ since_behind x (xs ++ ys) early ∙ since_on xs ys (sym (since_behind x xs early) ∙ e)
  ]

  since_found : (xs ys : List Page) (r : Refusal) → written_since name scn xs ≡ Some r → written_since name scn (xs ++ ys) ≡ Some r
  since_found [] ys r e = absurd (none_some r (sym none_since ∙ e))
  since_found (x ∷ xs) ys r e = elim (cases_lt scn (stamp_of x)) [
    | inl late ↦ since_first x (xs ++ ys) late ∙ sym (since_first x xs late) ∙ e
    | inr early ↦ since_behind x (xs ++ ys) early ∙ since_found xs ys r (sym (since_behind x xs early) ∙ e)
  ]

-- page k of pages that are joined, and those from it on
module _ (size : ℕ) (ps : List Page) (sizes : IsOfSize size ps) where
  pub read_part : (number count : ℕ) → number + count ≤ length ps → take (count * size) (drop (number * size) (joined ps)) ≡ joined (take count (drop number ps))
  read_part number count low =
      ap (take (count * size)) (drop-joined size number ps sizes (omega (arith, low)))
      ∙ take-joined size count (drop number ps) (all-drop (λ (p : Page). length p ≡ size) number ps sizes) (omega (arith, low, length-drop number ps))

  pub stamp_at : (k : ℕ) → 12 ≤ size → k < length ps → number_in 8 4 (drop (k * size) (joined ps)) ≡ stamp_of (page_at ps k)
  stamp_at k wide low = sym (number_in-take size 8 4 (drop (k * size) (joined ps)) wide) ∙ ap stamp_of (page-joined size k ps sizes low)

-- the pages from k on are page k and those after it
drop_next : (k : ℕ) (ps : List Page) → k < length ps → drop k ps ≡ page_at ps k ∷ drop (suc k) ps
drop_next k [] low = absurd (omega (arith, low))
drop_next zero (p ∷ ps) low = refl
drop_next (suc k) (p ∷ ps) low = drop_next k ps (omega (arith, low))

-- Page after page of what was read: a stamp that is found,
module _ (size scn : ℕ) (pages : List ℕ) (name : List ℕ) (ps : List Page) (is : pages ≡ joined ps) (sizes : IsOfSize size ps) (wide : 12 ≤ size) where
  pub count_is : length pages / size ≡ length ps
  count_is = ap (λ (x : List ℕ). length x / size) is ∙ ap (λ (n : ℕ). n / size) (length-joined size ps sizes) ∙ mul-div_cancel (length ps) (omega (arith, wide))

  abbrev from : (k : ℕ) → List ℕ
  from k = take (length pages - k * size) (drop (k * size) pages)

  stamp_is : (k stamp : ℕ) → k < length ps → stamp ≡ number_in 8 4 (from k) → stamp ≡ stamp_of (page_at ps k)
  stamp_is k stamp low read =
      read ∙ ap (λ (x : List ℕ). number_in 8 4 x) (take_all (length pages - k * size) (drop (k * size) pages) (omega (arith, length-drop (k * size) pages))) ∙ ap (λ (x : List ℕ). number_in 8 4 (drop (k * size) x)) is ∙ stamp_at size ps sizes k wide low

  pub page_late : (k stamp : ℕ) → k < length pages / size → stamp ≡ number_in 8 4 (from k) → scn < stamp → written_since name scn ps ≡ written_since name scn (drop k ps) → written_since name scn ps ≡ Some (ChainScn name stamp scn)
  page_late k stamp low read late so_far =
      let below : k < length ps = omega (arith, low, count_is) in
      let its = stamp_is k stamp below read in
      so_far ∙ ap (written_since name scn) (drop_next k ps below) ∙ since_first name scn (page_at ps k) (drop (suc k) ps) (omega (arith, its, late)) ∙ ap (λ (n : ℕ). Some (ChainScn name n scn)) (sym its)

  -- one that isn't above,
  pub page_early : (k stamp : ℕ) → k < length pages / size → stamp ≡ number_in 8 4 (from k) → stamp ≤ scn → written_since name scn ps ≡ written_since name scn (drop k ps) → written_since name scn ps ≡ written_since name scn (drop (k + 1) ps)
  page_early k stamp low read early so_far =
      let below : k < length ps = omega (arith, low, count_is) in
      let its = stamp_is k stamp below read in
      so_far ∙ ap (written_since name scn) (drop_next k ps below) ∙ since_behind name scn (page_at ps k) (drop (suc k) ps) (omega (arith, its, early)) ∙ ap (λ (n : ℕ). written_since name scn (drop n ps)) (let e : suc k ≡ k + 1 = omega arith in e)

  -- and none is left
  pub pages_early : (k : ℕ) → length pages / size ≤ k → written_since name scn ps ≡ written_since name scn (drop k ps) → written_since name scn ps ≡ None
  pages_early k all so_far = so_far ∙ ap (written_since name scn) (drop_all k ps (omega (arith, all, count_is))) ∙ none_since name scn

-- Piece after piece: a stamp that is found in one,
module _ (name : List ℕ) (scn number count : ℕ) (ps : List Page) (so_far : written_since name scn (drop 1 ps) ≡ written_since name scn (drop number ps)) where
  parts : drop number ps ≡ take count (drop number ps) ++ drop (number + count) ps
  parts = sym (take-append-drop count (drop number ps)) ∙ ap (λ (x : List Page). take count (drop number ps) ++ x) (drop-drop count number ps)

  pub piece_late : (r : Refusal) → written_since name scn (take count (drop number ps)) ≡ Some r → written_since name scn (drop 1 ps) ≡ Some r
  piece_late r late = so_far ∙ ap (written_since name scn) parts ∙ since_found name scn (take count (drop number ps)) (drop (number + count) ps) r late

  -- and a piece without any
  pub piece_early : written_since name scn (take count (drop number ps)) ≡ None → written_since name scn (drop 1 ps) ≡ written_since name scn (drop (number + count) ps)
  piece_early early = so_far ∙ ap (written_since name scn) parts ∙ since_on name scn (take count (drop number ps)) (drop (number + count) ps) early

pub none_left : (name : List ℕ) (scn number : ℕ) (ps : List Page) → length ps ≤ number → written_since name scn (drop 1 ps) ≡ written_since name scn (drop number ps) → written_since name scn (drop 1 ps) ≡ None
none_left name scn number ps all so_far = so_far ∙ ap (written_since name scn) (drop_all number ps all) ∙ none_since name scn

-- nothing but the device fails
pub done_tested : (S T P : Type 0) (cause : Cause) (fault : Fault) → IsDone {T = S} (Err fault) P → TestedByReads {T = T} (Err fault) cause
done_tested S T P cause (Refused refusal) says = absurd says
done_tested S T P cause Device says = tt
done_tested S T P cause Memory says = absurd says

-- so many pages are there room for
pub room_for : (len size count : ℕ) → count ≤ len / size → count * size ≤ len
room_for len size count low = let all : count * size ≤ (len / size) * size = mul-le-mul_right size low in omega (arith, all, div-add-mod' len size)

stamp_zeros : (p : Page) → is_zeros p ≡ true → stamp_of p ≡ 0
unfolding number_in
stamp_zeros p zeros =
    ap (λ (x : List ℕ). number_of (take 4 (drop 8 x))) (all_zeros p zeros) ∙ ap (λ (x : List ℕ). number_of (take 4 x)) (drop-replicate 8 (length p) 0) ∙ front (length p - 8)
  where
    front : (n : ℕ) → number_of (take 4 (replicate n 0)) ≡ 0
    front n = elim (cases_lt n 4) [
      | inl low ↦ ap number_of (take_all 4 (replicate n 0) (omega (arith, low, length-replicate {A = ℕ} n 0))) ∙ number_of-zeros n
      | inr long ↦ ap number_of (take-replicate 4 n 0 long) ∙ number_of-zeros 4
    ]

since_zeros : (name : List ℕ) (scn : ℕ) (zs : List Page) → AreZeros zs → written_since name scn zs ≡ None
since_zeros name scn [] zeros = none_since name scn
since_zeros name scn (z ∷ zs) zeros = since_behind name scn z zs (omega (arith, stamp_zeros z zeros.0)) ∙ since_zeros name scn zs zeros.1

without_zeros : (name : List ℕ) (scn : ℕ) (xs zs : List Page) → AreZeros zs → written_since name scn (xs ++ zs) ≡ written_since name scn xs
without_zeros name scn xs zs zeros = by (written_since name scn xs) refl
  where
    by : (cause : Cause) → written_since name scn xs ≡ cause → written_since name scn (xs ++ zs) ≡ written_since name scn xs
    by None is = since_on name scn xs zs is ∙ since_zeros name scn zs zeros ∙ sym is
    by (Some r) is = since_found name scn xs zs r is ∙ sym is

-- the stamps of a standby's file are those of its image, and of zeros
pub since_image : (name : List ℕ) (scn : ℕ) (bytes : List ℕ) (ps : List Page) → not_database bytes ≡ None → bytes ≡ joined ps → IsOfSize (size_of bytes) ps → written_since name scn (drop 1 ps) ≡ written_since name scn (other_pages (image_in bytes))
since_image name scn bytes ps none is sizes =
    let facts : Formed bytes = formed bytes none in
    let wide = (size_facts (size_of bytes) facts.size).at_least in
    let image : image_in bytes ≡ trimmed ps = image_in-is bytes (size_of bytes) ps refl is sizes (omega (arith, wide)) in
    by ps is sizes facts.header wide ∙ ap (λ (x : Image). written_since name scn (other_pages x)) (sym image)
  where
    by : (ps : List Page) → bytes ≡ joined ps → IsOfSize (size_of bytes) ps → is_header bytes ≡ true → 1024 ≤ size_of bytes → written_since name scn (drop 1 ps) ≡ written_since name scn (other_pages (trimmed ps))
    by [] same sizes header wide = absurd (let long = header-long bytes header in omega (arith, long, ap length same))
    by (p ∷ rest) same sizes header wide =
        let front : take 64 p ≡ take 64 bytes = sym (ap (take 64) same ∙ take-append-le 64 p (joined rest) (omega (arith, sizes.0, wide))) in
        let other : is_zeros p ≡ false = header-other p (same-header p bytes front ∙ header) in
        let cut = trimming rest in
        ap (written_since name scn) cut.is ∙ without_zeros name scn (trimmed rest) cut.rest cut.zeros ∙ ap (λ (x : Image). written_since name scn (other_pages x)) (sym (trimmed-other p rest other))
