-- The file of a standby, while pages of a level file are written into it.
use Rattle.std.proofs.Common.{◌≡◌, ◌⊎◌, inl, inr, ℕ, zero, suc, ◌+◌, ◌*◌, ◌<◌, ◌≤◌, List, [], ◌∷◌, ◌++◌, length, drop, replicate, refl, sym, ap, subst, ◌∙◌, arith, length-append, mul-le-mul_right, add-mul, suc-mul, le_of_mul-le-mul_right, true, Some, Contains}
use Rattle.nb_inplace.proofs.Common.{is_zeros, most_pages, cases_eq, length-replicate, File, put_at, with_page, PageLeft, Page, Image, Numbered, first_page, written_at, joined, main_page, IsOfSize, all-append, all-replicate, zeros-are, joined-append, length-joined, joined-zeros, other_page, put-first, main_tail, zeros_behind, length-written, put-written, written-sizes, first-written, IsBetween, IsHalfFile, KeepsHalf, some_same, first_and_rest}
use Rattle.nb_host.specs.Files.{bytes_of as file_bytes}
use Rattle.nb_inplace.proofs.PagesLaws.{written_page}

module _ (size : ℕ) (records : List Numbered) (before : Image) (first : Page) where
  -- such a list, whatever it is called
  half_of : (xs : Image) (file : File) → file ≡ Some (joined xs) → 1 ≤ length xs → first_page xs ≡ first → IsOfSize size xs → 5 ≤ length xs → length xs ≤ most_pages → IsBetween size records before xs → IsHalfFile size records before first file
  half_of xs file reads some front sizes least most between =
      let is : xs ≡ first ∷ drop 1 xs = first_and_rest xs some ∙ ap (λ (p : Page). p ∷ drop 1 xs) front in
      record {
        pages = drop 1 xs;
        reads = reads ∙ ap (λ (x : Image). Some (joined x)) is;
        sizes = subst (λ (x : Image). IsOfSize size x) is sizes;
        least = subst (λ (x : Image). 5 ≤ length x) is least;
        most = subst (λ (x : Image). length x ≤ most_pages) is most;
        between = subst (λ (x : Image). IsBetween size records before x) is between;
      }

  -- a record is written at its place
  half_put : (n : ℕ) (page : Page) (file : File) → 1 ≤ n → n < most_pages → length page ≡ size → Contains records (n, page) → IsHalfFile size records before first file → IsHalfFile size records before first (with_page file (n * length page) page)
  half_put n page file some below long there half =
      let xs : Image = first ∷ half.pages in
      let wide = length-written size (n, page) xs in
      half_of (written_at size (n, page) xs) (with_page file (n * length page) page)
      (ap (λ (f : File). with_page f (n * length page) page) half.reads ∙ ap (λ (k : ℕ). Some (put_at (joined xs) (n * k) page)) long ∙ ap Some (put-written size (n, page) xs half.sizes long))
      (omega (arith, wide)) ((first-written size (n, page) xs (omega arith)).1 some) (written-sizes size (n, page) xs half.sizes long) (omega (arith, wide, half.least)) (omega (arith, wide, half.most, below))
      (λ p low. elim (cases_eq p n) [
        | inl is ↦
            let here : main_page size (written_at size (n, page) xs) p ≡ page = ap (main_page size (written_at size (n, page) xs)) is ∙ written_page size (n, page) xs in
            inr (subst (λ (x : Numbered). Contains records x) (sym (ap (λ (k : ℕ). (k, main_page size (written_at size (n, page) xs) p)) is ∙ ap (λ (x : Page). (n, x)) here)) there)
        | inr other ↦
            let same = other_page size n page xs p other in
            elim (half.between p low) [ inl was ↦ inl (same ∙ was) | inr one ↦ inr (subst (λ (x : Page). Contains records (p, x)) (sym same) one) ]
      ])

  -- the file grew by pages of zeros
  half_grown : (k n : ℕ) (file : File) (bytes : List ℕ) → file ≡ Some bytes → length bytes + k * size ≤ n * size + size → n < most_pages → 0 < size → IsHalfFile size records before first file → IsHalfFile size records before first (Some (bytes ++ replicate (k * size) 0))
  half_grown k n file bytes there fits below some half =
      let xs : Image = first ∷ half.pages in
      let zeros : Image = replicate k (replicate {A = ℕ} size 0) in
      let is : bytes ≡ joined xs = some_same bytes (joined xs) (sym there ∙ half.reads) in
      let count : length (xs ++ zeros) ≡ length xs + k = omega (arith, length-append xs zeros, length-replicate k (replicate {A = ℕ} size 0)) in
      let all : length bytes ≡ length xs * size = ap length is ∙ length-joined size xs half.sizes in
      let low : (length xs + k) * size ≤ (n + 1) * size = omega (arith, all, fits, add-mul (length xs) k size, suc-mul n size) in
      let few : length xs + k ≤ n + 1 = le_of_mul-le-mul_right {k = size} low some in
      let sizes : IsOfSize size zeros = all-replicate (λ (x : Page). length x ≡ size) k (replicate size 0) (length-replicate {A = ℕ} size 0) in
      half_of (xs ++ zeros) (Some (bytes ++ replicate (k * size) 0))
      (ap (λ (x : List ℕ). Some (x ++ replicate {A = ℕ} (k * size) 0)) is ∙ ap (λ (x : List ℕ). Some (joined xs ++ x)) (joined-zeros k size) ∙ ap Some (sym (joined-append xs zeros)))
      (omega (arith, count)) refl (all-append (λ (x : Page). length x ≡ size) xs zeros half.sizes sizes) (omega (arith, count, half.least)) (omega (arith, count, few, below))
      (λ p from.
      let same = zeros_behind size xs zeros sizes (all-replicate (λ (x : Page). is_zeros x ≡ true) k (replicate size 0) (zeros-are size)) p in
      elim (half.between p from) [ inl was ↦ inl (same ∙ was) | inr one ↦ inr (subst (λ (x : Page). Contains records (p, x)) (sym same) one) ])

-- Whatever a crash leaves of the write of a record, the file is half merged still.
pub keeps_record : (n : ℕ) (page : Page) (records : List Numbered) (b c : File) → 1 ≤ n → n < most_pages → 0 < length page → Contains records (n, page) → PageLeft (n * length page) page b c → KeepsHalf (length page) records b c
keeps_record n page records b c some below wide there (inl same) image first half = subst (λ (f : File). IsHalfFile (length page) records image first f) (sym same) half
keeps_record n page records b c some below wide there (inr (inl put)) image first half =
    subst (λ (f : File). IsHalfFile (length page) records image first f) (sym put) (half_put (length page) records image first n page b some below refl there half)
keeps_record n page records b c some below wide there (inr (inr (k, fits, grown))) image first half =
    subst (λ (f : File). IsHalfFile (length page) records image first f) (sym grown)
    (half_grown (length page) records image first k n b (file_bytes b) (half.reads ∙ ap (λ (f : File). Some (file_bytes f)) (sym half.reads)) fits below wide half)

-- Page 0 is put over page 0.
module _ (size : ℕ) (records : List Numbered) (wide : 0 < size) where
  pub first_put : (first : Page) (ps : List Page) → IsOfSize size ps → 1 ≤ length ps → length first ≡ size → with_page (Some (joined ps)) (0 * length first) first ≡ Some (joined (first ∷ drop 1 ps))
  first_put first [] sizes some long = absurd (omega (arith, some))
  first_put first (p ∷ ps) sizes some long = ap (λ (k : ℕ). Some (put_at (joined (p ∷ ps)) k first)) (let e : 0 * length first ≡ 0 = omega arith in e) ∙ ap Some (put-first size p first ps sizes long)

  -- the file doesn't grow then
  not_grown : (k : ℕ) (page : Page) (ps : List Page) → IsOfSize size ps → 2 ≤ length ps → length page ≡ size → length (joined ps) + k * length page ≤ 0 * length page + length page → ⊥
  not_grown k page ps sizes more long fits =
      let all : length (joined ps) ≡ length ps * size = length-joined size ps sizes in
      let two : 2 * size ≤ length ps * size = mul-le-mul_right size more in
      omega (arith, all, two, fits, long, wide)

  pub half_begun : (ps : List Page) (first : Page) → IsOfSize size ps → 5 ≤ length ps → length ps ≤ most_pages → length first ≡ size → IsHalfFile size records ps first (Some (joined (first ∷ drop 1 ps)))
  half_begun [] first sizes least most long = absurd (omega (arith, least))
  half_begun (p ∷ ps) first sizes least most long = record { pages = ps; reads = refl; sizes = (long, sizes.1); least = least; most = most; between = λ q low. inl (behind q low) }
    where
      behind : (q : ℕ) → 1 ≤ q → main_page size (first ∷ ps) q ≡ main_page size (p ∷ ps) q
      behind zero low = absurd (omega (arith, low))
      behind (suc q) low = main_tail size first ps q ∙ sym (main_tail size p ps q)

  -- What a crash leaves of that: the file as it was, or half merged.
  pub begun_left : (ps : List Page) (first : Page) (file c : File) → IsOfSize size ps → 5 ≤ length ps → length ps ≤ most_pages → length first ≡ size → file ≡ Some (joined ps) → PageLeft (0 * length first) first file c → (c ≡ file) ⊎ IsHalfFile size records ps first c
  begun_left ps first file c sizes least most long is (inl same) = inl same
  begun_left ps first file c sizes least most long is (inr (inl put)) =
      inr (subst (λ (f : File). IsHalfFile size records ps first f) (sym (put ∙ ap (λ (f : File). with_page f (0 * length first) first) is ∙ first_put first ps sizes (omega (arith, least)) long)) (half_begun ps first sizes least most long))
  begun_left ps first file c sizes least most long is (inr (inr (k, fits, grown))) =
      absurd (not_grown k first ps sizes (omega (arith, least)) long (subst (λ (f : File). length (file_bytes f) + k * length first ≤ 0 * length first + length first) is fits))

  -- After it page 0 is put over page 0 once more: the file stays half merged, or has that page.
  pub ended_left : (ps : List Page) (first last : Page) (file c : File) → IsHalfFile size records ps first file → length last ≡ size → PageLeft (0 * length last) last file c → IsHalfFile size records ps first c ⊎ (c ≡ with_page file (0 * length last) last)
  ended_left ps first last file c half long (inl same) = inl (subst (λ (f : File). IsHalfFile size records ps first f) (sym same) half)
  ended_left ps first last file c half long (inr (inl put)) = inr put
  ended_left ps first last file c half long (inr (inr (k, fits, grown))) =
      absurd (not_grown k last (first ∷ half.pages) half.sizes (omega (arith, half.least)) long (subst (λ (f : File). length (file_bytes f) + k * length last ≤ 0 * length last + length last) half.reads fits))
