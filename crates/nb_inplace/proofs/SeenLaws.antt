-- What the bytes of a database are seen as, page by page: after their end zeros are seen.
use Rattle.std.proofs.Common.{◌≡◌, inl, inr, ℕ, ◌+◌, ◌-◌, ◌*◌, ◌<◌, ◌≤◌, List, [], ◌++◌, length, take, drop, replicate, sym, ap, subst, ◌∙◌, arith, length-drop, add-mul, mul-le-mul_right, take_all, true, None, IsTrue}
use Rattle.nb_inplace.proofs.Common.{cases_lt, take-append-le, length-replicate, get_or-drop, drop-replicate, take-replicate, replicate-append-replicate, is_zeros, size_of, not_database, Page, Image, page_at, image_in, joined, main_page, IsOfSize, all_zeros, length-joined, drop-joined, page-joined, zeros-are, all-right, IsLaid, laid, main_here, main_past, all_from, zeros_behind}
use Rattle.std.proofs.Math.Seq.{drop-drop}
use Rattle.std.proofs.Math.ListN.{drop_of_length-le}
use Rattle.nb_fields.specs.Table.{page_in}
use Rattle.nb_inplace.proofs.HalfLaws.{front_size}
use Rattle.nb_model.proofs.OpenedLaws.{pages_zeros}

module _ (size : ℕ) where
  drop_all : (n : ℕ) (ps : List Page) → IsOfSize size ps → length ps ≤ n → drop (n * size) (joined ps) ≡ []
  drop_all n ps sizes low = let past : length ps * size ≤ n * size = mul-le-mul_right size low in drop_of_length-le (joined ps) (omega (arith, past, length-joined size ps sizes))

  -- whole pages
  pages_seen : (ps : List Page) → IsOfSize size ps → (p : ℕ) → page_in size (joined ps) p ≡ main_page size ps p
  unfolding page_in
  pages_seen ps sizes p = elim (cases_lt p (length ps)) [
    | inl w ↦
        let fits : (p + 1) * size ≤ length ps * size = mul-le-mul_right size (omega (arith, w)) in
        take-append-le size (drop (p * size) (joined ps)) (replicate size 0) (omega (arith, length-drop (p * size) (joined ps), length-joined size ps sizes, fits, add-mul p 1 size))
        ∙ page-joined size p ps sizes w ∙ sym (main_here size ps p w)
    | inr w ↦
        ap (λ (x : List ℕ). take size (x ++ replicate {A = ℕ} size 0)) (drop_all p ps sizes w) ∙ take_all size (replicate {A = ℕ} size 0) (omega (arith, length-replicate {A = ℕ} size 0)) ∙ sym (main_past size ps p w)
  ]

  -- zeros from a page on
  zeros_seen : (bytes : List ℕ) (n p : ℕ) → is_zeros (drop (n * size) bytes) ≡ true → n ≤ p → page_in size bytes p ≡ replicate size 0
  unfolding page_in
  zeros_seen bytes n p zeros low =
      let rest : List ℕ = drop (n * size) bytes in
      let k : ℕ = (p - n) * size in
      let at : p ≡ n + (p - n) = omega (arith, low) in
      let split : p * size ≡ n * size + k = ap (λ (j : ℕ). j * size) at ∙ add-mul n (p - n) size in
      let from : drop (p * size) bytes ≡ replicate (length rest - k) 0 =
      ap (λ (j : ℕ). drop j bytes) split ∙ sym (drop-drop k (n * size) bytes) ∙ ap (drop k) (all_zeros rest zeros) ∙ drop-replicate k (length rest) 0 in
      ap (λ (x : List ℕ). take size (x ++ replicate {A = ℕ} size 0)) from ∙ ap (take size) (replicate-append-replicate (length rest - k) size 0) ∙ take-replicate size (length rest - k + size) 0 (omega arith)

  zeros_from : (ps : List Page) → IsOfSize size ps → (n : ℕ) → ((p : ℕ) → n ≤ p → p < length ps → is_zeros (page_at ps p) ≡ true) → is_zeros (drop (n * size) (joined ps)) ≡ true
  zeros_from ps sizes n zeros = elim (cases_lt n (length ps)) [
    | inl low ↦
        ap is_zeros (drop-joined size n ps sizes (omega (arith, low)))
        ∙ pages_zeros (drop n ps) (all_from (λ (z : Page). is_zeros z ≡ true) (drop n ps) (λ k below. ap is_zeros (get_or-drop n ps k []) ∙ zeros (n + k) (omega arith) (omega (arith, below, length-drop n ps))))
    | inr past ↦ ap is_zeros (drop_all n ps sizes past)
  ]

-- bytes of the form
module _ (bytes : List ℕ) (formed : not_database bytes ≡ None) where
  abbrev size : ℕ
  size = size_of bytes

  abbrev image : Image
  image = image_in bytes

  is_laid : IsLaid image bytes
  is_laid = laid bytes formed

  abbrev pages : List Page
  pages = image ++ is_laid.rest

  sizes : IsOfSize size pages
  sizes = subst (λ n. IsOfSize n pages) (front_size bytes formed) is_laid.sizes

  rest_seen : (p : ℕ) → main_page size pages p ≡ main_page size image p
  rest_seen p = zeros_behind size image is_laid.rest (all-right (λ (x : Page). length x ≡ size) image is_laid.rest sizes) is_laid.zeros p

  -- are seen as the image,
  pub image_seen : (p : ℕ) → page_in size bytes p ≡ main_page size image p
  image_seen p = ap (λ (x : List ℕ). page_in size x p) is_laid.is ∙ pages_seen size pages sizes p ∙ rest_seen p

  -- and zeros from a page on are the end of it.
  pub none_seen : (n : ℕ) → IsTrue (is_zeros (drop (n * size) bytes)) → (p : ℕ) → n ≤ p → main_page size image p ≡ replicate size 0
  none_seen n zeros p low = sym (image_seen p) ∙ zeros_seen size bytes n p zeros low

  pub none_there : (n : ℕ) → ((p : ℕ) → n ≤ p → main_page size image p ≡ replicate size 0) → IsTrue (is_zeros (drop (n * size) bytes))
  none_there n none =
      ap (λ (x : List ℕ). is_zeros (drop (n * size) x)) is_laid.is
      ∙ zeros_from size pages sizes n (λ p low below. ap is_zeros (sym (main_here size pages p below) ∙ rest_seen p ∙ none p low) ∙ zeros-are size)
