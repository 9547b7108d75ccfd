-- Lists of pages: their bytes joined and cut again, and the pages of zeros at their end.
use Rattle.std.proofs.Common.{◌≡◌, inl, inr, ℕ, zero, suc, ◌+◌, ◌*◌, ◌<◌, ◌≤◌, List, [], ◌∷◌, ◌++◌, length, take, drop, replicate, refl, sym, ap, ◌∙◌, arith, length-append, append_assoc, suc-mul, Bool, true, false}
use Rattle.nb_model.proofs.Common.{AllByRecursion, flat_map, cases_Bool, leb_tells, take_at, drop_at, length-drop, length-take-le, take-append-drop, replicate-append-replicate, is_zeros, Page, Image, page_at, cut, trimmed, joined, HasNoZeros, IsOfSize, nil_cons, nil_from_length, first_page}

-- each page is all zeros
abbrev pub AreZeros : List Page → Type 0
AreZeros = AllByRecursion (λ page. is_zeros page ≡ true)

-- what holds of each page of two lists, of their join and of its ends
module _ (P : Page → Type 0) where
  pub all-append : (xs ys : List Page) → AllByRecursion P xs → AllByRecursion P ys → AllByRecursion P (xs ++ ys)
  all-append [] ys h k = k
  all-append (x ∷ xs) ys h k = (h.0, all-append xs ys h.1 k)

  pub all-left : (xs ys : List Page) → AllByRecursion P (xs ++ ys) → AllByRecursion P xs
  all-left [] ys h = tt
  all-left (x ∷ xs) ys h = (h.0, all-left xs ys h.1)

  pub all-right : (xs ys : List Page) → AllByRecursion P (xs ++ ys) → AllByRecursion P ys
  all-right [] ys h = h
  all-right (x ∷ xs) ys h = all-right xs ys h.1

  pub all-take : (n : ℕ) (xs : List Page) → AllByRecursion P xs → AllByRecursion P (take n xs)
  all-take zero xs h = tt
  all-take (suc n) [] h = tt
  all-take (suc n) (x ∷ xs) h = (h.0, all-take n xs h.1)

  pub all-drop : (n : ℕ) (xs : List Page) → AllByRecursion P xs → AllByRecursion P (drop n xs)
  all-drop zero xs h = h
  all-drop (suc n) [] h = tt
  all-drop (suc n) (x ∷ xs) h = all-drop n xs h.1

  pub all-replicate : (n : ℕ) (x : Page) → P x → AllByRecursion P (replicate n x)
  all-replicate zero x h = tt
  all-replicate (suc n) x h = (h, all-replicate n x h)

-- pages joined, which is std's word for it too
pub joined-flat_map : (ps : List Page) → joined ps ≡ flat_map (λ p. p) ps
joined-flat_map [] = refl
joined-flat_map (p ∷ ps) = ap (λ (bytes : List ℕ). p ++ bytes) (joined-flat_map ps)

pub joined-append : (xs ys : List Page) → joined (xs ++ ys) ≡ joined xs ++ joined ys
joined-append [] ys = refl
joined-append (x ∷ xs) ys = ap (λ (bytes : List ℕ). x ++ bytes) (joined-append xs ys) ∙ sym (append_assoc x (joined xs) (joined ys))

module _ (size : ℕ) where
  pub length-joined : (ps : List Page) → IsOfSize size ps → length (joined ps) ≡ length ps * size
  length-joined [] h = omega arith
  length-joined (p ∷ ps) h = let rest = length-joined ps h.1 in let here = h.0 in omega (arith, length-append p (joined ps), suc-mul (length ps) size)

  -- the bytes in front of page n, and those from it on
  pub take-joined : (n : ℕ) (ps : List Page) → IsOfSize size ps → n ≤ length ps → take (n * size) (joined ps) ≡ joined (take n ps)
  take-joined n ps h low =
      let split : joined ps ≡ joined (take n ps) ++ joined (drop n ps) = ap joined (sym (take-append-drop n ps)) ∙ joined-append (take n ps) (drop n ps) in
      ap (take (n * size)) split ∙ take_at (joined (take n ps)) (joined (drop n ps)) (n * size) (length-joined (take n ps) (all-take (λ page. length page ≡ size) n ps h) ∙ ap (λ k. k * size) (length-take-le n ps low))

  pub drop-joined : (n : ℕ) (ps : List Page) → IsOfSize size ps → n ≤ length ps → drop (n * size) (joined ps) ≡ joined (drop n ps)
  drop-joined n ps h low =
      let split : joined ps ≡ joined (take n ps) ++ joined (drop n ps) = ap joined (sym (take-append-drop n ps)) ∙ joined-append (take n ps) (drop n ps) in
      ap (drop (n * size)) split ∙ drop_at (joined (take n ps)) (joined (drop n ps)) (n * size) (length-joined (take n ps) (all-take (λ page. length page ≡ size) n ps h) ∙ ap (λ k. k * size) (length-take-le n ps low))

  -- page n of them
  pub page-joined : (n : ℕ) (ps : List Page) → IsOfSize size ps → n < length ps → take size (drop (n * size) (joined ps)) ≡ page_at ps n
  page-joined n ps h low = ap (take size) (drop-joined n ps h (omega arith)) ∙ first (drop n ps) (all-drop (λ page. length page ≡ size) n ps h) (omega (arith, length-drop n ps)) ∙ behind n ps
    where
      first : (qs : List Page) → IsOfSize size qs → 1 ≤ length qs → take size (joined qs) ≡ page_at qs 0
      first [] k some = absurd (omega arith)
      first (q ∷ qs) k some = take_at q (joined qs) size k.0

      behind : (n : ℕ) (ps : List Page) → page_at (drop n ps) 0 ≡ page_at ps n
      behind zero ps = refl
      behind (suc n) [] = refl
      behind (suc n) (p ∷ ps) = behind n ps

  -- pages that were joined are cut again
  pub cut-joined : (most : ℕ) (ps : List Page) → IsOfSize size ps → 0 < size → length ps ≤ most → cut size most (joined ps) ≡ ps
  unfolding cut
  cut-joined zero [] h some low = refl
  cut-joined zero (p ∷ ps) h some low = absurd (omega arith)
  cut-joined (suc most) [] h some low = elim (leb_tells size 0) [ inl w ↦ absurd (omega (arith, w.1)) | inr w ↦ rw (w.0, cut) refl ]
  cut-joined (suc most) (p ∷ ps) h some low = elim (leb_tells size (length (p ++ joined ps))) [
    | inl w ↦ rw (w.0, cut) (ap (λ (x : Page). x ∷ cut size most (drop size (p ++ joined ps))) (take_at p (joined ps) size h.0)
        ∙ ap (λ (x : List ℕ). p ∷ cut size most x) (drop_at p (joined ps) size h.0) ∙ ap (λ (xs : Image). p ∷ xs) (cut-joined most ps h.1 some (omega arith)))
    | inr w ↦ absurd (omega (arith, w.1, h.0, length-append p (joined ps)))
  ]

  -- what is cut from whole pages is those pages
  pub record Pages (bytes : List ℕ) (n : ℕ) : Type 0 where
    pub pages : List Page
    pub count : length pages ≡ n
    pub sizes : IsOfSize size pages
    pub is : bytes ≡ joined pages

  pub pages_of : (n : ℕ) (bytes : List ℕ) → length bytes ≡ n * size → Pages bytes n
  pages_of zero bytes long = record { pages = []; count = refl; sizes = tt; is = nil_from_length bytes (omega arith) }
  pages_of (suc n) bytes long =
      let all : length bytes ≡ n * size + size = omega (arith, suc-mul n size) in
      let rest : Pages (drop size bytes) n = pages_of n (drop size bytes) (omega (arith, length-drop size bytes)) in
      record {
        pages = take size bytes ∷ rest.pages;
        count = ap suc rest.count;
        sizes = (length-take-le size bytes (omega arith), rest.sizes);
        is = sym (take-append-drop size bytes) ∙ ap (λ (x : List ℕ). take size bytes ++ x) rest.is;
      }

-- zeros are pages of zeros
pub joined-zeros : (n size : ℕ) → replicate {A = ℕ} (n * size) 0 ≡ joined (replicate n (replicate size 0))
joined-zeros zero size = ap (λ k. replicate k 0) (let e : 0 * size ≡ 0 = omega arith in e)
joined-zeros (suc n) size =
    ap (λ k. replicate k 0) (let e : suc n * size ≡ size + n * size = omega (arith, suc-mul n size) in e)
    ∙ sym (replicate-append-replicate size (n * size) 0) ∙ ap (λ (x : List ℕ). replicate size 0 ++ x) (joined-zeros n size)

pub zeros-are : (n : ℕ) → is_zeros (replicate n 0) ≡ true
zeros-are zero = refl
zeros-are (suc n) = zeros-are n

-- the pages of zeros at the end
abbrev kept : Page → Image → Image
kept p [] = elim (is_zeros p) [ true ↦ [] | false ↦ p ∷ [] ]
kept p (q ∷ qs) = p ∷ q ∷ qs

trimmed-cons : (p : Page) (ps : List Page) → trimmed (p ∷ ps) ≡ kept p (trimmed ps)
unfolding trimmed
trimmed-cons p ps = by (trimmed ps)
  where
    by : (qs : Image) → elim qs as (λ z. Image) [ [] ↦ elim (is_zeros p) [ true ↦ [] | false ↦ p ∷ [] ] | q ∷ qs ↦ p ∷ q ∷ qs ] ≡ kept p qs
    by [] = refl
    by (q ∷ qs) = refl

pub trimmed-none : trimmed [] ≡ []
unfolding trimmed
trimmed-none = refl

kept-some : (p : Page) (qs : Image) → 1 ≤ length qs → kept p qs ≡ p ∷ qs
kept-some p [] h = absurd (omega arith)
kept-some p (q ∷ qs) h = refl

kept-other : (p : Page) (qs : Image) → is_zeros p ≡ false → kept p qs ≡ p ∷ qs
kept-other p [] h = ap (λ (t : Bool). elim t as (λ z. Image) [ true ↦ [] | false ↦ p ∷ [] ]) h
kept-other p (q ∷ qs) h = refl

kept-zero : (p : Page) → is_zeros p ≡ true → kept p [] ≡ []
kept-zero p h = ap (λ (t : Bool). elim t as (λ z. Image) [ true ↦ [] | false ↦ p ∷ [] ]) h

-- nothing is cut off
abbrev pub IsTrimmed : Image → Type 0
IsTrimmed image = trimmed image ≡ image

pub trimmed-nothing : IsTrimmed []
trimmed-nothing = trimmed-none

-- a page that isn't zeros stays, and so does each before it
pub trimmed-other : (p : Page) (ps : List Page) → is_zeros p ≡ false → trimmed (p ∷ ps) ≡ p ∷ trimmed ps
trimmed-other p ps h = trimmed-cons p ps ∙ kept-other p (trimmed ps) h

pub trimmed-before : (xs : List Page) (p : Page) (ps : Image) → is_zeros p ≡ false → IsTrimmed ps → IsTrimmed (xs ++ p ∷ ps)
trimmed-before [] p ps h k = trimmed-other p ps h ∙ ap (λ (qs : Image). p ∷ qs) k
trimmed-before (x ∷ xs) p ps h k =
    trimmed-cons x (xs ++ p ∷ ps) ∙ ap (kept x) (trimmed-before xs p ps h k) ∙ kept-some x (xs ++ p ∷ ps) (omega (arith, length-append xs (p ∷ ps)))

pub trimmed-over : (xs : List Page) (ys : Image) → 1 ≤ length ys → IsTrimmed ys → IsTrimmed (xs ++ ys)
trimmed-over [] ys some whole = whole
trimmed-over (x ∷ xs) ys some whole = trimmed-cons x (xs ++ ys) ∙ ap (kept x) (trimmed-over xs ys some whole) ∙ kept-some x (xs ++ ys) (omega (arith, some, length-append xs ys))

-- where no page is zeros nothing is cut off
pub trimmed-no_zeros : (ps : Image) → HasNoZeros ps → IsTrimmed ps
trimmed-no_zeros [] h = trimmed-none
trimmed-no_zeros (p ∷ ps) h = trimmed-other p ps h.0 ∙ ap (λ (qs : Image). p ∷ qs) (trimmed-no_zeros ps h.1)

-- zeros after are cut off
pub trimmed-zeros : (zs : List Page) → AreZeros zs → trimmed zs ≡ []
trimmed-zeros [] h = trimmed-none
trimmed-zeros (z ∷ zs) h = trimmed-cons z zs ∙ ap (kept z) (trimmed-zeros zs h.1) ∙ kept-zero z h.0

pub trimmed-append_zeros : (xs zs : List Page) → AreZeros zs → trimmed (xs ++ zs) ≡ trimmed xs
trimmed-append_zeros [] zs h = trimmed-zeros zs h ∙ sym trimmed-none
trimmed-append_zeros (x ∷ xs) zs h = trimmed-cons x (xs ++ zs) ∙ ap (kept x) (trimmed-append_zeros xs zs h) ∙ sym (trimmed-cons x xs)

-- what is left of an image, from a page on
trimmed-tail : (p : Page) (ps : Image) → IsTrimmed (p ∷ ps) → IsTrimmed ps
trimmed-tail p ps h = by (trimmed ps) (sym (trimmed-cons p ps) ∙ h)
  where
    by : (qs : Image) → kept p qs ≡ p ∷ ps → qs ≡ ps
    by [] e = elim (cases_Bool (is_zeros p)) [
      | inl w ↦ absurd (nil_cons p ps (sym (kept-zero p w) ∙ e))
      | inr w ↦ ap tail (sym (kept-other p [] w) ∙ e)
    ]
      where
        tail : Image → Image
        tail [] = []
        tail (x ∷ xs) = xs
    by (q ∷ qs) e = cc

pub trimmed-drop : (n : ℕ) (ps : Image) → IsTrimmed ps → IsTrimmed (drop n ps)
trimmed-drop zero ps h = h
trimmed-drop (suc n) [] h = h
trimmed-drop (suc n) (p ∷ ps) h = trimmed-drop n ps (trimmed-tail p ps h)

-- pages are an image and pages of zeros after it
pub record Trimming (ps : List Page) : Type 0 where
  pub rest : List Page
  pub is : ps ≡ trimmed ps ++ rest
  pub zeros : AreZeros rest
  pub whole : IsTrimmed (trimmed ps)

pub trimming : (ps : List Page) → Trimming ps
trimming [] = record { rest = []; is = sym (ap (λ (xs : Image). xs ++ []) trimmed-none); zeros = tt; whole = ap trimmed trimmed-none }
trimming (p ∷ ps) = by (trimmed ps) refl (trimming ps)
  where
    found : (image : Image) (rest : List Page) → trimmed (p ∷ ps) ≡ image → p ∷ ps ≡ image ++ rest → AreZeros rest → IsTrimmed image → Trimming (p ∷ ps)
    found image rest e is zeros whole = record { rest = rest; is = is ∙ ap (λ (x : Image). x ++ rest) (sym e); zeros = zeros; whole = ap trimmed e ∙ whole ∙ sym e }

    by : (qs : Image) → trimmed ps ≡ qs → Trimming ps → Trimming (p ∷ ps)
    by [] e t = elim (cases_Bool (is_zeros p)) [
      | inl w ↦ found [] (p ∷ t.rest) (trimmed-cons p ps ∙ ap (kept p) e ∙ kept-zero p w) (ap (λ (x : List Page). p ∷ x) (t.is ∙ ap (λ (x : Image). x ++ t.rest) e)) (w, t.zeros) trimmed-none
      | inr w ↦ found (p ∷ []) t.rest (trimmed-cons p ps ∙ ap (kept p) e ∙ kept-other p [] w) (ap (λ (x : List Page). p ∷ x) (t.is ∙ ap (λ (x : Image). x ++ t.rest) e)) t.zeros
          (trimmed-before [] p [] w trimmed-none)
    ]
    by (q ∷ qs) e t =
        let whole : IsTrimmed (q ∷ qs) = ap trimmed (sym e) ∙ t.whole ∙ e in
        found (p ∷ q ∷ qs) t.rest (trimmed-cons p ps ∙ ap (kept p) e) (ap (λ (x : List Page). p ∷ x) (t.is ∙ ap (λ (x : Image). x ++ t.rest) e)) t.zeros
        (trimmed-cons p (q ∷ qs) ∙ ap (kept p) whole)

-- a list of pages is its first, and the others
pub first_and_rest : (xs : Image) → 1 ≤ length xs → xs ≡ first_page xs ∷ drop 1 xs
first_and_rest [] some = absurd (omega (arith, some))
first_and_rest (x ∷ xs) some = refl
