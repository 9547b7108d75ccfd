-- What the target reads as, one page after another.
use Rattle.std.proofs.Common.{◌≡◌, inl, inr, ℕ, zero, suc, ◌+◌, ◌-◌, ◌*◌, ◌<◌, ◌≤◌, List, [], ◌∷◌, ◌++◌, length, take, drop, replicate, refl, sym, ap, subst, ◌∙◌, arith, append_assoc, length-append, mul-le-mul_right, add-mul, Some}
use Rattle.nb_restore.proofs.Common.{cases_lt, take_all, drop_all, set_split, length-replicate, most_pages, File, padded, put_at, with_page, Page, Image, Numbered, first_page, written_at, overwritten, joined, Link, all_over, IsOfSize, all-append, all-take, all-drop, all-replicate, joined-append, length-joined, joined-zeros, put-joined, written-inside, written-past, length-written, Holds, Overwrites, OverwritesAll}

-- pages written one list after another
pub overwritten-append : (size : ℕ) (xs ys : List Numbered) (image : Image) → overwritten size (xs ++ ys) image ≡ overwritten size ys (overwritten size xs image)
unfolding overwritten
overwritten-append size [] ys image = refl
overwritten-append size (x ∷ xs) ys image = overwritten-append size xs ys (written_at size x image)

overwritten-none : (size : ℕ) (image : Image) → overwritten size [] image ≡ image
unfolding overwritten
overwritten-none size image = refl

pub overwritten-one : (size : ℕ) (r : Numbered) (image : Image) → overwritten size (r ∷ []) image ≡ written_at size r image
unfolding overwritten
overwritten-one size r image = refl

pub all_over-append : (xs ys : List Link) (image : Image) → all_over (xs ++ ys) image ≡ all_over ys (all_over xs image)
unfolding all_over
all_over-append [] ys image = refl
all_over-append (x ∷ xs) ys image = all_over-append xs ys (overwritten x.size x.pages image)

all_over-none : (image : Image) → all_over [] image ≡ image
unfolding all_over
all_over-none image = refl

pub all_over-one : (l : Link) (image : Image) → all_over (l ∷ []) image ≡ overwritten l.size l.pages image
unfolding all_over
all_over-one l image = refl

-- a page put after pages that are joined, with zeros between
put-past : (size n : ℕ) (page : Page) (ps : List Page) → IsOfSize size ps → length ps ≤ n → length page ≡ size
    → put_at (joined ps) (n * size) page ≡ joined (ps ++ (replicate (n - length ps) (replicate size 0) ++ page ∷ []))
unfolding put_at padded
put-past size n page ps sizes past long =
    let k : ℕ = n - length ps in
    let zeros : List Page = replicate k (replicate {A = ℕ} size 0) in
    let all : length (joined ps) ≡ length ps * size = length-joined size ps sizes in
    let both : n * size ≡ length ps * size + k * size = ap (λ x. x * size) (let e : n ≡ length ps + k = omega (arith, past) in e) ∙ add-mul (length ps) k size in
    let gap : n * size - length (joined ps) ≡ k * size = omega (arith, both, all) in
    let wide : joined ps ++ replicate {A = ℕ} (n * size - length (joined ps)) 0 ≡ joined (ps ++ zeros) =
    ap (λ x. joined ps ++ replicate {A = ℕ} x 0) gap ∙ ap (λ (x : List ℕ). joined ps ++ x) (joined-zeros k size) ∙ sym (joined-append ps zeros) in
    let sizes' : IsOfSize size (ps ++ zeros) = all-append (λ x. length x ≡ size) ps zeros sizes (all-replicate (λ x. length x ≡ size) k (replicate {A = ℕ} size 0) (length-replicate {A = ℕ} size 0)) in
    let count : length (ps ++ zeros) ≡ n = omega (arith, length-append ps zeros, length-replicate k (replicate {A = ℕ} size 0)) in
    let full : length (joined (ps ++ zeros)) ≡ n * size = length-joined size (ps ++ zeros) sizes' ∙ ap (λ x. x * size) count in
    let fits : length ps * size ≤ n * size = mul-le-mul_right size past in
    ap (λ (x : List ℕ). take (n * size) x ++ (page ++ drop (n * size + length page) (joined ps))) wide
    ∙ ap (λ (x : List ℕ). x ++ (page ++ drop (n * size + length page) (joined ps))) (take_all (n * size) (joined (ps ++ zeros)) (omega (arith, full)))
    ∙ ap (λ (x : List ℕ). joined (ps ++ zeros) ++ (page ++ x)) (drop_all (n * size + length page) (joined ps) (omega (arith, fits, all)))
    ∙ sym (joined-append (ps ++ zeros) (page ∷ [])) ∙ ap joined (append_assoc ps zeros (page ∷ []))

-- a page written at its place
pub put-written : (size : ℕ) (r : Numbered) (ps : List Page) → IsOfSize size ps → length r.1 ≡ size → put_at (joined ps) (r.0 * size) r.1 ≡ joined (written_at size r ps)
put-written size r ps sizes long = elim (cases_lt r.0 (length ps)) [
  | inl w ↦ put-joined size r.0 r.1 ps sizes (omega (arith, w)) long ∙ ap joined (sym (set_split ps r.0 r.1 w) ∙ sym (written-inside size r ps w))
  | inr w ↦ put-past size r.0 r.1 ps sizes w long ∙ ap joined (sym (written-past size r ps w))
]

pub written-sizes : (size : ℕ) (r : Numbered) (ps : List Page) → IsOfSize size ps → length r.1 ≡ size → IsOfSize size (written_at size r ps)
written-sizes size r ps sizes long = elim (cases_lt r.0 (length ps)) [
  | inl w ↦ subst (λ (x : List Page). IsOfSize size x) (sym (set_split ps r.0 r.1 w) ∙ sym (written-inside size r ps w))
      (all-append P (take r.0 ps) (r.1 ∷ drop (suc r.0) ps) (all-take P r.0 ps sizes) (long, all-drop P (suc r.0) ps sizes))
  | inr w ↦ subst (λ (x : List Page). IsOfSize size x) (sym (written-past size r ps w))
      (all-append P ps (replicate (r.0 - length ps) (replicate size 0) ++ r.1 ∷ []) sizes
      (all-append P (replicate (r.0 - length ps) (replicate size 0)) (r.1 ∷ []) (all-replicate P (r.0 - length ps) (replicate size 0) (length-replicate {A = ℕ} size 0)) (long, tt)))
]
  where
    P : Page → Type 0
    P x = length x ≡ size

-- page 0 is another's where a page after it is written
pub written-behind : (size n : ℕ) (page p q : Page) (ps : List Page) → written_at size (suc n, page) (p ∷ ps) ≡ p ∷ drop 1 (written_at size (suc n, page) (q ∷ ps))
written-behind size n page p q ps = elim (cases_lt (suc n) (length (p ∷ ps))) [
  | inl w ↦ written-inside size (suc n, page) (p ∷ ps) w ∙ ap (λ (x : Image). p ∷ drop 1 x) (sym (written-inside size (suc n, page) (q ∷ ps) (omega (arith, w))))
  | inr w ↦ written-past size (suc n, page) (p ∷ ps) w ∙ ap (λ (x : Image). p ∷ drop 1 x) (sym (written-past size (suc n, page) (q ∷ ps) (omega (arith, w))))
]

written-first : (size n : ℕ) (page p : Page) (ps : List Page) → first_page (written_at size (suc n, page) (p ∷ ps)) ≡ p
written-first size n page p ps = ap first_page (written-behind size n page p p ps)

pub written-zero : (size : ℕ) (page p : Page) (ps : List Page) → written_at size (0, page) (p ∷ ps) ≡ page ∷ ps
written-zero size page p ps = written-inside size (0, page) (p ∷ ps) (omega arith)

-- and it is that page where page 0 is
pub first-written : (size : ℕ) (r : Numbered) (image : Image) → 1 ≤ length image → (r.0 ≡ 0 → first_page (written_at size r image) ≡ r.1) × (1 ≤ r.0 → first_page (written_at size r image) ≡ first_page image)
first-written size (n, page) [] some = absurd (omega arith)
first-written size (zero, page) (p ∷ ps) some = (λ e. ap first_page (written-zero size page p ps), λ h. absurd (omega arith))
first-written size (suc n, page) (p ∷ ps) some = (λ e. absurd (omega (arith, e)), λ h. written-first size n page p ps)

-- no page, and one list after another
pub overwrites_none : (size : ℕ) (file : File) (first : Page) → Overwrites size [] file file first first
overwrites_none size file first start image holds = subst (λ (x : Image). Holds size start first x file) (sym (overwritten-none size image)) holds

pub overwrites_joined : (size : ℕ) (xs ys : List Numbered) (a b c : File) (p q r : Page) → Overwrites size xs a b p q → Overwrites size ys b c q r → Overwrites size (xs ++ ys) a c p r
overwrites_joined size xs ys a b c p q r first second start image holds =
    subst (λ (x : Image). Holds size start r x c) (sym (overwritten-append size xs ys image)) (second start (overwritten size xs image) (first start image holds))

-- one page that isn't page 0 is written
pub overwrites_page : (size n : ℕ) (page : Page) (before after : File) (first : Page) → 1 ≤ n → n < most_pages → length page ≡ size → after ≡ with_page before (n * length page) page → Overwrites size ((n, page) ∷ []) before after first first
overwrites_page size zero page before after first some below long put start image holds = absurd (omega arith)
overwrites_page size (suc n) page before after first some below long put start [] holds = absurd (let few : 1 ≤ 0 = holds.some in omega (arith, few))
overwrites_page size (suc n) page before after first some below long put start (p ∷ ps) holds =
    subst (λ (x : Image). Holds size start first x after) (sym (overwritten-one size (suc n, page) (p ∷ ps))) (record {
      reads = put ∙ ap (λ (f : File). with_page f (suc n * length page) page) holds.reads
          ∙ ap (λ k. Some (put_at (joined (start ∷ ps)) (suc n * k) page)) long
          ∙ ap Some (put-written size (suc n, page) (start ∷ ps) (holds.long, holds.sizes.1) long)
          ∙ ap (λ (x : Image). Some (joined x)) (written-behind size n page start p ps);
      long = holds.long;
      sizes = written-sizes size (suc n, page) (p ∷ ps) holds.sizes long;
      some = omega (arith, length-written size (suc n, page) (p ∷ ps), holds.some);
      most = omega (arith, length-written size (suc n, page) (p ∷ ps), holds.most, below);
      page_0 = holds.page_0 ∙ sym (written-first size n page p ps);
    })

-- page 0 is held
pub overwrites_first : (size n : ℕ) (page : Page) (file : File) (first last : Page) → n ≡ 0 → length page ≡ size → last ≡ page → Overwrites size ((n, page) ∷ []) file file first last
overwrites_first size (suc n) page file first last none long same start image holds = absurd (omega (arith, none))
overwrites_first size zero page file first last none long same start [] holds = absurd (let few : 1 ≤ 0 = holds.some in omega (arith, few))
overwrites_first size zero page file first last none long same start (p ∷ ps) holds =
    let image_is : overwritten size ((0, page) ∷ []) (p ∷ ps) ≡ page ∷ ps = overwritten-one size (0, page) (p ∷ ps) ∙ written-zero size page p ps in
    subst (λ (x : Image). Holds size start last x file) (sym image_is) (record {
      reads = holds.reads;
      long = holds.long;
      sizes = (long, holds.sizes.1);
      some = omega arith;
      most = holds.most;
      page_0 = same;
    })

-- no file, and one file more
pub all_none : (size : ℕ) (file : File) (first : Page) → OverwritesAll size [] file file first first
all_none size file first start image holds = subst (λ (x : Image). Holds size start first x file) (sym (all_over-none image)) holds

pub all_more : (size : ℕ) (ls : List Link) (l : Link) (a b c : File) (p q r : Page) → l.size ≡ size → OverwritesAll size ls a b p q → Overwrites size l.pages b c q r → OverwritesAll size (ls ++ l ∷ []) a c p r
all_more size ls l a b c p q r sized first second start image holds =
    let is : all_over (ls ++ l ∷ []) image ≡ overwritten size l.pages (all_over ls image) = all_over-append ls (l ∷ []) image ∙ all_over-one l (all_over ls image) ∙ ap (λ k. overwritten k l.pages (all_over ls image)) sized in
    subst (λ (x : Image). Holds size start r x c) (sym is) (second start (all_over ls image) (first start image holds))
