-- A page written into a main file, in any backup state: what the file holds then, and what a crash leaves of it.
use Rattle.std.proofs.Common.{◌≡◌, ◌⊎◌, inl, inr, ℕ, zero, suc, ◌+◌, ◌-◌, ◌*◌, ◌<◌, ◌≤◌, List, [], ◌∷◌, ◌++◌, length, take, drop, replicate, refl, sym, ap, subst, ◌∙◌, arith, length-append, append_assoc, add-mul, suc-mul, mul-le-mul_right, le_of_mul-le-mul_right, get_or-set_same, true, false, IsTrue, Some}
use Rattle.nb_base.proofs.Common.{leb_tells, eqb_tells, drop_all, get_or_append_left, get_or-append_right, length-take-le, length-drop, length-replicate, replicate-append-replicate, is_zeros, is_page_size, most_pages, is_header, size_of, File, bytes_of, padded, put_at, PageLeft, Page, Image, page_at, first_page, image_size, image_in, trimmed, with_page, written_at, not_database, joined, IsOfSize, same-header, same-number, AreZeros, IsTrimmed, length-joined, trimmed-append_zeros, trimmed-before, trimmed-over, trimmed-drop, all-append, all-left, all-right, all-take, all-drop, all-replicate, trimmed-nothing, IsLaid, IsLaidOut, whole_laid, trimmed_laid, laid-front, laid-wide, image_in-is, some_page, with_page-split, laid_put, laid_grown, put-joined, put-first, all_zeros, some_same}
use Rattle.nb_host.specs.Files.{with_page as with_page_at}
use Rattle.nb_model.proofs.FormLaws.{no_cause}

-- a file that is laid so has the form of a database, and holds the image
pub laid_formed : (image : Image) (bytes : List ℕ) → IsLaid image bytes → not_database bytes ≡ Rattle.std.specs.Prelude.None
laid_formed image bytes l =
    let front : take 64 bytes ≡ take 64 (first_page image) = laid-front image bytes l in
    let wide : 1024 ≤ image_size image = laid-wide image bytes l in
    let long : length bytes ≡ length (image ++ l.rest) * image_size image = ap length l.is ∙ length-joined (image_size image) (image ++ l.rest) l.sizes in
    no_cause bytes (image_size image) (length (image ++ l.rest)) (same-header bytes (first_page image) front ∙ l.header) (same-number bytes (first_page image) front 24 4 (omega arith)) (omega arith) long l.least l.most

pub laid_image : (image : Image) (bytes : List ℕ) → IsLaid image bytes → image_in bytes ≡ image
laid_image image bytes l =
    let wide : 1024 ≤ image_size image = laid-wide image bytes l in
    image_in-is bytes (image_size image) (image ++ l.rest) (same-number bytes (first_page image) (laid-front image bytes l) 24 4 (omega arith)) l.is l.sizes (omega arith)
    ∙ trimmed-append_zeros image l.rest l.zeros ∙ l.whole

-- a file that is there and laid so
pub record HasMain (image : Image) (file : File) : Type 0 where
  pub bytes : List ℕ
  pub there : file ≡ Some bytes
  pub laid : IsLaid image bytes

-- it holds one image
pub one_main : (i j : Image) (file : File) → HasMain i file → HasMain j file → i ≡ j
one_main i j file h k = sym (laid_image i h.bytes h.laid) ∙ ap image_in (some_same {X = List ℕ} _ _ (sym h.there ∙ k.there)) ∙ laid_image j k.bytes k.laid

-- each page of the image has the page size
pub main_sizes : (image : Image) (bytes : List ℕ) → IsLaid image bytes → (p : ℕ) → p < length image → length (page_at image p) ≡ image_size image
main_sizes image bytes l p low = Rattle.nb_model.proofs.SoundLaws.all_at (λ page. length page ≡ image_size image) image (all-left (λ page. length page ≡ image_size image) image l.rest l.sizes) p low

-- A page that may be laid there, zeros or not: its length, and that page 0 has a header of the same page size.
pub record MayLay (p : ℕ) (page : Page) (image : Image) : Type 0 where
  pub below : p < most_pages
  pub long : length page ≡ image_size image
  pub header : p ≡ 0 → is_header page ≡ true
  pub size : p ≡ 0 → size_of page ≡ image_size image

-- A page that may be written there: one that isn't zeros.
pub record MayWrite (p : ℕ) (page : Page) (image : Image) : Type 0 where
  pub below : p < most_pages
  pub long : length page ≡ image_size image
  pub other : is_zeros page ≡ false
  pub header : p ≡ 0 → is_header page ≡ true
  pub size : p ≡ 0 → size_of page ≡ image_size image

lays : (p : ℕ) (page : Page) (image : Image) → MayWrite p page image → MayLay p page image
lays p page image may = record { below = may.below; long = may.long; header = may.header; size = may.size }

-- the page itself
pub written_same : (size n : ℕ) (page : Page) (main : Image) → page_at (written_at size (n, page) main) n ≡ page
unfolding written_at
written_same size n page main = elim (leb_tells (suc n) (length main)) [
  | inl w ↦ rw (w.0, written_at) (get_or-set_same main n page [] w.1)
  | inr w ↦ rw (w.0, written_at) (behind (omega (arith, w.1)))
]
  where
    last : (zs : Image) (x : Page) (k : ℕ) → k ≡ length zs → page_at (zs ++ x ∷ []) k ≡ x
    last [] x zero e = refl
    last [] x (suc k) e = absurd (omega arith)
    last (z ∷ zs) x zero e = absurd (omega arith)
    last (z ∷ zs) x (suc k) e = last zs x k (omega arith)

    behind : length main ≤ n → page_at (main ++ (replicate (n - length main) (replicate size 0) ++ page ∷ [])) n ≡ page
    behind past =
        get_or-append_right main (replicate (n - length main) (replicate size 0) ++ page ∷ []) (length main) n [] refl past
        ∙ last (replicate (n - length main) (replicate size 0)) page (n - length main) (sym (length-replicate {A = Page} (n - length main) (replicate size 0)))

-- a write below the length, at it, and past it
written_below : (size n : ℕ) (page : Page) (main : Image) → n ≤ length main → written_at size (n, page) main ≡ with_page n page main
unfolding written_at with_page
written_below size n page main low = elim (leb_tells (suc n) (length main)) [
  | inl w ↦ rw (w.0, written_at) (rw (w.0, with_page) refl)
  | inr w ↦ rw (w.0, written_at) (rw (w.0, with_page) (ap (λ k. main ++ (replicate k (replicate {A = ℕ} size 0) ++ page ∷ [])) (let e : n - length main ≡ 0 = omega (arith, w.1, low) in e)))
]

written_past : (size n : ℕ) (page : Page) (main : Image) → length main ≤ n → written_at size (n, page) main ≡ main ++ (replicate (n - length main) (replicate size 0) ++ page ∷ [])
unfolding written_at
written_past size n page main past = elim (leb_tells (suc n) (length main)) [
  | inl w ↦ absurd (omega (arith, w.1))
  | inr w ↦ rw (w.0, written_at) refl
]

-- zeros in front of the place are there already or not
put-padded : (n at : ℕ) (bytes page : List ℕ) → length bytes + n ≤ at → put_at (bytes ++ replicate n 0) at page ≡ put_at bytes at page
unfolding put_at padded
put-padded n at bytes page low =
    let long : length (bytes ++ replicate n 0) ≡ length bytes + n = omega (arith, length-append bytes (replicate n 0), length-replicate {A = ℕ} n 0) in
    let front : (bytes ++ replicate n 0) ++ replicate (at - length (bytes ++ replicate n 0)) 0 ≡ bytes ++ replicate (at - length bytes) 0 =
    append_assoc bytes (replicate n 0) _
    ∙ ap (λ (x : List ℕ). bytes ++ x) (replicate-append-replicate n (at - length (bytes ++ replicate n 0)) 0 ∙ ap (λ k. replicate k 0) (let e : n + (at - length (bytes ++ replicate n 0)) ≡ at - length bytes = omega (arith, long, low) in e)) in
    ap (λ (x : List ℕ). take at x ++ (page ++ drop (at + length page) (bytes ++ replicate n 0))) front
    ∙ ap (λ (x : List ℕ). take at (bytes ++ replicate (at - length bytes) 0) ++ (page ++ x))
    (drop_all (at + length page) (bytes ++ replicate n 0) (omega (arith, long, low)) ∙ sym (drop_all (at + length page) bytes (omega (arith, low))))

-- a front that ends in the second of two lists, and what stands after it
take-past : (n k : ℕ) (xs ys : Image) → n ≡ length xs + k → take n (xs ++ ys) ≡ xs ++ take k ys
take-past n k [] ys e = ap (λ i. take i ys) (let is : n ≡ k = omega (arith, e) in is)
take-past zero k (x ∷ xs) ys e = absurd (omega (arith, e))
take-past (suc n) k (x ∷ xs) ys e = ap (λ (zs : Image). x ∷ zs) (take-past n k xs ys (omega (arith, e)))

drop-past : (n k : ℕ) (xs ys : Image) → n ≡ length xs + k → drop n (xs ++ ys) ≡ drop k ys
drop-past n k [] ys e = ap (λ i. drop i ys) (let is : n ≡ k = omega (arith, e) in is)
drop-past zero k (x ∷ xs) ys e = absurd (omega (arith, e))
drop-past (suc n) k (x ∷ xs) ys e = drop-past n k xs ys (omega (arith, e))

-- pages of zeros are one like another
zero_pages : (size n : ℕ) (zs : List Page) → AreZeros zs → IsOfSize size zs → n ≤ length zs → take n zs ≡ replicate n (replicate size 0)
zero_pages size zero zs zeros sizes low = refl
zero_pages size (suc n) [] zeros sizes low = absurd (omega arith)
zero_pages size (suc n) (z ∷ zs) zeros sizes low =
    ap (λ (x : Page). x ∷ take n zs) (all_zeros z zeros.0 ∙ ap (λ k. replicate k 0) sizes.0) ∙ ap (λ (x : List Page). replicate size 0 ∷ x) (zero_pages size n zs zeros.1 sizes.1 (omega arith))

-- Page p of a main file, which holds an image.
module _ (image : Image) (bytes : List ℕ) (l : IsLaid image bytes) (p : ℕ) (page : Page) (may : MayLay p page image) where
  -- page 0
  laid_first : p ≡ 0 → (q : Page) (qs : Image) → image ≡ q ∷ qs → IsLaidOut (page ∷ qs) (put_at bytes 0 page)
  laid_first first q qs is =
      let pages : List Page = qs ++ l.rest in
      let sizes : IsOfSize (image_size image) (q ∷ pages) = subst (λ (x : Image). IsOfSize (image_size image) (x ++ l.rest)) is l.sizes in
      let same : size_of page ≡ image_size image = may.size first in
      let header : is_header page ≡ true = may.header first in
      record {
        rest = l.rest;
        is = ap (λ (x : List ℕ). put_at x 0 page) (l.is ∙ ap (λ (x : Image). joined (x ++ l.rest)) is) ∙ put-first (image_size image) q page pages sizes may.long;
        size = subst (λ x. IsTrue (is_page_size x)) (sym same) l.size;
        sizes = subst (λ x. IsOfSize x (page ∷ pages)) (sym same) (may.long, sizes.1);
        zeros = l.zeros;
        header = header;
        least = omega (arith, l.least, ap (λ (x : Image). length (x ++ l.rest)) is);
        most = omega (arith, l.most, ap (λ (x : Image). length (x ++ l.rest)) is);
      }

  -- a page past the image, in the zeros after it
  laid_past : length image ≤ p → p ≤ length (image ++ l.rest) → IsLaidOut (image ++ (replicate (p - length image) (replicate (image_size image) 0) ++ page ∷ [])) (put_at bytes (p * image_size image) page)
  laid_past past within =
      let k : ℕ = p - length image in
      let place : p ≡ length image + k = omega (arith, past) in
      let pages : List Page = image ++ l.rest in
      let gap : List Page = replicate k (replicate (image_size image) 0) in
      let rest : List Page = drop (suc k) l.rest in
      let new : Image = image ++ (gap ++ page ∷ []) in
      let rest_sizes : IsOfSize (image_size image) l.rest = all-right (λ x. length x ≡ image_size image) image l.rest l.sizes in
      let zeros : take k l.rest ≡ gap = zero_pages (image_size image) k l.rest l.zeros rest_sizes (omega (arith, within, place, length-append image l.rest)) in
      let front : take p pages ≡ image ++ gap = take-past p k image l.rest place ∙ ap (λ (x : Image). image ++ x) zeros in
      let back : drop (suc p) pages ≡ rest = drop-past (suc p) (suc k) image l.rest (omega (arith, place)) in
      let pages_are : take p pages ++ page ∷ drop (suc p) pages ≡ new ++ rest =
      ap (λ (x : Image). x ++ page ∷ drop (suc p) pages) front ∙ ap (λ (x : Image). (image ++ gap) ++ page ∷ x) back
      ∙ append_assoc image gap (page ∷ rest) ∙ ap (λ (x : Image). image ++ x) (sym (append_assoc gap (page ∷ []) rest)) ∙ sym (append_assoc image (gap ++ page ∷ []) rest) in
      let some : 1 ≤ length image = some_page image l.header in
      let first : first_page new ≡ first_page image = get_or_append_left image (gap ++ page ∷ []) [] 0 some in
      let same : image_size new ≡ image_size image = ap size_of first in
      let ofsize : IsOfSize (image_size image) (take p pages ++ page ∷ drop (suc p) pages) =
      all-append (λ x. length x ≡ image_size image) (take p pages) (page ∷ drop (suc p) pages) (all-take (λ x. length x ≡ image_size image) p pages l.sizes) (may.long, all-drop (λ x. length x ≡ image_size image) (suc p) pages l.sizes) in
      let count : length (take p pages ++ page ∷ drop (suc p) pages) ≡ p + suc (length pages - suc p) =
      omega (arith, length-append (take p pages) (page ∷ drop (suc p) pages), length-take-le p pages within, length-drop (suc p) pages) in
      record {
        rest = rest;
        is = ap (λ (x : List ℕ). put_at x (p * image_size image) page) l.is ∙ put-joined (image_size image) p page pages l.sizes within may.long ∙ ap joined pages_are;
        size = subst (λ x. IsTrue (is_page_size x)) (sym same) l.size;
        sizes = subst (λ x. IsOfSize x (new ++ rest)) (sym same) (subst (λ (x : List Page). IsOfSize (image_size image) x) pages_are ofsize);
        zeros = all-drop (λ x. is_zeros x ≡ true) (suc k) l.rest l.zeros;
        header = ap is_header first ∙ l.header;
        least = omega (arith, count, ap length pages_are, l.least);
        most = omega (arith, count, ap length pages_are, l.most, may.below);
      }

-- page 0 in its place
pub first_set : (page q : Page) (qs : Image) → with_page 0 page (q ∷ qs) ≡ page ∷ qs
unfolding with_page
first_set page q qs = elim (leb_tells 1 (length (q ∷ qs))) [
  | inl w ↦ rw (w.0, with_page) refl
  | inr w ↦ absurd (omega (arith, w.1))
]

-- Any page of it.
pub laid_out : (image : Image) (bytes : List ℕ) (l : IsLaid image bytes) (p : ℕ) (page : Page) → MayLay p page image
    → IsLaidOut (written_at (image_size image) (p, page) image) (put_at bytes (p * image_size image) page)
laid_out image bytes l p page may = elim (eqb_tells p 0) [
  | inl w ↦ first image refl w.1
  | inr w ↦ elim (leb_tells p (length image)) [
    | inl v ↦ subst (λ (x : Image). IsLaidOut x (put_at bytes (p * image_size image) page)) (sym (written_below (image_size image) p page image v.1))
        (laid_put p page image bytes (record { low = v.1; below = may.below; long = may.long; front = λ e. absurd (w.1 e) }) l)
    | inr v ↦ subst (λ (x : Image). IsLaidOut x (put_at bytes (p * image_size image) page)) (sym (written_past (image_size image) p page image (omega (arith, v.1)))) (past (omega (arith, v.1)))
  ]
]
  where
    first : (x : Image) → image ≡ x → p ≡ 0 → IsLaidOut (written_at (image_size image) (p, page) image) (put_at bytes (p * image_size image) page)
    first [] is e = absurd (omega (arith, some_page image l.header, ap length is))
    first (q ∷ qs) is e =
        let image_is : written_at (image_size image) (p, page) image ≡ page ∷ qs =
        written_below (image_size image) p page image (omega (arith, e)) ∙ ap (λ n. with_page n page image) e ∙ ap (λ (x : Image). with_page 0 page x) is ∙ first_set page q qs in
        let bytes_are : put_at bytes (p * image_size image) page ≡ put_at bytes 0 page = ap (λ n. put_at bytes n page) (ap (λ n. n * image_size image) e ∙ (let z : 0 * image_size image ≡ 0 = omega arith in z)) in
        subst (λ (x : Image). IsLaidOut x (put_at bytes (p * image_size image) page)) (sym image_is) (subst (λ (x : List ℕ). IsLaidOut (page ∷ qs) x) (sym bytes_are) (laid_first image bytes l p page may e q qs is))

    past : length image ≤ p → IsLaidOut (image ++ (replicate (p - length image) (replicate (image_size image) 0) ++ page ∷ [])) (put_at bytes (p * image_size image) page)
    past above =
        let pages : List Page = image ++ l.rest in
        let k : ℕ = p - length pages in
        let wide_ : 1024 ≤ image_size image = laid-wide image bytes l in
        let grown : IsLaid image (bytes ++ replicate (k * image_size image) 0) = laid_grown k image bytes l (omega (arith, l.most, may.below)) in
        let long : length bytes ≡ length pages * image_size image = ap length l.is ∙ length-joined (image_size image) pages l.sizes in
        elim (leb_tells p (length pages)) [
          | inl w ↦ laid_past image bytes l p page may above w.1
          | inr w ↦
              let sum : p ≡ length pages + k = omega (arith, w.1) in
              let room : length bytes + k * image_size image ≤ p * image_size image = omega (arith, long, add-mul (length pages) k (image_size image), ap (λ n. n * image_size image) sum) in
              subst (λ (x : List ℕ). IsLaidOut (image ++ (replicate (p - length image) (replicate (image_size image) 0) ++ page ∷ [])) x) (put-padded (k * image_size image) (p * image_size image) bytes page room)
              (laid_past image (bytes ++ replicate (k * image_size image) 0) grown p page may above (enough grown sum))
        ]
      where
        enough : (grown : IsLaid image (bytes ++ replicate ((p - length (image ++ l.rest)) * image_size image) 0)) → p ≡ length (image ++ l.rest) + (p - length (image ++ l.rest)) → p ≤ length (image ++ grown.rest)
        enough grown sum =
            let k : ℕ = p - length (image ++ l.rest) in
            let wide_ : 1024 ≤ image_size image = laid-wide image bytes l in
            let long : length bytes ≡ length (image ++ l.rest) * image_size image = ap length l.is ∙ length-joined (image_size image) (image ++ l.rest) l.sizes in
            let all : length (bytes ++ replicate (k * image_size image) 0) ≡ length (image ++ grown.rest) * image_size image = ap length grown.is ∙ length-joined (image_size image) (image ++ grown.rest) grown.sizes in
            let sum_ : p * image_size image ≤ length (image ++ grown.rest) * image_size image =
            omega (arith, all, long, length-append bytes (replicate (k * image_size image) 0), length-replicate {A = ℕ} (k * image_size image) 0, add-mul (length (image ++ l.rest)) k (image_size image), ap (λ n. n * image_size image) sum) in
            le_of_mul-le-mul_right {k = image_size image} sum_ (omega arith)

-- a page that isn't zeros leaves no pages of zeros at the end
written_whole : (size p : ℕ) (page : Page) (image : Image) → is_zeros page ≡ false → IsTrimmed image → IsTrimmed (written_at size (p, page) image)
written_whole size p page image other whole = elim (leb_tells p (length image)) [
  | inl w ↦ subst (λ (x : Image). IsTrimmed x) (sym (written_below size p page image w.1 ∙ with_page-split p page image w.1)) (trimmed-before (take p image) page (drop (suc p) image) other (trimmed-drop (suc p) image whole))
  | inr w ↦
      let gap : List Page = replicate (p - length image) (replicate size 0) in
      subst (λ (x : Image). IsTrimmed x) (append_assoc image gap (page ∷ []) ∙ sym (written_past size p page image (omega (arith, w.1)))) (trimmed-before (image ++ gap) page [] other trimmed-nothing)
]

-- nor does a page before the last one
pub written_inner : (size p : ℕ) (page : Page) (image : Image) → p + 1 < length image → IsTrimmed image → IsTrimmed (written_at size (p, page) image)
written_inner size p page image inside whole =
    let rest : Image = drop (suc p) image in
    let some : 1 ≤ length rest = omega (arith, inside, length-drop (suc p) image) in
    subst (λ (x : Image). IsTrimmed x) (sym (written_below size p page image (omega (arith, inside)) ∙ with_page-split p page image (omega (arith, inside))))
    (trimmed-over (take p image) (page ∷ rest) (omega arith) (trimmed-over (page ∷ []) rest some (trimmed-drop (suc p) image whole)))

-- each page has the size then
pub written_sizes : (size p : ℕ) (page : Page) (image : Image) → IsOfSize size image → length page ≡ size → IsOfSize size (written_at size (p, page) image)
written_sizes size p page image sizes long = elim (leb_tells p (length image)) [
  | inl w ↦ subst (λ (x : Image). IsOfSize size x) (sym (written_below size p page image w.1 ∙ with_page-split p page image w.1))
      (all-append (λ x. length x ≡ size) (take p image) (page ∷ drop (suc p) image) (all-take (λ x. length x ≡ size) p image sizes) (long, all-drop (λ x. length x ≡ size) (suc p) image sizes))
  | inr w ↦
      let gap : List Page = replicate (p - length image) (replicate size 0) in
      subst (λ (x : Image). IsOfSize size x) (sym (written_past size p page image (omega (arith, w.1))))
      (all-append (λ x. length x ≡ size) image (gap ++ page ∷ []) sizes
      (all-append (λ x. length x ≡ size) gap (page ∷ []) (all-replicate (λ x. length x ≡ size) (p - length image) (replicate {A = ℕ} size 0) (length-replicate {A = ℕ} size 0)) (long, tt)))
]

-- the page written whole
pub main_put : (image : Image) (file c : File) (p : ℕ) (page : Page) → HasMain image file → MayWrite p page image → c ≡ with_page_at file (p * length page) page → HasMain (written_at (image_size image) (p, page) image) c
main_put image file c p page h may put = record {
  bytes = put_at h.bytes (p * image_size image) page;
  there = put ∙ ap (λ (x : File). with_page_at x (p * length page) page) h.there ∙ ap (λ n. Some (put_at h.bytes n page)) (ap (λ x. p * x) may.long);
  laid = whole_laid _ _ (laid_out image h.bytes h.laid p page (lays p page image may)) (written_whole (image_size image) p page image may.other h.laid.whole);
}

-- the page laid there, zeros or not
pub main_over : (image : Image) (file c : File) (p : ℕ) (page : Page) → HasMain image file → MayLay p page image → c ≡ with_page_at file (p * length page) page → HasMain (trimmed (written_at (image_size image) (p, page) image)) c
main_over image file c p page h may put = record {
  bytes = put_at h.bytes (p * image_size image) page;
  there = put ∙ ap (λ (x : File). with_page_at x (p * length page) page) h.there ∙ ap (λ n. Some (put_at h.bytes n page)) (ap (λ x. p * x) may.long);
  laid = trimmed_laid (written_at (image_size image) (p, page) image) _ (laid_out image h.bytes h.laid p page may);
}

-- what a crash leaves of a page write: the image as it was, or with the page
page_left : (image after : Image) (file c : File) (p : ℕ) (page : Page) → HasMain image file → MayLay p page image → (c ≡ with_page_at file (p * length page) page → HasMain after c) → PageLeft (p * length page) page file c → HasMain image c ⊎ HasMain after c
page_left image after file c p page h may done (inl same) = inl (subst (λ (x : File). HasMain image x) (sym same) h)
page_left image after file c p page h may done (inr (inl put)) = inr (done put)
page_left image after file c p page h may done (inr (inr (k, fits, grown))) =
    let l : IsLaid image h.bytes = h.laid in
    let wide : 1024 ≤ image_size image = laid-wide image h.bytes l in
    let same : k * length page ≡ k * image_size image = ap (λ x. k * x) may.long in
    let place : p * length page ≡ p * image_size image = ap (λ x. p * x) may.long in
    let all : (p + 1) * image_size image ≤ most_pages * image_size image = mul-le-mul_right (image_size image) (omega (arith, may.below)) in
    let pages : List Page = image ++ l.rest in
    let long : length h.bytes ≡ length pages * image_size image = ap length l.is ∙ length-joined (image_size image) pages l.sizes in
    let most : (length pages + k) * image_size image ≤ most_pages * image_size image = omega (arith, fits, long, same, place, all, suc-mul p (image_size image), may.long, ap (λ (x : File). length (bytes_of x)) h.there, add-mul (length pages) k (image_size image)) in
    let is : c ≡ Some (h.bytes ++ replicate (k * image_size image) 0) = grown ∙ ap (λ (x : File). Some (bytes_of x ++ replicate (k * length page) 0)) h.there ∙ ap (λ n. Some (h.bytes ++ replicate n 0)) same in
    inl (record { bytes = h.bytes ++ replicate (k * image_size image) 0; there = is; laid = laid_grown k image h.bytes l (le_of_mul-le-mul_right {k = image_size image} most (omega arith)) })

pub main_written : (image : Image) (file c : File) (p : ℕ) (page : Page) → HasMain image file → MayWrite p page image → PageLeft (p * length page) page file c → HasMain image c ⊎ HasMain (written_at (image_size image) (p, page) image) c
main_written image file c p page h may = page_left image (written_at (image_size image) (p, page) image) file c p page h (lays p page image may) (main_put image file c p page h may)

pub main_overlaid : (image : Image) (file c : File) (p : ℕ) (page : Page) → HasMain image file → MayLay p page image → PageLeft (p * length page) page file c → HasMain image c ⊎ HasMain (trimmed (written_at (image_size image) (p, page) image)) c
main_overlaid image file c p page h may = page_left image (trimmed (written_at (image_size image) (p, page) image)) file c p page h may (main_over image file c p page h may)
