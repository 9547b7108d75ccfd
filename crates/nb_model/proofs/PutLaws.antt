-- A page write to a main file in the normal state: what the file holds then, and what a crash leaves of it.
use Rattle.std.proofs.Common.{◌≡◌, ◌⊎◌, inl, inr, ℕ, suc, ◌+◌, ◌-◌, ◌*◌, ◌<◌, ◌≤◌, List, [], ◌∷◌, ◌++◌, length, take, drop, replicate, refl, sym, ap, subst, ◌∙◌, arith, length-append, append_assoc, suc-mul, mul-le-mul_right, true, false, IsTrue, nat_le}
use Rattle.nb_model.proofs.Common.{leb_tells, take-append-le, drop-append-le, take_all, drop_all, drop_at, length-take-le, length-drop, length-replicate, set_split, drop-drop, is_zeros, is_page_size, most_pages, put_at, Page, Image, page_at, first_page, image_size, with_page, joined, IsOfSize}
use Rattle.nb_host.specs.Files.{padded}
use Rattle.nb_model.proofs.HeaderLaws.{same-header, same-number}
use Rattle.nb_model.proofs.ImageLaws.{joined-append, length-joined, take-joined, drop-joined, joined-zeros, zeros-are, all-append, all-take, all-drop, all-replicate}
use Rattle.nb_model.proofs.StrokeLaws.{with_page_front}
use Rattle.nb_model.proofs.MainLaws.{IsLaid, IsLaidOut}

-- the image with page p: what stands before it, the page, and what stands after it
pub with_page-split : (p : ℕ) (page : Page) (image : Image) → p ≤ length image → with_page p page image ≡ take p image ++ page ∷ drop (suc p) image
unfolding with_page
with_page-split p page image low = elim (leb_tells (suc p) (length image)) [
  | inl w ↦ rw (w.0, with_page) (set_split image p page w.1)
  | inr w ↦ rw (w.0, with_page) (ap (λ (x : Image). x ++ page ∷ []) (sym (take_all p image (omega (arith, w.1)))) ∙ ap (λ (x : Image). take p image ++ page ∷ x) (sym (drop_all (suc p) image (omega (arith, w.1)))))
]

-- a page put into pages that are joined
pub put-joined : (size p : ℕ) (page : Page) (ps : List Page) → IsOfSize size ps → p ≤ length ps → length page ≡ size
    → put_at (joined ps) (p * size) page ≡ joined (take p ps ++ page ∷ drop (suc p) ps)
unfolding put_at padded
put-joined size p page ps sizes low long =
    let all : length (joined ps) ≡ length ps * size = length-joined size ps sizes in
    let fits : p * size ≤ length ps * size = mul-le-mul_right size low in
    let none : p * size - length (joined ps) ≡ 0 = omega (arith, fits, all) in
    let front : take (p * size) (joined ps ++ replicate (p * size - length (joined ps)) 0) ≡ joined (take p ps) =
    take-append-le (p * size) (joined ps) _ (omega (arith, fits, all)) ∙ take-joined size p ps sizes low in
    let behind : drop (p * size + length page) (joined ps) ≡ joined (drop (suc p) ps) = past (leb_tells (suc p) (length ps)) in
    ap (λ (x : List ℕ). x ++ (page ++ drop (p * size + length page) (joined ps))) front
    ∙ ap (λ (x : List ℕ). joined (take p ps) ++ (page ++ x)) behind ∙ sym (joined-append (take p ps) (page ∷ drop (suc p) ps))
  where
    past : ((nat_le (suc p) (length ps) ≡ true) × (suc p ≤ length ps)) ⊎ ((nat_le (suc p) (length ps) ≡ false) × (length ps < suc p)) → drop (p * size + length page) (joined ps) ≡ joined (drop (suc p) ps)
    past (inl w) = ap (λ x. drop x (joined ps)) (let e : p * size + length page ≡ suc p * size = omega (arith, long, suc-mul p size) in e) ∙ drop-joined size (suc p) ps sizes w.1
    past (inr w) =
        let all : length (joined ps) ≡ length ps * size = length-joined size ps sizes in
        let same : length ps ≡ p = omega (arith, w.1, low) in
        let short : length (joined ps) ≤ p * size + length page = omega (arith, all, ap (λ x. x * size) same) in
        drop_all (p * size + length page) (joined ps) short ∙ ap joined (sym (drop_all (suc p) ps (omega (arith, w.1))))

-- So a file is made: page 1 first, then the next pages, and page 0 over the zeros in its place.
pub put-second : (size : ℕ) (page : Page) → put_at [] size page ≡ joined (replicate size 0 ∷ page ∷ [])
unfolding put_at padded
put-second size page =
    ap (λ (x : List ℕ). x ++ (page ++ drop (size + length page) [])) (ap (λ n. take size (replicate {A = ℕ} n 0)) (let e : size - 0 ≡ size = omega arith in e) ∙ take_all size (replicate size 0) (omega (arith, length-replicate {A = ℕ} size 0)))
    ∙ ap (λ (x : List ℕ). replicate size 0 ++ (page ++ x)) (drop_all (size + length page) [] (omega arith))

pub put-next : (size : ℕ) (page : Page) (ps : List Page) → IsOfSize size ps → length page ≡ size → put_at (joined ps) (length ps * size) page ≡ joined (ps ++ page ∷ [])
put-next size page ps sizes long =
    put-joined size (length ps) page ps sizes (omega arith) long
    ∙ ap (λ (x : List Page). joined (x ++ page ∷ drop (suc (length ps)) ps)) (take_all (length ps) ps (omega arith))
    ∙ ap (λ (x : List Page). joined (ps ++ page ∷ x)) (drop_all (suc (length ps)) ps (omega arith))

pub put-first : (size : ℕ) (old page : Page) (ps : List Page) → IsOfSize size (old ∷ ps) → length page ≡ size → put_at (joined (old ∷ ps)) 0 page ≡ joined (page ∷ ps)
put-first size old page ps sizes long =
    ap (λ x. put_at (joined (old ∷ ps)) x page) (let e : 0 ≡ 0 * size = omega arith in e) ∙ put-joined size 0 page (old ∷ ps) sizes (omega arith) long

-- what stands after the image then
abbrev behind : (p : ℕ) (image : Image) (rest : List Page) → List Page
behind p image rest = drop (suc p - length image) rest

drop-behind : (p : ℕ) (image : Image) (rest : List Page) → p ≤ length image → drop (suc p) (image ++ rest) ≡ drop (suc p) image ++ behind p image rest
drop-behind p image rest low = by (leb_tells (suc p) (length image))
  where
    by : ((nat_le (suc p) (length image) ≡ true) × (suc p ≤ length image)) ⊎ ((nat_le (suc p) (length image) ≡ false) × (length image < suc p)) → drop (suc p) (image ++ rest) ≡ drop (suc p) image ++ behind p image rest
    by (inl w) = drop-append-le (suc p) image rest w.1 ∙ ap (λ x. drop (suc p) image ++ drop x rest) (let e : 0 ≡ suc p - length image = omega (arith, w.1) in e)
    by (inr w) =
        ap (λ x. drop x (image ++ rest)) (let e : suc p ≡ length image + (suc p - length image) = omega (arith, w.1) in e)
        ∙ sym (drop-drop (suc p - length image) (length image) (image ++ rest)) ∙ ap (drop (suc p - length image)) (drop_at image rest (length image) refl)
        ∙ ap (λ (x : Image). x ++ behind p image rest) (sym (drop_all (suc p) image (omega (arith, w.1))))

-- what a page may be that is put there
pub record MayPut (p : ℕ) (page : Page) (image : Image) : Type 0 where
  pub low : p ≤ length image
  pub below : p < most_pages
  pub long : length page ≡ image_size image
  pub front : p ≡ 0 → take 64 page ≡ take 64 (page_at image 0)

-- page 0 keeps its first 64 bytes
put-front : (p : ℕ) (page : Page) (image : Image) → MayPut p page image → take 64 (first_page (with_page p page image)) ≡ take 64 (first_page image)
put-front p page image may = with_page_front p page image may.low may.front

pub laid_put : (p : ℕ) (page : Page) (image : Image) (bytes : List ℕ) → MayPut p page image → IsLaid image bytes → IsLaidOut (with_page p page image) (put_at bytes (p * image_size image) page)
laid_put p page image bytes may laid =
    let size : ℕ = image_size image in
    let new : Image = take p image ++ page ∷ drop (suc p) image in
    let pages : List Page = image ++ laid.rest in
    let rest : List Page = behind p image laid.rest in
    let new_is : with_page p page image ≡ new = with_page-split p page image may.low in
    let below : p ≤ length pages = omega (arith, may.low, length-append image laid.rest) in
    let pages_are : take p pages ++ page ∷ drop (suc p) pages ≡ with_page p page image ++ rest =
    ap (λ (x : Image). x ++ page ∷ drop (suc p) pages) (take-append-le p image laid.rest may.low)
    ∙ ap (λ (x : Image). take p image ++ page ∷ x) (drop-behind p image laid.rest may.low)
    ∙ sym (append_assoc (take p image) (page ∷ drop (suc p) image) rest) ∙ ap (λ (x : Image). x ++ rest) (sym new_is) in
    let front : take 64 (first_page (with_page p page image)) ≡ take 64 (first_page image) = put-front p page image may in
    let same : image_size (with_page p page image) ≡ size = same-number _ (first_page image) front 24 4 (omega arith) in
    let ofsize : IsOfSize size (take p pages ++ page ∷ drop (suc p) pages) =
    all-append (λ x. length x ≡ size) (take p pages) (page ∷ drop (suc p) pages) (all-take (λ x. length x ≡ size) p pages laid.sizes) (may.long, all-drop (λ x. length x ≡ size) (suc p) pages laid.sizes) in
    let count : length (take p pages ++ page ∷ drop (suc p) pages) ≡ p + suc (length pages - suc p) =
    omega (arith, length-append (take p pages) (page ∷ drop (suc p) pages), length-take-le p pages below, length-drop (suc p) pages) in
    record {
      rest = rest;
      is = ap (λ (x : List ℕ). put_at x (p * size) page) laid.is ∙ put-joined size p page pages laid.sizes below may.long ∙ ap joined pages_are;
      size = subst (λ x. IsTrue (is_page_size x)) (sym same) laid.size;
      sizes = subst (λ (x : List Page). IsOfSize (image_size (with_page p page image)) x) pages_are (subst (λ x. IsOfSize x (take p pages ++ page ∷ drop (suc p) pages)) (sym same) ofsize);
      zeros = all-drop (λ x. is_zeros x ≡ true) (suc p - length image) laid.rest laid.zeros;
      header = same-header _ (first_page image) front ∙ laid.header;
      least = omega (arith, count, ap length pages_are, laid.least);
      most = omega (arith, count, ap length pages_are, laid.most, may.below);
    }

pub laid_grown : (k : ℕ) (image : Image) (bytes : List ℕ) (laid : IsLaid image bytes) → length (image ++ laid.rest) + k ≤ most_pages → IsLaid image (bytes ++ replicate (k * image_size image) 0)
laid_grown k image bytes laid most =
    let size : ℕ = image_size image in
    let zeros : List Page = replicate k (replicate {A = ℕ} size 0) in
    let pages_are : (image ++ laid.rest) ++ zeros ≡ image ++ (laid.rest ++ zeros) = append_assoc image laid.rest zeros in
    let count : length ((image ++ laid.rest) ++ zeros) ≡ length (image ++ laid.rest) + k = omega (arith, length-append (image ++ laid.rest) zeros, length-replicate k (replicate {A = ℕ} size 0)) in
    record {
      rest = laid.rest ++ zeros;
      is = ap (λ (x : List ℕ). x ++ replicate {A = ℕ} (k * size) 0) laid.is ∙ ap (λ (x : List ℕ). joined (image ++ laid.rest) ++ x) (joined-zeros k size) ∙ sym (joined-append (image ++ laid.rest) zeros) ∙ ap joined pages_are;
      size = laid.size;
      sizes = subst (λ (x : List Page). IsOfSize size x) pages_are (all-append (λ x. length x ≡ size) (image ++ laid.rest) zeros laid.sizes (all-replicate (λ x. length x ≡ size) k (replicate {A = ℕ} size 0) (length-replicate {A = ℕ} size 0)));
      zeros = all-append (λ x. is_zeros x ≡ true) laid.rest zeros laid.zeros (all-replicate (λ x. is_zeros x ≡ true) k (replicate {A = ℕ} size 0) (zeros-are size));
      whole = laid.whole;
      header = laid.header;
      least = omega (arith, count, ap length pages_are, laid.least);
      most = omega (arith, count, ap length pages_are, most);
    }
