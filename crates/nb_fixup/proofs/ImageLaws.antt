-- The fixed file: page 0 over page 0, which makes it the database of its image in the normal state.
use Rattle.std.proofs.Common.{◌≡◌, ◌⊎◌, inl, inr, ℕ, ◌+◌, ◌-◌, ◌*◌, ◌<◌, ◌≤◌, List, [], ◌∷◌, ◌++◌, length, take, drop, refl, sym, ap, subst, ◌∙◌, arith, append_assoc, mul-le-mul_right, Some, None}
use Rattle.nb_fixup.proofs.Common.{take-take, drop-take, drop-drop, take-append-drop, take_at, length-take-le, size_of, size_facts, File, put_at, padded, with_page, PageLeft, not_database, Page, Image, first_page, image_size, image_in, trimmed, HoldsMain, fixed, Formed, formed, same-number, IsLaid, laid, laid-front, some_page, normal_page, two, written_whole, fixed_bytes}
use Rattle.nb_fields.specs.Bytes.{bytes_of, with_part}
use Rattle.nb_fields.proofs.PartLaws.{length-with_part}
use Rattle.nb_model.specs.Levels.{joined}
use Rattle.nb_model.proofs.ImageLaws.{trimmed-append_zeros}
use Rattle.nb_restore.specs.Copied.{Holds}
use Rattle.nb_restore.proofs.HeadLaws.{HasHead}

-- a part of the first page is written into the page, and the page into the file
part_put : (size at : ℕ) (part bytes : List ℕ) → at + length part ≤ size → size ≤ length bytes → put_at bytes 0 (with_part at part (take size bytes)) ≡ with_part at part bytes
unfolding put_at padded
part_put size at part bytes fits long =
    let w : ℕ = at + length part in
    let m : ℕ = size - w in
    let split : w + m ≡ size = omega (arith, fits) in
    let first : List ℕ = take size bytes in
    let wide : length first ≡ size = length-take-le size bytes long in
    let all : 0 + length (with_part at part first) ≡ size = omega (arith, length-with_part at part first (omega (arith, wide, fits)), wide) in
    let front : take at first ≡ take at bytes = take-take at size bytes (omega (arith, fits)) in
    let rest : drop w first ≡ take m (drop w bytes) = ap (λ (k : ℕ). drop w (take k bytes)) (sym split) ∙ drop-take w m bytes in
    let behind : drop size bytes ≡ drop m (drop w bytes) = ap (λ (k : ℕ). drop k bytes) (sym split) ∙ sym (drop-drop m w bytes) in
    let joined : drop w first ++ drop size bytes ≡ drop w bytes = ap (λ (x : List ℕ). x ++ drop size bytes) rest ∙ ap (λ (x : List ℕ). take m (drop w bytes) ++ x) behind ∙ take-append-drop m (drop w bytes) in
    ap (λ (k : ℕ). with_part at part first ++ drop k bytes) all
    ∙ append_assoc (take at first) (part ++ drop w first) (drop size bytes)
    ∙ ap (λ (x : List ℕ). take at first ++ x) (append_assoc part (drop w first) (drop size bytes))
    ∙ ap (λ (x : List ℕ). take at first ++ (part ++ x)) joined
    ∙ ap (λ (x : List ℕ). x ++ (part ++ drop w bytes)) front

-- an image and pages of zeros after it, with page 0 in the normal state over its page 0
laid_fixed : (image : Image) (bytes : List ℕ) (page : Page) → (l : IsLaid image bytes) → page ≡ normal_page (take (image_size image) bytes) → HoldsMain (fixed image) (with_page (Some bytes) (0 * length page) page)
laid_fixed [] bytes page l e = absurd (let few : 1 ≤ 0 = some_page [] l.header in omega (arith, few))
laid_fixed (p ∷ ps) bytes page l e =
    let size : ℕ = image_size (p ∷ ps) in
    let pages : List Page = p ∷ (ps ++ l.rest) in
    let first : take size bytes ≡ p = ap (take size) l.is ∙ take_at p (joined (ps ++ l.rest)) size l.sizes.0 in
    let image : trimmed pages ≡ p ∷ ps = trimmed-append_zeros (p ∷ ps) l.rest l.zeros ∙ l.whole in
    let holds : Holds size p p pages (Some bytes) = record { reads = ap Some l.is; long = l.sizes.0; sizes = l.sizes; some = omega arith; most = l.most; page_0 = refl } in
    let head : HasHead size 5 pages = record { header = l.header; same = refl; some = omega arith; long = l.least } in
    subst (λ (i : Image). HoldsMain (fixed i) (with_page (Some bytes) (0 * length page) page)) image
    (written_whole size p p pages (Some bytes) l.size holds head page (e ∙ ap normal_page first))

module _ (bytes : List ℕ) (none : not_database bytes ≡ None) (page : Page) (is : page ≡ normal_page (take (size_of bytes) bytes)) where
  facts : Formed bytes
  facts = formed bytes none

  wide : 1024 ≤ size_of bytes
  wide = (size_facts (size_of bytes) facts.size).at_least

  -- there is more than one page
  more : size_of bytes < length bytes
  more = let low : 5 * size_of bytes ≤ facts.count * size_of bytes = mul-le-mul_right (size_of bytes) facts.least in omega (arith, low, facts.whole, wide)

  long : length page ≡ size_of bytes
  long =
      let first : length (take (size_of bytes) bytes) ≡ size_of bytes = length-take-le (size_of bytes) bytes (omega (arith, more)) in
      ap length is ∙ length-with_part 22 (bytes_of 2 0) (take (size_of bytes) bytes) (omega (arith, two, first, wide)) ∙ first

  -- page 0 is put over page 0
  pub first_put : with_page (Some bytes) (0 * length page) page ≡ Some (fixed_bytes bytes)
  first_put =
      let at : 0 * length page ≡ 0 = omega arith in
      ap (λ (k : ℕ). Some (put_at bytes k page)) at ∙ ap (λ (p : Page). Some (put_at bytes 0 p)) is ∙ ap Some (part_put (size_of bytes) 22 (bytes_of 2 0) bytes (omega (arith, two, wide)) (omega (arith, more)))

  -- which makes the file the database
  pub fixed_holds : HoldsMain (fixed (image_in bytes)) (Some (fixed_bytes bytes))
  fixed_holds =
      let l : IsLaid (image_in bytes) bytes = laid bytes none in
      let same : size_of bytes ≡ image_size (image_in bytes) = same-number bytes (first_page (image_in bytes)) (laid-front (image_in bytes) bytes l) 24 4 (omega arith) in
      subst (λ (f : File). HoldsMain (fixed (image_in bytes)) f) first_put (laid_fixed (image_in bytes) bytes page l (is ∙ ap (λ (k : ℕ). normal_page (take k bytes)) same))

  -- Whatever a crash leaves of that write: the file isn't longer than it was, so it is as it was, or fixed.
  pub first_left : (file : File) → PageLeft (0 * length page) page (Some bytes) file → (file ≡ Some bytes) ⊎ (file ≡ Some (fixed_bytes bytes))
  first_left file (inl same) = inl same
  first_left file (inr (inl put)) = inr (put ∙ first_put)
  first_left file (inr (inr (k, room, grown))) = absurd (omega (arith, room, long, more))
