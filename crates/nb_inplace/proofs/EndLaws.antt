-- Page 0 of a standby makes the file the database that the merge gives.
use Rattle.std.proofs.Common.{◌≡◌, ℕ, ◌*◌, ◌≤◌, [], ◌∷◌, ◌++◌, length, sym, ap, subst, ◌∙◌, arith, true, IsTrue, Some}
use Rattle.nb_inplace.proofs.Common.{is_header, size_of, is_page_size, most_pages, size_facts, File, put_at, with_page, Page, Image, trimmed, joined, HoldsMain, IsOfSize, standby_page, as_standby, header-other, Trimming, trimming, trimmed-other, trimmed-before, main_laid, put-first, Holds, HasHead, IsWhole}
use Rattle.nb_inplace.proofs.ControlLaws.{standby-long, standby-state, standby-size, standby-header}

whole : (size : ℕ) (p : Page) (ps : Image) → IsTrue (is_page_size size) → IsOfSize size (p ∷ ps) → is_header p ≡ true → size_of p ≡ size → 5 ≤ length (p ∷ ps) → length (p ∷ ps) ≤ most_pages
    → HoldsMain (as_standby (trimmed (p ∷ ps))) (Some (joined (standby_page p ∷ ps)))
whole size p ps is sizes header same least most =
    let wide = (size_facts size is).at_least in
    let long : 66 ≤ length p = omega (arith, sizes.0, wide) in
    let rest : Trimming ps = trimming ps in
    let new : Page = standby_page p in
    let new_header : is_header new ≡ true = standby-header p long header in
    let image : Image = new ∷ trimmed ps in
    let image_is : as_standby (trimmed (p ∷ ps)) ≡ image = ap as_standby (trimmed-other p ps (header-other p header)) in
    let size_is : size_of new ≡ size = standby-size p long ∙ same in
    let all : new ∷ ps ≡ image ++ rest.rest = ap (λ (x : Image). new ∷ x) rest.is in
    let all_sizes : IsOfSize size (new ∷ ps) = (standby-long p long ∙ sizes.0, sizes.1) in
    subst (λ (x : Image). HoldsMain x (Some (joined (new ∷ ps)))) (sym image_is)
    (main_laid image (joined (new ∷ ps)) (record {
      rest = rest.rest;
      is = ap joined all;
      size = subst (λ k. IsTrue (is_page_size k)) (sym size_is) is;
      sizes = subst (λ k. IsOfSize k (image ++ rest.rest)) (sym size_is) (subst (λ (x : Image). IsOfSize size x) all all_sizes);
      zeros = rest.zeros;
      whole = trimmed-before [] new (trimmed ps) (header-other new new_header) rest.whole;
      header = new_header;
      least = omega (arith, least, ap length all);
      most = omega (arith, most, ap length all);
    }) (standby-state p long))

-- with page 0 over the page in its place: these are all pages, and nothing stands past them
pub merged_whole : (size : ℕ) (start first : Page) (image : Image) (file : File) → IsTrue (is_page_size size) → Holds size start first image file → HasHead size 5 image → (last : Page) → last ≡ standby_page first
    → IsWhole as_standby image (with_page file (0 * length last) last)
merged_whole size start first image file is holds head last last_is = by image holds head
  where
    by : (i : Image) → Holds size start first i file → HasHead size 5 i → IsWhole as_standby i (with_page file (0 * length last) last)
    by [] h k = absurd (let few : 1 ≤ 0 = h.some in omega (arith, few))
    by (p ∷ ps) h k =
        let wide = (size_facts size is).at_least in
        let page : last ≡ standby_page p = last_is ∙ ap standby_page h.page_0 in
        let long : length last ≡ size = ap length page ∙ standby-long p (omega (arith, h.sizes.0, wide)) ∙ h.sizes.0 in
        let put : with_page file (0 * length last) last ≡ Some (joined (standby_page p ∷ ps)) =
        ap (λ (f : File). with_page f (0 * length last) last) h.reads ∙ ap (λ x. Some (put_at (joined (start ∷ ps)) x last)) (let e : 0 * length last ≡ 0 = omega arith in e)
        ∙ ap Some (put-first size start last ps (h.long, h.sizes.1) long) ∙ ap (λ (x : Page). Some (joined (x ∷ ps))) page in
        record { exact = put; holds = subst (λ (f : File). HoldsMain (as_standby (trimmed (p ∷ ps))) f) (sym put) (whole size p ps is h.sizes k.header k.same k.long h.most) }
