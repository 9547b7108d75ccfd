-- Files that are merged into a standby one after the other, and their fold.
use Rattle.std.proofs.Common.{◌≡◌, ℕ, zero, suc, ◌≤◌, List, [], ◌∷◌, length, replicate, refl, sym, ap, subst, ◌∙◌, arith, true, ◌==◌, Option, Ok}
use Rattle.nb_fold.proofs.Common.{and_parts, eqb-true, true≢false, is_header, state_of, size_of, stalled_state, Files, Page, Image, Numbered, image_size, overwritten, trimmed, AreOfSize, Contents, Head, is_first_page, main_page, header-other, main_here, main_past, main_tail, trimmed_alike, trimmed_page, written-sizes, folded, last_page, pages_of_each, AllRise, IsMergedInto, merged_each, chained, HasPages}
use Rattle.nb_fields.specs.Bytes.{is_zeros}
use Rattle.nb_fields.proofs.SizeLaws.{size_facts}
use Rattle.nb_model.specs.Sound.{IsOfSize}
use Rattle.nb_model.specs.Strokes.{as_standby, merged, standby_page}
use Rattle.nb_model.proofs.ImageLaws.{Trimming, all-left, trimming, zeros-are}
use Rattle.nb_inplace.proofs.ControlLaws.{standby-long, standby-size}
use Rattle.nb_fold.proofs.AcceptLaws.{AllHave, files_have, last_zero, zero_there}
use Rattle.nb_fold.proofs.SameLaws.{AreOf, files_rise, folded_over, next_files, over_each, page_each, page_over, seen, sizes_alike}

-- page 0 alone is another
standby_other : (size : ℕ) (x : Image) (p : ℕ) → main_page size (as_standby x) (suc p) ≡ main_page size x (suc p)
standby_other size [] p = refl
standby_other size (q ∷ qs) p = main_tail size (standby_page q) qs p ∙ sym (main_tail size q qs p)

sizes_over : (size : ℕ) (rs : List Numbered) (image : Image) → AreOfSize size rs → IsOfSize size image → IsOfSize size (overwritten size rs image)
unfolding overwritten
sizes_over size [] image long sizes = sizes
sizes_over size (r ∷ rs) image long sizes = sizes_over size rs _ long.1 (written-sizes size r image sizes long.0)

sizes_trimmed : (size : ℕ) (ps : Image) → IsOfSize size ps → IsOfSize size (trimmed ps)
sizes_trimmed size ps sizes =
    let cut : Trimming ps = trimming ps in
    all-left (λ (z : Page). length z ≡ size) (trimmed ps) cut.rest (subst (λ (x : Image). IsOfSize size x) cut.is sizes)

-- an image begins with that page
record StartsWith (page : Page) (image : Image) : Type 0 where
  pub rest : Image
  pub is : image ≡ page ∷ rest

starts : (size : ℕ) (page : Page) (image : Image) → is_header page ≡ true → main_page size image 0 ≡ page → StartsWith page image
starts size page [] header is =
    let zeros : page ≡ replicate size 0 = sym is ∙ main_past size [] 0 (omega arith) in
    absurd (true≢false (sym (ap is_zeros zeros ∙ zeros-are size) ∙ header-other page header))
starts size page (q ∷ qs) header is = record { rest = qs; is = ap (λ (x : Page). x ∷ qs) (sym (main_here size (q ∷ qs) 0 (omega arith)) ∙ is) }

record Header (h : Head) (page : Page) : Type 0 where
  pub header : is_header page ≡ true
  pub size : size_of page ≡ h.size

header_of : (h : Head) (page : Page) → is_first_page h page ≡ true → Header h page
unfolding is_first_page
header_of h page is =
    let one = and_parts (is_header page) _ is in
    let two = and_parts (state_of page == stalled_state) _ one.1 in
    let three = and_parts (size_of page == h.size) _ two.1 in record { header = one.0; size = eqb-true (size_of page) h.size three.0 }

-- the image after one merge
record IsOne (size : ℕ) (c : Contents) (image : Image) : Type 0 where
  pub size_is : image_size (merged c.pages image) ≡ size
  pub sizes : IsOfSize size (merged c.pages image)
  pub pages : (p : ℕ) → main_page size (merged c.pages image) (suc p) ≡ main_page size (overwritten size c.pages image) (suc p)

module _ (size : ℕ) (c : Contents) (image : Image) (have : HasPages c.head c.pages) (of : c.head.size ≡ size) (named : image_size image ≡ size) (sizes : IsOfSize size image) where
  over : Image
  over = overwritten size c.pages image

  over_sizes : IsOfSize size (overwritten size c.pages image)
  over_sizes = sizes_over size c.pages image (subst (λ (n : ℕ). AreOfSize n c.pages) of have.sizes) sizes

  merged_is : merged c.pages image ≡ as_standby (trimmed (overwritten size c.pages image))
  unfolding merged
  merged_is = ap (λ (n : ℕ). as_standby (trimmed (overwritten n c.pages image))) named

  standby_sized : (page : Page) (rest : Image) → 66 ≤ size → size_of page ≡ size → IsOfSize size (page ∷ rest) → (image_size (as_standby (page ∷ rest)) ≡ size) × IsOfSize size (as_standby (page ∷ rest))
  standby_sized page rest wide same long =
      let room : 66 ≤ length page = omega (arith, wide, long.0) in
      (standby-size page room ∙ same, (standby-long page room ∙ long.0, long.1))

  one : IsOne size c image
  one =
      let first = zero_there c.head c.pages have.first in
      let head = header_of c.head first.page first.first in
      let seen_is : main_page size (trimmed (overwritten size c.pages image)) 0 ≡ first.page =
      trimmed_page size (overwritten size c.pages image) over_sizes 0 ∙ page_over size 0 c.pages image 0 have.rising ∙ ap (λ (o : Option Page). seen o (main_page size image 0)) first.is in
      let begin = starts size first.page (trimmed (overwritten size c.pages image)) head.header seen_is in
      let all : IsOfSize size (first.page ∷ begin.rest) = subst (λ (x : Image). IsOfSize size x) begin.is (sizes_trimmed size (overwritten size c.pages image) over_sizes) in
      let facts = size_facts c.head.size have.size in
      let sized = standby_sized first.page begin.rest (let low = facts.at_least in omega (arith, low, of)) (head.size ∙ of) all in
      let is : merged c.pages image ≡ as_standby (first.page ∷ begin.rest) = merged_is ∙ ap as_standby begin.is in
      record {
        size_is = ap image_size is ∙ sized.0;
        sizes = subst (λ (x : Image). IsOfSize size x) (sym is) sized.1;
        pages = λ p. ap (λ (x : Image). main_page size x (suc p)) merged_is ∙ standby_other size (trimmed (overwritten size c.pages image)) p ∙ trimmed_page size (overwritten size c.pages image) over_sizes (suc p);
      }

all_rise : (cs : List Contents) → AllHave cs → AllRise 0 (pages_of_each cs)
all_rise [] have = tt
all_rise (c ∷ cs) have = (have.0.rising, all_rise cs have.1)

-- One after the other they give what is written over at once, since each has a page 0 of its own.
merged_over : (size : ℕ) (c : Contents) (cs : List Contents) (image : Image) → AllHave (c ∷ cs) → AreOf size (c ∷ cs) → image_size image ≡ size → IsOfSize size image
    → merged_each (c ∷ cs) image ≡ as_standby (trimmed (over_each size (pages_of_each (c ∷ cs)) image))
merged_over size c [] image have of named sizes = merged_is size c image have.0 of.0 named sizes
merged_over size c (d ∷ ds) image have of named sizes =
    let step = one size c image have.0 of.0 named sizes in
    let rise = all_rise (d ∷ ds) have.1 in
    merged_over size d ds (merged c.pages image) have.1 of.1 step.size_is step.sizes
    ∙ ap as_standby (trimmed_alike size (over_each size (pages_of_each (d ∷ ds)) (merged c.pages image)) (over_each size (pages_of_each (d ∷ ds)) (overwritten size c.pages image)) (λ p.
    page_each size (pages_of_each (d ∷ ds)) (merged c.pages image) p rise ∙ alike step p ∙ sym (page_each size (pages_of_each (d ∷ ds)) (overwritten size c.pages image) p rise)))
  where
    alike : IsOne size c image → (p : ℕ) → seen (last_page p (pages_of_each (d ∷ ds))) (main_page size (merged c.pages image) p) ≡ seen (last_page p (pages_of_each (d ∷ ds))) (main_page size (overwritten size c.pages image) p)
    alike step zero =
        let first = last_zero d ds have.1 in
        ap (λ (o : Option Page). seen o (main_page size (merged c.pages image) 0)) first.is ∙ sym (ap (λ (o : Option Page). seen o (main_page size (overwritten size c.pages image) 0)) first.is)
    alike step (suc p) = ap (seen (last_page (suc p) (pages_of_each (d ∷ ds)))) (step.pages p)

fold_over : (cs : List Contents) (image : Image) → AllRise 0 (pages_of_each cs) → merged (folded cs).pages image ≡ as_standby (trimmed (over_each (image_size image) (pages_of_each cs) image))
unfolding merged folded
fold_over cs image rise = ap as_standby (sym (folded_over (image_size image) (pages_of_each cs) image rise))

pub merged_folds : (files : Files) (name : List ℕ) (names : List (List ℕ)) (cs : List Contents) (image : Image) → chained files (name ∷ names) ≡ Ok cs → IsMergedInto cs image → merged (folded cs).pages image ≡ merged_each cs image
merged_folds files name names cs image e into =
    let are = next_files files _ name names cs e in
    fold_over cs image (files_rise files _ (name ∷ names) cs e)
    ∙ sym (subst (λ (x : List Contents). merged_each x image ≡ as_standby (trimmed (over_each (image_size image) (pages_of_each x) image))) (sym are.all)
    (merged_over (image_size image) are.first are.rest image (subst AllHave are.all (files_have files _ (name ∷ names) cs e))
    (subst (λ (n : ℕ). AreOf n (are.first ∷ are.rest)) (sym into.size) (subst (AreOf (folded cs).head.size) are.all (sizes_alike files (name ∷ names) cs e))) refl into.sizes))
