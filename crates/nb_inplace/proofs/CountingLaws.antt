-- Counting the pages of a standby's image from its file's end.
use Rattle.std.proofs.Common.{◌≡◌, ℕ, zero, suc, ◌+◌, ◌-◌, ◌*◌, ◌<◌, ◌≤◌, List, [], ◌∷◌, length, drop, refl, sym, ap, ◌∙◌, arith, mul-le-mul_right, add-mul, Bool, true, false, Some}
use Rattle.nb_inplace.proofs.Common.{is_zeros, File, bytes_of, ReadsPage, Page, Image, page_at, trimmed, joined, IsOfSize, length-joined, without_blank}
use Rattle.nb_chain.proofs.CountLaws.{end_within, length_trimmed, found_filled, found_blank}
use Rattle.nb_inplace.specs.Most.{count_most}
use Rattle.nb_restore.proofs.PageLaws.{read_whole}

-- a page that is there is read whole
pub read_there : (size number : ℕ) (ps : List Page) (file : File) (page after : Page) (whole : Bool) → file ≡ Some (joined ps) → IsOfSize size ps → number < length ps → length page ≡ size → ReadsPage file (number * length page) page after whole → whole ≡ true
read_there size number ps file page after true there sizes below long reads = refl
read_there size number ps file page after false there sizes below long reads =
    let all : length (bytes_of file) ≡ length ps * size = ap (λ (f : File). length (bytes_of f)) there ∙ length-joined size ps sizes in
    let fits : (number + 1) * size ≤ length ps * size = mul-le-mul_right size (omega (arith, below)) in
    let at : number * length page ≡ number * size = ap (λ (k : ℕ). number * k) long in
    absurd (omega (arith, reads.0, all, fits, at, long, add-mul number 1 size))

pub blank_read : (size number : ℕ) (ps : List Page) (file : File) (page after : Page) (whole zeros : Bool) → file ≡ Some (joined ps) → IsOfSize size ps → number < length ps → length page ≡ size → ReadsPage file (number * length page) page after whole
    → zeros ≡ is_zeros after → zeros ≡ is_zeros (page_at ps number)
blank_read size number ps file page after whole zeros there sizes below long reads is =
    is ∙ ap is_zeros (read_whole size ps number below sizes file page after whole there long (read_there size number ps file page after whole there sizes below long reads) reads)

-- the pages after page 0
behind_first : (start : Page) (image : Image) (p : ℕ) → 1 ≤ p → page_at (start ∷ drop 1 image) p ≡ page_at image p
behind_first start image zero some = absurd (omega (arith, some))
behind_first start [] (suc p) some = refl
behind_first start (x ∷ xs) (suc p) some = refl

-- where each page counted so far is blank
module _ (image : Image) where
  abbrev pub blank : ℕ → Bool
  blank p = is_zeros (page_at image p)

  pub blank_there : (start : Page) (p : ℕ) (answer : Bool) → 1 ≤ p → answer ≡ is_zeros (page_at (start ∷ drop 1 image) p) → answer ≡ blank p
  blank_there start p answer some is = is ∙ ap is_zeros (behind_first start image p some)

  -- a page that isn't is the last,
  pub count_found : (count : ℕ) → 2 ≤ count → blank (count - 1) ≡ false → without_blank blank (length image) ≡ without_blank blank count → count ≡ length (trimmed image)
  count_found count more filled so_far = sym (length_trimmed image ∙ so_far ∙ found_filled blank count (count - 1) (omega (arith, more)) filled)

  -- one that is isn't counted,
  pub count_on : (count : ℕ) → 2 ≤ count → blank (count - 1) ≡ true → without_blank blank (length image) ≡ without_blank blank count → without_blank blank (length image) ≡ without_blank blank (count - 1)
  count_on count more is so_far = so_far ∙ found_blank blank count (count - 1) (omega (arith, more)) is

  -- and page 0 is counted always
  pub count_first : (count : ℕ) → count ≡ 1 → blank 0 ≡ false → without_blank blank (length image) ≡ without_blank blank count → count ≡ length (trimmed image)
  count_first count one filled so_far = sym (length_trimmed image ∙ so_far ∙ found_filled blank count 0 one filled)

  -- What was read from the end on, once the pages past `count` are known to be blank.
  pub count_within : (count before here after : ℕ) → here + count ≤ before + length image → without_blank blank (length image) ≡ without_blank blank count → after ≤ here + 1 → after ≤ before + count_most image
  count_within count before here after so_far same read =
      let most : after + without_blank blank (length image) ≤ before + length image + 1 = end_within blank count (length image) before here after so_far same read in
      omega (arith, most, length_trimmed image)
