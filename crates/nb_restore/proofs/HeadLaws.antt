-- Page 0 of what a chain gives has a header, and page 0 of each level file too.
use Rattle.std.proofs.Common.{◌≡◌, ◌≢◌, ◌⊎◌, inl, inr, ℕ, ◌+◌, ◌≤◌, List, [], ◌∷◌, length, ap, ◌∙◌, arith, true, ◌==◌, Ok}
use Rattle.nb_restore.proofs.Common.{and_parts, cases_eq, eqb-true, is_header, state_of, size_of, stalled_state, Page, Image, Numbered, first_page, written_at, overwritten, Head, Contents, AreRising, is_first_page, read_level, Link, all_over, length-written, IsHeaded, AreHeaded}
use Rattle.nb_model.proofs.LevelWalk.{FirstIsZero}
use Rattle.nb_level.proofs.PagesLaws.{level_pages}
use Rattle.nb_restore.proofs.CopiedLaws.{first-written}

-- Page 0 has a header that names the page size, and there are at least so many pages.
pub record HasHead (size least : ℕ) (image : Image) : Type 0 where
  pub header : is_header (first_page image) ≡ true
  pub same : size_of (first_page image) ≡ size
  pub some : 1 ≤ least
  pub long : least ≤ length image

head_written : (size least wide : ℕ) (r : Numbered) (image : Image) → IsHeaded size r → HasHead size least image → HasHead size least (written_at wide r image)
head_written size least wide r image headed has = by (cases_eq r.0 0)
  where
    first : (r.0 ≡ 0 → first_page (written_at wide r image) ≡ r.1) × (1 ≤ r.0 → first_page (written_at wide r image) ≡ first_page image)
    first = first-written wide r image (omega (arith, has.some, has.long))

    long : least ≤ length (written_at wide r image)
    long = omega (arith, length-written wide r image, has.long)

    by : (r.0 ≡ 0) ⊎ (r.0 ≢ 0) → HasHead size least (written_at wide r image)
    by (inl zero_is) = record { header = ap is_header (first.0 zero_is) ∙ (headed zero_is).0; same = ap size_of (first.0 zero_is) ∙ (headed zero_is).1; some = has.some; long = long }
    by (inr other) =
        let some : 1 ≤ r.0 = omega (arith, other) in
        record { header = ap is_header (first.1 some) ∙ has.header; same = ap size_of (first.1 some) ∙ has.same; some = has.some; long = long }

head_overwritten : (size least wide : ℕ) (rs : List Numbered) (image : Image) → AreHeaded size rs → HasHead size least image → HasHead size least (overwritten wide rs image)
unfolding overwritten
head_overwritten size least wide [] image headed has = has
head_overwritten size least wide (r ∷ rs) image headed has = head_overwritten size least wide rs (written_at wide r image) headed.1 (head_written size least wide r image headed.0 has)

-- of each file
abbrev pub AllHeaded : (size : ℕ) → List Link → Type 0
AllHeaded size [] = Unit {0}
AllHeaded size (l ∷ ls) = AreHeaded size l.pages × AllHeaded size ls

pub head_all : (size least : ℕ) (links : List Link) (image : Image) → AllHeaded size links → HasHead size least image → HasHead size least (all_over links image)
unfolding all_over
head_all size least [] image headed has = has
head_all size least (l ∷ ls) image headed has = head_all size least ls (overwritten l.size l.pages image) headed.1 (head_overwritten size least l.size l.pages image headed.0 has)

-- a page that the grammar takes as page 0
first_page-head : (h : Head) (page : Page) → is_first_page h page ≡ true → (is_header page ≡ true) × (size_of page ≡ h.size)
unfolding is_first_page
first_page-head h page is =
    let one = and_parts (is_header page) _ is in
    let two = and_parts (state_of page == stalled_state) _ one.1 in
    let three = and_parts (size_of page == h.size) _ two.1 in (one.0, eqb-true (size_of page) h.size three.0)

-- of pages with rising numbers only the first can be page 0
behind-headed : (size least : ℕ) (rs : List Numbered) → 1 ≤ least → AreRising least rs → AreHeaded size rs
behind-headed size least [] some rising = tt
behind-headed size least (r ∷ rs) some rising = (λ zero_is. absurd (omega (arith, some, rising.0, zero_is)), behind-headed size (r.0 + 1) rs (omega arith) rising.2)

first-headed : (h : Head) (rs : List Numbered) → AreRising 0 rs → FirstIsZero h rs → AreHeaded h.size rs
first-headed h [] rising first = absurd first
first-headed h (r ∷ rs) rising first = (λ zero_is. first_page-head h r.1 first.1, behind-headed h.size (r.0 + 1) rs (omega arith) rising.2)

-- what is read of a level file
pub level-headed : (bytes : List ℕ) (c : Contents) → read_level bytes ≡ Ok c → AreHeaded c.head.size c.pages
level-headed bytes c e = let has = level_pages bytes c e in first-headed c.head c.pages has.rising has.first
