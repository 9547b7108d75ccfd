-- A standby that is merged already takes the same level file no more.
use Rattle.std.proofs.Common.{true≢false, ◌≡◌, ℕ, ◌+◌, ◌≤◌, List, [], ◌∷◌, length, true, false, refl, sym, ap, subst, ◌∙◌, arith, Bool, ◌&&◌, ◌==◌}
use Rattle.nb_top.proofs.Common.{is_header, state_of, size_of, normal_state, stalled_state, same_name, Files, delta_name, Image, Page, first_page, image_size, image_in, read_level, Contents, Head, merged, as_standby, IsMergeable, some_same, ok_same}
use Rattle.std.proofs.lemmas.Bool.{eqb-true}
use Rattle.nb_fields.specs.Bytes.{is_zeros}
use Rattle.nb_fields.specs.Header.{guid_of, scn_of}
use Rattle.nb_fields.proofs.SizeLaws.{size_facts}
use Rattle.nb_model.specs.Image.{Numbered, overwritten, trimmed, written_at}
use Rattle.nb_model.specs.Levels.{AreOfSize, AreRising, is_first_page}
use Rattle.nb_model.specs.Owner.{main_page}
use Rattle.nb_model.specs.Strokes.{standby_page}
use Rattle.nb_model.specs.Trail.{ShowsIn}
use Rattle.nb_model.proofs.HeaderLaws.{header-other, same-number}
use Rattle.nb_model.proofs.ImageLaws.{zeros-are}
use Rattle.nb_model.proofs.LevelWalk.{FirstIsZero}
use Rattle.nb_model.proofs.MainLaws.{trimmed-first}
use Rattle.nb_model.proofs.OpenedLaws.{HasMain, has_main}
use Rattle.nb_model.proofs.OwnerLaws.{main_here, main_past, other_page}
use Rattle.nb_level.proofs.PagesLaws.{HasPages, level_pages}
use Rattle.nb_inplace.specs.Apply.{base_with}
use Rattle.nb_inplace.proofs.ControlLaws.{standby-scn, standby-state}
use Rattle.nb_inplace.proofs.PagesLaws.{written_page}
use Rattle.nb_inplace.proofs.VerdictLaws.{IsAccepted, IsFor, accepted, as_it_stands, begun}

five : (a b c d e : Bool) → (a && (b && (c && (d && e)))) ≡ true → (a ≡ true) × (e ≡ true)
five true true true true e h = (refl, h)
five true true true false e h = absurd (true≢false (sym h))
five true true false d e h = absurd (true≢false (sym h))
five true false c d e h = absurd (true≢false (sym h))
five false b c d e h = absurd (true≢false (sym h))

-- page 0 of a level file has a header, and the SCN after the file's
first_header : (h : Head) (page : Page) → is_first_page h page ≡ true → (is_header page ≡ true) × (scn_of page ≡ h.scn + 1)
unfolding is_first_page
first_header h page is =
    let parts = five (is_header page) (state_of page == stalled_state) (size_of page == h.size) (same_name (guid_of page) h.guid) (scn_of page == h.scn + 1) is in
    (parts.0, eqb-true (scn_of page) (h.scn + 1) parts.1)

-- records that rise from page 1 on leave page 0
first_stays : (size : ℕ) (rs : List Numbered) (least : ℕ) (image : Image) → 1 ≤ least → AreRising least rs → main_page size (overwritten size rs image) 0 ≡ main_page size image 0
unfolding overwritten
first_stays size [] least image some rising = refl
first_stays size (r ∷ rs) least image some rising =
    first_stays size rs (r.0 + 1) (written_at size r image) (omega arith) rising.2 ∙ other_page size r.0 r.1 image 0 (λ same. let low = rising.0 in omega (arith, same, low, some))

-- page 0 of a level file, written over an image
first_over : (h : Head) (size : ℕ) (rs : List Numbered) (image : Image) → FirstIsZero h rs → AreRising 0 rs → (page : Page) × (is_first_page h page ≡ true) × (main_page size (overwritten size rs image) 0 ≡ page) × ((n : ℕ) → AreOfSize n rs → length page ≡ n)
unfolding overwritten
first_over h size [] image first rising = absurd first
first_over h size (r ∷ rs) image first rising = (
  r.1,
  first.1,
  first_stays size rs (r.0 + 1) (written_at size r image) (omega arith) rising.2 ∙ subst (λ (n : ℕ). main_page size (written_at size r image) n ≡ r.1) first.0 (written_page size r image),
  λ n sizes. sizes.0,
)

-- a page with a header that is seen is there
header_there : (size : ℕ) (image : Image) (page : Page) → main_page size image 0 ≡ page → is_header page ≡ true → (1 ≤ length image) × (first_page image ≡ page)
header_there size [] page is header =
    absurd (true≢false (sym (ap is_zeros (sym is) ∙ ap is_zeros (main_past size [] 0 (omega arith)) ∙ zeros-are size) ∙ header-other page header))
header_there size (x ∷ xs) page is header = (omega arith, sym (main_here size (x ∷ xs) 0 (omega arith)) ∙ is)

first_standby : (image : Image) → 1 ≤ length image → first_page (as_standby image) ≡ standby_page (first_page image)
first_standby [] some = absurd (omega (arith, some))
first_standby (p ∷ ps) some = refl

-- trimmed it still begins with a page that is none of zeros
trimmed_some : (image : Image) → is_zeros (first_page (trimmed image)) ≡ false → 1 ≤ length (trimmed image)
trimmed_some image some = by (trimmed image) some
  where
    by : (ps : Image) → is_zeros (first_page ps) ≡ false → 1 ≤ length ps
    by [] h = absurd (true≢false h)
    by (p ∷ ps) h = omega arith

module _ (start : Files) (db name bytes : List ℕ) (c : Contents) (m : IsMergeable start db name bytes c) where
  abbrev its : IsAccepted start name bytes c
  its = accepted start db name bytes c m

  told : HasPages c.head c.pages
  told = level_pages its.level c its.read

  abbrev size : ℕ
  size = image_size (image_in bytes)

  abbrev over : Image
  over = overwritten size c.pages (image_in bytes)

  -- page 0 of what is merged has the SCN after that of the level file, and the normal state
  record IsFirstMerged (page : Page) : Type 0 where
    scn : scn_of page ≡ c.head.scn + 1
    normal : state_of page ≡ normal_state

  first_merged : IsFirstMerged (first_page (merged c.pages (image_in bytes)))
  unfolding merged
  first_merged =
      let first = first_over c.head size c.pages (image_in bytes) told.first told.rising in
      let page : Page = first.0 in
      let parts = first_header c.head page first.1 in
      let wide = (size_facts c.head.size told.size).at_least in
      let long : 66 ≤ length page = omega (arith, first.3 c.head.size told.sizes, wide) in
      let there = header_there size over page first.2 parts.0 in
      let trims : first_page (trimmed over) ≡ page = trimmed-first over there.0 (ap is_zeros there.1 ∙ header-other page parts.0) ∙ there.1 in
      let is : first_page (merged c.pages (image_in bytes)) ≡ standby_page page = first_standby (trimmed over) (trimmed_some over (ap is_zeros trims ∙ header-other page parts.0)) ∙ ap standby_page trims in
      record { scn = ap scn_of is ∙ standby-scn page long ∙ parts.1; normal = ap state_of is ∙ standby-state page long }

  -- so the level file doesn't go on from it
  pub merged_refuses : (files : Files) → ShowsIn db (base_with bytes c) files → files name ≡ start name → (now : List ℕ) (d : Contents) → IsMergeable files db name now d → ⊥
  merged_refuses files shows same now d n = by ours.for
    where
      main : HasMain (base_with bytes c) (files db)
      main = has_main db (base_with bytes c) (files db) (files (delta_name db)) shows

      ours : IsAccepted files name now d
      ours = accepted files db name now d n

      bytes_are : main.bytes ≡ now
      bytes_are = some_same main.bytes now (sym main.there ∙ n.there)

      contents_are : d ≡ c
      contents_are = ok_same d c (read_level ours.level) ours.read (ap read_level (some_same ours.level its.level (sym ours.there ∙ same ∙ its.there)) ∙ its.read)

      scn : scn_of now ≡ c.head.scn + 1
      scn = ap scn_of (sym bytes_are) ∙ sym (same-number (first_page (merged c.pages (image_in bytes))) main.bytes main.front 28 4 (omega arith)) ∙ first_merged.scn

      normal : state_of now ≡ normal_state
      normal = ap state_of (sym bytes_are) ∙ sym (same-number (first_page (merged c.pages (image_in bytes))) main.bytes main.front 22 2 (omega arith)) ∙ first_merged.normal

      by : IsFor name now d → ⊥
      by (as_it_stands zero_is on) = let previous = ap (λ (x : Contents). x.head.previous_scn) (sym contents_are) ∙ on.previous_scn in let later = told.later in omega (arith, previous, scn, later)
      by (begun three on) = omega (arith, three, normal)
