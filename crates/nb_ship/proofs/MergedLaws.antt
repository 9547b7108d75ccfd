-- What is found after a merge of the ship file, a stopped one too.
use Rattle.std.proofs.Common.{◌≡◌, inl, ℕ, ◌+◌, ◌≤◌, List, [], ◌∷◌, length, replicate, refl, sym, ap, ◌∙◌, arith, true, false, not, ◌==◌, Some, Ok}
use Rattle.nb_ship.proofs.Common.{and_parts, state_of, guid_of, normal_state, stalled_state, is_header, size_of, File, Files, bytes_of, same_name, has_delta, is_free_name, told_text, Contents, Head, read_level, read_in, ship_of, look_at, Nothing, Applied, Pending, IsReady}
use Rattle.nb_fields.proofs.PartLaws.{length-with_part, number_in-with_part, number_in-with_part_other, part-take}
use Rattle.nb_fields.proofs.SizeLaws.{size_facts}
use Rattle.nb_fields.specs.Bytes.{is_zeros, number_in, part, with_part, bytes_of as number_bytes}
use Rattle.nb_chain.proofs.ImageLaws.{length-written}
use Rattle.nb_inplace.proofs.ControlLaws.{standby-guid, standby-state}
use Rattle.nb_inplace.proofs.HalfLaws.{front, half_pending, half_previous, half_state}
use Rattle.nb_inplace.proofs.PagesLaws.{written_page}
use Rattle.nb_inplace.proofs.VerdictLaws.{IsAccepted, accepted}
use Rattle.nb_inplace.specs.Apply.{base_with}
use Rattle.nb_inplace.specs.Half.{IsHalf}
use Rattle.nb_inplace.specs.Verdict.{IsMergeable}
use Rattle.nb_level.proofs.PagesLaws.{HasPages, level_pages}
use Rattle.nb_model.proofs.HeaderLaws.{header-other}
use Rattle.nb_model.proofs.LevelWalk.{FirstIsZero}
use Rattle.nb_model.proofs.MainLaws.{laid, main_of_base, some_page, trimmed-first}
use Rattle.nb_model.proofs.OwnerLaws.{main_here, other_page}
use Rattle.nb_model.specs.Image.{Page, Image, Numbered, first_page, image_in, image_size, is_read_only, overwritten, trimmed, written_at}
use Rattle.nb_model.specs.Levels.{AreOfSize, AreRising, is_first_page}
use Rattle.nb_model.specs.Main.{HoldsMain}
use Rattle.nb_model.specs.Owner.{delta_name, main_page}
use Rattle.nb_model.specs.Strokes.{as_standby, merged, standby_page}
use Rattle.nb_model.specs.Trail.{ShowsIn}
use Rattle.nb_ship.proofs.FindsLaws.{what_stands_is_found}

-- ---- page 0 of what was merged

-- a page that is written over
module _ (size : ℕ) (r : Numbered) (image : Image) (some : 1 ≤ length image) where
  written_some : 1 ≤ length (written_at size r image)
  written_some = omega (arith, some, length-written size r image)

  front_of : first_page (written_at size r image) ≡ main_page size (written_at size r image) 0
  front_of = sym (main_here size (written_at size r image) 0 written_some)

  written_first : r.0 ≡ 0 → first_page (written_at size r image) ≡ r.1
  written_first first = front_of ∙ ap (main_page size (written_at size r image)) (sym first) ∙ written_page size r image

  written_other : 1 ≤ r.0 → first_page (written_at size r image) ≡ first_page image
  written_other past = front_of ∙ other_page size r.0 r.1 image 0 (λ e. absurd (omega (arith, past, e))) ∙ main_here size image 0 some

-- pages past page 0 leave it
over_rest : (size least : ℕ) (rs : List Numbered) (image : Image) → 1 ≤ least → 1 ≤ length image → AreRising least rs → (first_page (overwritten size rs image) ≡ first_page image) × (1 ≤ length (overwritten size rs image))
unfolding overwritten
over_rest size least [] image low some rising = (refl, some)
over_rest size least (r ∷ rs) image low some (from, below, rising) =
    let more = over_rest size (r.0 + 1) rs (written_at size r image) (omega arith) (written_some size r image some) rising in (more.0 ∙ written_other size r image some (omega (arith, low, from)), more.1)

-- the first of them is page 0
record HasFirst (h : Head) (rs : List Numbered) (over : Image) : Type 0 where
  page : Page
  long : length page ≡ h.size
  header : is_first_page h page ≡ true
  is : first_page over ≡ page
  some : 1 ≤ length over

over_first : (size : ℕ) (h : Head) (rs : List Numbered) (image : Image) → 1 ≤ length image → FirstIsZero h rs → AreOfSize h.size rs → AreRising 0 rs → HasFirst h rs (overwritten size rs image)
unfolding overwritten
over_first size h [] image some first sizes rising = absurd first
over_first size h (r ∷ rs) image some first sizes (from, below, rising) =
    let more = over_rest size (r.0 + 1) rs (written_at size r image) (omega arith) (written_some size r image some) rising in
    record { page = r.1; long = sizes.0; header = first.1; is = more.0 ∙ written_first size r image some first.0; some = more.1 }

-- the header of page 0 in a level file names its backup
record Named (h : Head) (page : Page) : Type 0 where
  header : is_header page ≡ true
  guid : guid_of page ≡ h.guid

named : (h : Head) (page : Page) → is_first_page h page ≡ true → Named h page
unfolding is_first_page
named h page is =
    let one = and_parts (is_header page) _ is in
    let two = and_parts (state_of page == stalled_state) _ one.1 in
    let three = and_parts (size_of page == h.size) _ two.1 in
    let four = and_parts (same_name (guid_of page) h.guid) _ three.1 in
    record { header = one.0; guid = told_text (guid_of page) h.guid true (sym four.0) }

standby_first : (image : Image) → 1 ≤ length image → first_page (as_standby image) ≡ standby_page (first_page image)
standby_first [] some = absurd (omega (arith, some))
standby_first (p ∷ ps) some = refl

-- the access
module _ (page : Page) (long : 66 ≤ length page) where
  abbrev accessed : Page
  accessed = with_part 65 (1 ∷ []) page

  abbrev rested : Page
  rested = with_part 48 (replicate 16 0) accessed

  accessed-long : length accessed ≡ length page
  accessed-long = length-with_part 65 (1 ∷ []) page (omega (arith, long))

  rested-long : length rested ≡ length page
  rested-long = length-with_part 48 (replicate 16 0) accessed (omega (arith, accessed-long, long)) ∙ accessed-long

  access : number_in 65 1 (standby_page page) ≡ 1
  unfolding number_bytes
  access =
      number_in-with_part_other 22 2 65 1 (number_bytes 2 0) rested refl (omega (arith, rested-long, long)) (inl (omega arith))
      ∙ number_in-with_part_other 48 16 65 1 (replicate 16 0) accessed refl (omega (arith, accessed-long, long)) (inl (omega arith)) ∙ number_in-with_part 65 1 1 page (omega arith) (omega (arith, long))

-- Page 0 of the image that a level file gives over another.
record MergedFirst (h : Head) (first : Page) : Type 0 where
  state : state_of first ≡ normal_state
  guid : guid_of first ≡ h.guid
  access : number_in 65 1 first ≡ 1

merged_first : (c : Contents) (image : Image) → HasPages c.head c.pages → 1 ≤ length image → MergedFirst c.head (first_page (merged c.pages image))
unfolding merged
merged_first c image have some =
    let over : Image = overwritten (image_size image) c.pages image in
    let first = over_first (image_size image) c.head c.pages image some have.first have.sizes have.rising in
    let name = named c.head first.page first.header in
    let wide = (size_facts c.head.size have.size).at_least in
    let long : 66 ≤ length first.page = omega (arith, wide, first.long) in
    let cut : first_page (trimmed over) ≡ first.page = trimmed-first over first.some (ap is_zeros first.is ∙ header-other first.page name.header) ∙ first.is in
    let is : first_page (as_standby (trimmed over)) ≡ standby_page first.page = standby_first (trimmed over) (some_page (trimmed over) (ap is_header cut ∙ name.header)) ∙ ap standby_page cut in
    record {
      state = ap state_of is ∙ standby-state first.page long;
      guid = ap guid_of is ∙ standby-guid first.page long ∙ name.guid;
      access = ap (number_in 65 1) is ∙ access first.page long;
    }

-- ---- after a merge of the ship file

module _ (old files : Files) (standby bytes : List ℕ) (c : Contents) (m : IsMergeable old standby (ship_of standby) bytes c) where
  its : IsAccepted old (ship_of standby) bytes c
  its = accepted old standby (ship_of standby) bytes c m

  ship_read : files (ship_of standby) ≡ old (ship_of standby) → read_in files (ship_of standby) ≡ Ok c
  ship_read same = ap (λ (f : File). read_level (bytes_of f)) (same ∙ its.there) ∙ its.read

  -- half way
  pub stopped_found : (half : List ℕ) → IsHalf bytes c half → files standby ≡ Some half → files (ship_of standby) ≡ old (ship_of standby)
      → look_at files standby ≡ Ok (record { guid = c.head.previous; found = Pending c.head.guid })
  stopped_found half is here same =
      let previous : guid_of half ≡ c.head.previous = half_previous old standby (ship_of standby) bytes c m half is in
      what_stands_is_found files standby half (Pending c.head.guid) (
        record { there = here; formed = is.formed; is = half_state old standby (ship_of standby) bytes c m half is },
        record { contents = c; read = ship_read same; named = refl; goes_on = sym previous; pending = half_pending old standby (ship_of standby) bytes c m half is },
      )
      ∙ ap (λ (guid : List ℕ). Ok (record { guid = guid; found = Pending c.head.guid })) previous

  -- and whole
  module _ (shows : ShowsIn standby (base_with bytes c) files) where
    its_some : 1 ≤ length (image_in bytes)
    its_some = some_page (image_in bytes) (laid bytes its.formed).header

    first : MergedFirst c.head (first_page (merged c.pages (image_in bytes)))
    first = merged_first c (image_in bytes) (level_pages its.level c its.read) its_some

    holds : HoldsMain (merged c.pages (image_in bytes)) (files standby)
    holds = main_of_base standby (base_with bytes c) (files standby) (files (delta_name standby)) shows first.state

    abbrev after : List ℕ
    after = holds.bytes

    merged_ready : IsReady files standby after
    merged_ready = record {
      normal = record { there = holds.there; formed = holds.formed; is = holds.normal };
      read_only = ap (λ (image : Image). is_read_only image) holds.is ∙ ap (λ (n : ℕ). not (n == 0)) first.access;
    }

    merged_guid : guid_of after ≡ c.head.guid
    merged_guid =
        let page : Page = first_page (image_in after) in
        sym (part-take 64 32 16 after (omega arith)) ∙ ap (part 32 16) (front after holds.formed) ∙ part-take 64 32 16 page (omega arith) ∙ ap (λ (image : Image). guid_of (first_page image)) holds.is ∙ first.guid

    -- while the ship file stands
    pub applied_found : files (ship_of standby) ≡ old (ship_of standby) → has_delta files (ship_of standby) ≡ false → look_at files standby ≡ Ok (record { guid = c.head.guid; found = Applied })
    applied_found same alone =
        what_stands_is_found files standby after Applied (merged_ready, record { contents = c; level = record { read = ship_read same; alone = alone }; has = sym merged_guid })
        ∙ ap (λ (guid : List ℕ). Ok (record { guid = guid; found = Applied })) merged_guid

    -- and once its name is free
    pub nothing_found : is_free_name files (ship_of standby) ≡ true → look_at files standby ≡ Ok (record { guid = c.head.guid; found = Nothing })
    nothing_found free = what_stands_is_found files standby after Nothing (merged_ready, free) ∙ ap (λ (guid : List ℕ). Ok (record { guid = guid; found = Nothing })) merged_guid
