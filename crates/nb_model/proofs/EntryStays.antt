-- A page of the SCN inventory stays one through every turn on pages, whatever else stands in the image: so a page that has its SCN entry goes on having
-- it.
use Rattle.std.proofs.Common.{◌≡◌, ◌≢◌, inl, inr, ℕ, zero, suc, ◌/◌, ◌≤◌, List, [], ◌∷◌, refl, sym, ap, subst, ◌∙◌, arith, Bool, true, false, IsTrue, ◌==◌, nat_lt, Option, Some, None}
use Rattle.nb_model.proofs.Common.{AllByRecursion, true≢false, false_from_ne_true, eqb_tells, kind_of, is_page_size, bits_in, entries_in, is_inventory_place, is_scn_place, is_system_place, most_pages, scn_kind, Refusal, Statement, CreateDb, OpenDb, PageNew, Write, Free, Reclaim, CreateTable, DropTable, Insert, Update, Delete, Get, Scan, Forced, Access, ShowCache, broken_at, not_raw, Chain, Catalogue, Slot, Spot, spots, spots_of, found_pages, pages_of, is_in_chain, first_such, last_of, free_spot, table_spot, row_spot, put_slot, grown, place_at, place_slot, HasItsEntry, Draft, drafted, wrote, written, old_page, needs, is_kind, has_entry, scn_entry, scn_page_of, inventory_of, entry_written, entry_raised, raised, put, set_bit, give_page, take_page, lowest_free, first_not, needed_at, system_kind, system_page, no_page, new_within, Page, Image, page_at, first_page, image_size, image_scn, with_page, Seen, Outcome, new_turn, write_turn, free_turn, forced_turn, access_turn, byte_strokes, cache_turn, HasHeader, Stroke, merged_page, on_base, base_after, all_given, reclaim_turn, reclaimed, leaked, first_turn, is_on_pages}
use Rattle.nb_model.proofs.ToldTurns.{does_more, told_strokes, pages_cases}
use Rattle.nb_model.proofs.DraftLaws.{IsOf, drafts_are, drafted_is, either, put_keeps, set_bit_keeps, new_keeps, slot_keeps, at_keeps, place_keeps, given_keeps}
use Rattle.nb_model.proofs.HeaderLaws.{header-size}
use Rattle.nb_model.proofs.NewSound.{places_apart, stamped_kind, plain_place}
use Rattle.nb_model.proofs.PagesOnly.{pages_stay, pages_only, low_stays, with_page_longer, size_kept, header_kept}
use Rattle.nb_model.proofs.PutSound.{no_first, needs_image, raw_facts}
use Rattle.nb_model.proofs.RoomLaws.{in_chain, pages_found, last_of_all, first_passes}
use Rattle.nb_model.proofs.SoundLaws.{inventory_there, scn_page_there, scn_page_behind}
use Rattle.nb_model.proofs.SpotLaws.{IsSpotOn, all_on}
use Rattle.nb_model.proofs.StepLaws.{kind_parts, scn_page_moves}
use Rattle.nb_model.proofs.StrokeLaws.{with_page_same, whole_page}
use Rattle.nb_model.proofs.TableCases.{MayPut, created, dropped, inserted, row_written, create_either, drop_either, insert_either, update_either, delete_either, get_either, scan_either, changes_either, chain_at}
use Rattle.nb_model.proofs.TurnCases.{refused, unless_either}
use Rattle.nb_model.proofs.RoundLaws.{kind_found}

-- Of pages of n bytes, page q is one of the SCN inventory.
module _ (n q : ℕ) (place : is_scn_place n q ≡ true) where
  -- The image has it.
  pub record HasScn (x : Image) : Type 0 where
    pub header : HasHeader x
    pub size : image_size x ≡ n
    pub kind : is_kind x scn_kind q ≡ true

  abbrev Has : Draft → Type 0
  Has d = HasScn d.image

  is_size : (x : Image) → HasScn x → IsTrue (is_page_size n)
  is_size x h = subst (λ (s : ℕ). IsTrue (is_page_size s)) h.size (header-size (first_page x) h.header.header)

  some : q ≢ 0
  some = scn_page_behind n q place

  -- a page is written, which is another or one of the SCN inventory
  pub scn_stays : (x : Image) (p : ℕ) (bytes : Page) → (p ≡ q → kind_of bytes ≡ scn_kind) → HasScn x → HasScn (with_page p (merged_page p bytes x) x)
  scn_stays x p bytes same h =
      let old = kind_parts x scn_kind q h.kind in
      record {
        header = header_kept x p bytes h.header;
        size = size_kept x p bytes h.header ∙ h.size;
        kind = kind_found (with_page p (merged_page p bytes x) x) scn_kind q (omega (arith, old.0, with_page_longer p (merged_page p bytes x) x)) (elim (eqb_tells p q) [
          | inl w ↦
              let at : 1 ≤ p = omega (arith, some, w.1) in
              ap (λ (i : ℕ). kind_of (page_at (with_page p (merged_page p bytes x) x) i)) (sym w.1) ∙ ap kind_of (with_page_same p (merged_page p bytes x) x (omega (arith, w.1, old.0)))
              ∙ ap kind_of (whole_page p bytes x at) ∙ same w.1
          | inr w ↦ ap kind_of (low_stays p q (merged_page p bytes x) x old.0 (λ e. w.1 (sym e))) ∙ old.1
        ]);
      }

  written_has : (p kind : ℕ) (payload : List ℕ) (d : Draft) → (p ≡ q → kind ≡ 10) → Has d → Has (written p kind payload d)
  unfolding written wrote
  written_has p kind payload d same h =
      scn_stays d.image p _ (λ e. stamped_kind (old_page p d.image) kind payload (image_scn d.image) p ∙ same e) h

  needs_has : (kind p : ℕ) (d : Draft) → Has d → Has (needs kind p d)
  needs_has kind p d h = subst HasScn (sym (needs_image kind p d)) h

  raised_has : (p : ℕ) (d : Draft) → Has d → Has (raised p d)
  unfolding raised entry_raised entry_written
  raised_has p d h =
      let e : Draft = needs 10 (scn_page_of d.image p) d in
      let he : Has e = needs_has 10 (scn_page_of d.image p) d h in
      either Has (has_entry d.image p) _ _ (either Has (nat_lt (scn_entry e.image p) (image_scn e.image)) _ _ (written_has _ 10 _ e (λ same. refl) he) he) h

  pub put_has : (p kind : ℕ) (payload : List ℕ) (d : Draft) → (p ≡ q → kind ≡ 10) → Has d → Has (put p kind payload d)
  unfolding put
  put_has p kind payload d same h = written_has p kind payload (raised p d) same (raised_has p d h)

  -- a page of the other inventory is another
  apart : (x : Image) (p : ℕ) → HasScn x → is_inventory_place n p ≡ true → p ≢ q
  apart x p h at e = places_apart n q (is_size x h) (subst (λ (i : ℕ). is_inventory_place n i ≡ true) e at) place

  map_apart : (x : Image) (p : ℕ) → HasScn x → inventory_of x p ≢ q
  map_apart x p h = apart x (inventory_of x p) h
      (ap (λ (s : ℕ). is_inventory_place s (inventory_of x p)) (sym h.size) ∙ inventory_there (image_size x) (p / bits_in (image_size x)) (header-size (first_page x) h.header.header))

  pub bit_has : (bit p : ℕ) (d : Draft) → Has d → Has (set_bit bit p d)
  unfolding set_bit
  bit_has bit p d h = put_has (inventory_of d.image p) 2 _ (needs 2 (inventory_of d.image p) d) (λ e. absurd (map_apart d.image p h e)) (needs_has 2 (inventory_of d.image p) d h)

  system_has : (p : ℕ) (d : Draft) → Has d → Has (system_page p d)
  unfolding system_page
  system_has p d h = either Has (is_kind d.image (system_kind d.image p) p) _ _ h (put_has p (system_kind d.image p) _ d (λ e.
      let none : is_inventory_place (image_size d.image) p ≡ false = false_from_ne_true _ (λ at. apart d.image p h (ap (λ (s : ℕ). is_inventory_place s p) (sym h.size) ∙ at) e) in
      ap (λ (t : Bool). elim t as (λ z. ℕ) [ true ↦ 2 | false ↦ 10 ]) none) h)

  -- so does a page that is no system page
  pub plain_apart : (p : ℕ) → is_system_place n p ≡ false → p ≢ q
  plain_apart p plain e = true≢false (sym place ∙ ap (is_scn_place n) (sym e) ∙ (plain_place n p plain).1)

  pub new_has : (tries kind : ℕ) (payload : ℕ → List ℕ) (d : Draft) → Has d → Has (new_within tries kind payload d).0
  unfolding new_within
  new_has zero kind payload d h = record { header = h.header; size = h.size; kind = h.kind }
  new_has (suc tries) kind payload d h =
      by_need (new_has tries kind payload _ (bit_has 0 (lowest_free d.image) (system_page (lowest_free d.image) d) (system_has (lowest_free d.image) d h))) (first_not d.image (needed_at d.image (lowest_free d.image)))
    where
      p : ℕ
      p = lowest_free d.image

      more : Draft × ℕ
      more = new_within tries kind payload (take_page p (system_page p d))

      last : Draft × ℕ
      last = (take_page p (put p kind (payload p) d), p)

      by_place : Has more.0 → (t : Bool) → is_system_place (image_size d.image) p ≡ t → Has (elim t as (λ z. Draft × ℕ) [ true ↦ more | false ↦ last ]).0
      by_place again true e = again
      by_place again false e = bit_has 0 p _ (put_has p kind (payload p) d (λ same. absurd (plain_apart p (ap (λ (s : ℕ). is_system_place s p) (sym h.size) ∙ e) same)) h)

      by_full : Has more.0 → (t : Bool) → Has (elim t as (λ z. Draft × ℕ) [ true ↦ (no_page d, p) | false ↦ elim (is_system_place (image_size d.image) p) as (λ z. Draft × ℕ) [ true ↦ more | false ↦ last ] ]).0
      by_full again true = record { header = h.header; size = h.size; kind = h.kind }
      by_full again false = by_place again (is_system_place (image_size d.image) p) refl

      by_need : Has more.0 → (o : Option ℕ) → Has (elim o as (λ z. Draft × ℕ) [
        | Some r ↦ (record d { broken = r ∷ d.broken }, 0)
        | None ↦ elim (p == most_pages) as (λ z. Draft × ℕ) [ true ↦ (no_page d, p) | false ↦ elim (is_system_place (image_size d.image) p) as (λ z. Draft × ℕ) [ true ↦ more | false ↦ last ] ]
      ]).0
      by_need again (Some r) = record { header = h.header; size = h.size; kind = h.kind }
      by_need again None = by_full again (p == most_pages)

  pub slot_has : (p slot : ℕ) (bytes : Slot) (d : Draft) → p ≢ q → Has d → Has (put_slot p slot bytes d)
  unfolding put_slot
  slot_has p slot bytes d other h = put_has p 5 _ d (λ e. absurd (other e)) h

  pub grown_has : (chain : Chain) (pages : List ℕ) (bytes : Slot) (d : Draft) → last_of pages ≢ q → Has d → Has (grown chain pages bytes d).0
  unfolding grown
  grown_has chain pages bytes d other h =
      let is : HasScn _ = put_has (last_of pages) 5 _ _ (λ e. absurd (other e)) (new_has _ 5 _ d h) in
      record { header = is.header; size = is.size; kind = is.kind }

  at_has : (chain : Chain) (room : Option Spot) (pages : List ℕ) (bytes : Slot) (d : Draft) → ((s : Spot) → room ≡ Some s → s.page ≢ q) → last_of pages ≢ q → Has d → Has (place_at chain room pages bytes d)
  at_has chain (Some s) pages bytes d its other h = let is : HasScn _ = slot_has s.page s.slot bytes d (its s refl) h in record { header = is.header; size = is.size; kind = is.kind }
  at_has chain None pages bytes d its other h = grown_has chain pages bytes d other h

  given_has : (ps : List ℕ) (d : Draft) → Has d → Has (all_given ps d)
  unfolding all_given
  given_has [] d h = h
  given_has (p ∷ ps) d h = given_has ps (give_page p d) (bit_has 1 p d h)

  -- No page of a chain is that page.
  module _ (x : Image) (h : HasScn x) where
    data_apart : (p : ℕ) → kind_of (page_at x p) ≢ scn_kind → p ≢ q
    data_apart p other e = other (ap (λ (i : ℕ). kind_of (page_at x i)) e ∙ (kind_parts x scn_kind q h.kind).1)

    chain_apart : (chain : Chain) → broken_at (pages_of chain x) ≡ None → AllByRecursion (λ (p : ℕ). p ≢ q) (found_pages chain x)
    chain_apart chain formed = each (found_pages chain x) (pages_found chain x formed).each
      where
        each : (ps : List ℕ) → AllByRecursion (λ (p : ℕ). is_in_chain chain x p ≡ true) ps → AllByRecursion (λ (p : ℕ). p ≢ q) ps
        each [] all = tt
        each (p ∷ ps) all = (data_apart p (λ ten. let five = (in_chain chain x p all.0).1 in absurd (omega (arith, five, ten))), each ps all.1)

    last_apart : (chain : Chain) → broken_at (pages_of chain x) ≡ None → last_of (found_pages chain x) ≢ q
    last_apart chain formed = last_of_all (λ (p : ℕ). p ≢ q) (found_pages chain x) (pages_found chain x formed).some (chain_apart chain formed)

    spots_apart : (chain : Chain) → broken_at (pages_of chain x) ≡ None → AllByRecursion (IsSpotOn (λ (p : ℕ). p ≢ q) x) (spots chain x)
    unfolding spots
    spots_apart chain formed = all_on (λ (p : ℕ). p ≢ q) x (found_pages chain x) (chain_apart chain formed)

    found_apart : (chain : Chain) → broken_at (pages_of chain x) ≡ None → (test : Spot → Bool) (s : Spot) → first_such test (spots chain x) ≡ Some s → s.page ≢ q
    found_apart chain formed test s is = (first_passes test (IsSpotOn (λ (p : ℕ). p ≢ q) x) (spots chain x) s is (spots_apart chain formed)).page

    free_apart : (chain : Chain) → broken_at (pages_of chain x) ≡ None → (s : Spot) → free_spot (spots chain x) ≡ Some s → s.page ≢ q
    unfolding free_spot
    free_apart chain formed s is = found_apart chain formed _ s is

    table_apart : (table : List ℕ) → broken_at (pages_of Catalogue x) ≡ None → (s : Spot) → table_spot table x ≡ Some s → s.page ≢ q
    unfolding table_spot
    table_apart table formed s is = found_apart Catalogue formed _ s is

    row_apart : (chain : Chain) (key : ℕ) → broken_at (pages_of chain x) ≡ None → (s : Spot) → row_spot key (spots chain x) ≡ Some s → s.page ≢ q
    unfolding row_spot
    row_apart chain key formed s is = found_apart chain formed _ s is

    inserted_has : (chain : Chain) (bytes : Slot) → broken_at (pages_of chain x) ≡ None → Has (place_slot chain (found_pages chain x) bytes (drafted x))
    unfolding place_slot spots
    inserted_has chain bytes formed = at_has chain (free_spot (spots_of x (found_pages chain x))) (found_pages chain x) bytes (drafted x) (λ s is. free_apart chain formed s is) (last_apart chain formed) h

  -- So after the first turn of a statement on pages.
  module _ (s : Seen) (h : HasScn s.base.image) where
    abbrev After : Outcome → Type 0
    After o = HasScn (base_after s.base o.strokes).image

    none_after : HasScn (base_after s.base []).image
    unfolding base_after
    none_after = h

    draft_after : (d : Draft) → IsOf s.base d → Has d → HasScn (base_after s.base d.strokes).image
    draft_after d of has = subst HasScn (sym of.is) has

    byte_after : (at value : ℕ) → HasScn (base_after s.base (byte_strokes at value s.base.image)).image
    unfolding byte_strokes base_after on_base
    byte_after at value = scn_stays s.base.image 0 _ (λ e. absurd (some (sym e))) h

    denied : (r : Refusal) → After (refused s r)
    denied r = none_after

    abbrev Of : Draft → Type 0
    Of d = IsOf s.base d

    row_after : (spot row : Spot) (bytes : Slot) (table : List ℕ) (key : ℕ) → MayPut s.base.image table key bytes spot row → HasScn (base_after s.base (row_written s.base.image row bytes).strokes).image
    row_after spot row bytes table key may =
        draft_after (row_written s.base.image row bytes) (slot_keeps Of (drafts_are s.base) row.page row.slot bytes (drafted s.base.image) (drafted_is s.base))
        (slot_has row.page row.slot bytes (drafted s.base.image) (row_apart s.base.image h (chain_at spot) key may.its_row.its_table.formed row may.its_row.found) h)

    more_stays : (statement : Statement) → does_more statement ≡ true → (session : ℕ) → HasScn (base_after s.base (first_turn s session statement).strokes).image
    unfolding first_turn reclaim_turn new_turn write_turn free_turn forced_turn access_turn cache_turn
    more_stays (CreateDb name size raw cache) on session = none_after
    more_stays (OpenDb name cache) on session = none_after
    more_stays PageNew on session = changes_either After s denied _ _ _ (λ may. draft_after _ (new_keeps Of (drafts_are s.base) _ 8 _ (drafted s.base.image) (drafted_is s.base)) (new_has _ 8 _ (drafted s.base.image) h))
    more_stays (Write p text) on session = changes_either After s denied _ _ _ (λ c.
        let raw = raw_facts s.base.image p (no_first (not_raw s.base.image p) _ c.may).0 in
        draft_after _ (put_keeps Of (drafts_are s.base) p 8 _ (drafted s.base.image) (drafted_is s.base))
        (put_has p 8 _ (drafted s.base.image) (λ e. absurd (data_apart s.base.image h p (λ ten. absurd (omega (arith, raw.1, ten))) e)) h))
    more_stays (Free p) on session = changes_either After s denied _ _ _ (λ c. draft_after _ (set_bit_keeps Of (drafts_are s.base) 1 p (drafted s.base.image) (drafted_is s.base)) (bit_has 1 p (drafted s.base.image) h))
    more_stays (Forced forced) on session = unless_either After s _ _ denied (λ none. byte_after 64 _)
    more_stays (Access closed) on session = unless_either After s _ _ denied (λ none. byte_after 65 _)
    more_stays ShowCache on session = none_after
    more_stays Reclaim on session = unless_either After s _ _ denied (λ none.
        draft_after (reclaimed s.base.image) (given_keeps Of (drafts_are s.base) (leaked s.base.image) (drafted s.base.image) (drafted_is s.base)) (given_has (leaked s.base.image) (drafted s.base.image) h))
    more_stays (CreateTable table) on session = create_either After s denied table (λ may.
        draft_after (created s.base.image table) (at_keeps Of (drafts_are s.base) _ _ _ _ _ (new_keeps Of (drafts_are s.base) _ 5 _ (drafted s.base.image) (drafted_is s.base)))
        (at_has Catalogue _ _ _ _ (λ spot is. free_apart s.base.image h Catalogue may.catalogue spot is) (last_apart s.base.image h Catalogue may.catalogue) (new_has _ 5 _ (drafted s.base.image) h)))
    more_stays (DropTable table) on session = drop_either After s denied table (λ spot may.
        draft_after (dropped s.base.image spot) (given_keeps Of (drafts_are s.base) _ _ (slot_keeps Of (drafts_are s.base) spot.page spot.slot _ (drafted s.base.image) (drafted_is s.base)))
        (given_has _ _ (slot_has spot.page spot.slot _ (drafted s.base.image) (table_apart s.base.image h table may.its_table.catalogue spot may.its_table.found) h)))
    more_stays (Insert table key text) on session = insert_either After s denied table key text (λ spot may.
        draft_after (inserted s.base.image spot key text) (place_keeps Of (drafts_are s.base) _ _ _ (drafted s.base.image) (drafted_is s.base))
        (inserted_has s.base.image h (chain_at spot) _ may.its_table.formed))
    more_stays (Update table key text) on session = update_either After s denied table key text (λ spot row short may. row_after spot row _ table key may)
    more_stays (Delete table key) on session = delete_either After s denied table key (λ spot row may. row_after spot row _ table key may)
    more_stays (Get table key) on session = get_either After s denied table key (λ spot row may. none_after)
    more_stays (Scan table) on session = scan_either After s denied table (λ spot has. none_after)
    more_stays other on session = absurd (true≢false (sym on))

    pub statement_stays : (statement : Statement) → is_on_pages statement ≡ true → (session : ℕ) → HasScn (base_after s.base (first_turn s session statement).strokes).image
    statement_stays = pages_cases (λ statement. (session : ℕ) → HasScn (base_after s.base (first_turn s session statement).strokes).image)
        (λ statement is session. subst (λ (ss : List Stroke). HasScn (base_after s.base ss).image) (sym (told_strokes statement is s session)) none_after) more_stays

-- the place of an SCN page
pub scn_there : (image : Image) (p : ℕ) → HasHeader image → is_scn_place (image_size image) (scn_page_of image p) ≡ true
scn_there image p h = scn_page_there (image_size image) (p / entries_in (image_size image)) (header-size (first_page image) h.header)

-- So a page that has its entry goes on having it.
pub entry_stays : (s : Seen) (session : ℕ) (statement : Statement) → is_on_pages statement ≡ true → HasHeader s.base.image → (p : ℕ) → HasItsEntry s.base.image p → HasItsEntry (base_after s.base (first_turn s session statement).strokes).image p
entry_stays s session statement on header p is =
    let old : Image = s.base.image in
    scn_page_moves old (base_after s.base (first_turn s session statement).strokes).image p
    (pages_stay (first_turn s session statement).strokes s.base (pages_only statement on s session) header).stays.size
    (λ kind. (statement_stays (image_size old) (scn_page_of old p) (scn_there old p header) s (record { header = header; size = refl; kind = kind }) statement on session).kind) is
