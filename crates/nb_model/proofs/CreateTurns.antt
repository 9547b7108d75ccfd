-- A table is created: its page is made first, and it is there once its slot stands in the catalogue.
use Rattle.std.proofs.Common.{◌≡◌, ◌≢◌, ◌⊎◌, inr, ℕ, ◌+◌, ◌≤◌, ◌<◌, List, [], ◌++◌, length, refl, sym, ap, subst, ◌∙◌, arith, true, false, Option, None, is_some, Result, Ok, Err}
use Rattle.nb_model.proofs.Common.{AllByRecursion, or_parts, data_payload, is_system_place, Base, Catalogue, History, RowsFrom, Slot, owner_in, next_in, is_slot, slots_in, Spot, pages_of, found_pages, spots_of, spots, free_spot, table_spot, table_slot, place_at, place_slot, Draft, drafted, old_page, Page, Image, page_at, image_scn, GivesRows, chains, pages_of_all, rows, IsNeat, HasHeader, IsSoundImage, base_after, is_table_name, all_go}
use Rattle.nb_model.proofs.Along.{Along, along_append, along_more}
use Rattle.nb_model.proofs.ChainWalks.{HasForm}
use Rattle.nb_model.proofs.DraftJoin.{joined}
use Rattle.nb_model.proofs.FitLaws.{IsWhole, Fits, fits_first, fitting_stays}
use Rattle.nb_model.proofs.HeldAlong.{new_held_along, each_along, longer_along, both_along}
use Rattle.nb_model.proofs.HeldChains.{KeepsEach, IsHeldIn, chains_held, chain_each, nothing_changes}
use Rattle.nb_model.proofs.HeldLaws.{IsHeld, IsMade, new_is_made}
use Rattle.nb_model.proofs.NeatLaws.{chains_are, same_pages, same_all, same_chains, catalogue_same, same_table, stays_neat, other_rows, rows_of_none, ChangesChain, no_catalogue_history}
use Rattle.nb_model.proofs.NewSlots.{IsFree, free_fits, new_next, none_used}
use Rattle.nb_model.proofs.NewSound.{new_fits}
use Rattle.nb_model.proofs.PutSound.{header_whole}
use Rattle.nb_model.proofs.RoundLaws.{AnyPage, any_kinds, IsNew, new_is_new}
use Rattle.nb_model.proofs.RowTurns.{IsTurnOfRows}
use Rattle.nb_model.proofs.SlotLaws.{new_owner}
use Rattle.nb_model.proofs.SlotPuts.{each_list}
use Rattle.nb_model.proofs.SoundTurns.{StaysSound, fitting_keeps}
use Rattle.nb_model.proofs.SpotKeys.{Absent}
use Rattle.nb_model.proofs.TableCases.{new_first, created, MayCreate}
use Rattle.nb_model.proofs.TableDrafts.{place_left}
use Rattle.nb_model.proofs.TableTurns.{none_room}
use Rattle.nb_model.proofs.PlaceTurns.{join_at, none_is, Made, placed}

-- What the turn makes: the page, and then the slot.
module _ (b : Base) (header : HasHeader b.image) (is : IsSoundImage b.image) (neat : IsNeat b.image) (table : List ℕ) (named : is_table_name table ≡ true) (may : MayCreate b.image table) where
  abbrev x : Image
  x = b.image

  abbrev made : Draft × ℕ
  made = new_first x

  abbrev m : Image
  m = made.0.image

  abbrev n : ℕ
  n = made.1

  abbrev bytes : Slot
  bytes = table_slot table n

  abbrev ps : List ℕ
  ps = found_pages Catalogue x

  abbrev room : Option Spot
  room = free_spot (spots Catalogue x)

  whole : IsWhole x
  whole = header_whole x header is

  left : made.0.full ≡ false
  left = place_left Catalogue room ps bytes made.0 may.left

  is_new : IsNew x 5 made
  is_new = new_is_new (length x + 4) 5 (λ p. data_payload 0 p []) x whole refl none_room left

  is_made : IsMade x 5 (λ p. data_payload 0 p []) made
  is_made = new_is_made (length x + 4) 5 (λ p. data_payload 0 p []) x whole refl none_room left

  made_fits : Fits AnyPage b made.0
  made_fits = new_fits AnyPage any_kinds b (length x + 4) 5 (λ p. data_payload 0 p []) (drafted x) refl none_room (λ z p w five most. tt) (fits_first AnyPage b whole)

  abbrev c : Base
  c = base_after b made.0.strokes

  mid : c.image ≡ m
  mid = made_fits.is.is

  stays : StaysSound b c
  stays = fitting_keeps AnyPage made.0.strokes b made_fits.each header is

  longer : length x ≤ length c.image
  longer = (fitting_stays AnyPage made.0.strokes b made_fits.each whole).longer

  keeps : KeepsEach x c.image
  keeps q page held = subst (IsHeld q page) (sym mid) (is_made.keeps q page held)

  changes : ChangesChain History x c.image
  changes = nothing_changes x header is neat c.image longer keeps

  absent_table : table_spot table x ≡ None
  absent_table = none_is (table_spot table x) may.new

  neat_then : IsNeat c.image
  neat_then = stays_neat x c.image neat History no_catalogue_history changes (λ first e. cc)

  rows_then : (other : List ℕ) → rows c.image other ≡ rows x other
  rows_then other = other_rows x c.image neat History no_catalogue_history changes other (λ u found e. cc)

  none_then : table_spot table c.image ≡ None
  none_then = same_table x c.image neat History no_catalogue_history changes table ∙ absent_table

  pages_then : found_pages Catalogue c.image ≡ ps
  unfolding found_pages
  pages_then = ap (λ (r : Result (List ℕ) ℕ). elim r as (λ z. List ℕ) [ Ok qs ↦ qs | Err p ↦ [] ]) (subst (AllByRecursion (λ d. pages_of d c.image ≡ pages_of d x)) (chains_are x) (same_pages x c.image neat History changes)).0

  -- the new page
  small : n < 4294967296
  small = let low = is_new.below in let most = stays.sound.most in omega (arith, low, most, ap length mid)

  held_m : IsHeld n (page_at m n) m
  held_m = record { is = refl; behind = is_new.behind; below = is_new.below; plain = ap (λ (s : ℕ). is_system_place s n) is_new.size ∙ is_new.plain; taken = is_made.taken }

  held : IsHeld n (page_at m n) c.image
  held = subst (IsHeld n (page_at m n)) (sym mid) held_m

  free : AllByRecursion IsFree (slots_in (page_at m n))
  free = subst (λ (page : Page). AllByRecursion IsFree (slots_in page)) (sym is_made.of.1) (none_used (old_page n is_made.of.0) n (image_scn is_made.of.0) n)

  form : HasForm (RowsFrom n) (page_at m n)
  form = record {
    of_kind = is_new.of_kind;
    owner = ap owner_in is_made.of.1 ∙ new_owner (old_page n is_made.of.0) 0 n [] (image_scn is_made.of.0) n small;
    slots = each_list (is_slot (RowsFrom n)) (slots_in (page_at m n)) (all_go IsFree (λ s. is_slot (RowsFrom n) s ≡ true) (slots_in (page_at m n)) (λ s is_free. free_fits (RowsFrom n) s is_free) free);
  }

  ends : next_in (page_at m n) ≡ 0
  ends = ap next_in is_made.of.1 ∙ new_next (old_page n is_made.of.0) n [] (image_scn is_made.of.0) n

  apart : Absent n (pages_of_all c.image (chains c.image))
  apart = subst (Absent n) (sym (ap (pages_of_all c.image) (same_chains x c.image neat History no_catalogue_history changes) ∙ same_all x c.image (chains x) (same_pages x c.image neat History changes)))
      (chain_each x (λ q. n ≢ q) (chains x)
      (all_go (λ d. AllByRecursion (IsHeldIn d x) (found_pages d x)) (λ d. AllByRecursion (λ q. n ≢ q) (found_pages d x)) (chains x)
      (λ d helds. all_go (IsHeldIn d x) (λ q. n ≢ q) (found_pages d x) (λ q at e. is_made.other q (page_at x q) at.held (sym e)) helds) (chains_held x header is neat)))

  -- the slot is placed after
  abbrev place : Image → Draft
  place z = place_slot Catalogue (found_pages Catalogue z) bytes (drafted z)

  -- the place that was free is the first that is free after the new page
  same_room : room ≡ free_spot (spots_of m ps)
  unfolding spots
  same_room = ap free_spot (sym (catalogue_same x c.image neat History no_catalogue_history changes)) ∙ ap (λ (qs : List ℕ). free_spot (spots_of c.image qs)) pages_then ∙ ap (λ (z : Image). free_spot (spots_of z ps)) mid

  joins : created x table ≡ joined made.0 (place_slot Catalogue ps bytes (drafted m))
  unfolding place_slot
  joins = join_at Catalogue room ps bytes made.0 ∙ ap (λ (o : Option Spot). joined made.0 (place_at Catalogue o ps bytes (drafted m))) same_room

  full : (place_slot Catalogue ps bytes (drafted m)).full ≡ false
  full = (or_parts (place_slot Catalogue ps bytes (drafted m)).full made.0.full (ap (λ (d : Draft). d.full) (sym joins) ∙ may.left)).0

  same_place : place c.image ≡ place_slot Catalogue ps bytes (drafted m)
  same_place = ap (λ (qs : List ℕ). place_slot Catalogue qs bytes (drafted c.image)) pages_then ∙ ap (λ (z : Image). place_slot Catalogue ps bytes (drafted z)) mid

  second : Made c stays.header stays.sound neat_then n (page_at m n) held form ends free apart table named none_then (place c.image)
  second = placed c stays.header stays.sound neat_then n (page_at m n) held form ends free apart table named none_then (ap (λ (d : Draft). d.full) same_place ∙ full)

  abbrev Gives : Image → Type 0
  Gives z = GivesRows x z table []

  from_mid : (z : Image) → GivesRows c.image z table [] → Gives z
  from_mid z g = record { neat = g.neat; its = g.its; others = λ other ne. g.others other ne ∙ rows_then other }

  first_along : Along Gives b made.0.strokes
  first_along = along_more (λ z. KeepsEach x z × (length x ≤ length z)) Gives b made.0.strokes (λ z facts. one z facts.0 facts.1)
      (both_along (KeepsEach x) (λ z. length x ≤ length z) b made.0.strokes
      (each_along x b made.0.strokes (λ q page at. new_held_along q page (length x + 4) 5 (λ p. data_payload 0 p []) b x refl whole refl none_room left at))
      (longer_along AnyPage (length x) b made.0.strokes made_fits.each whole (omega arith)))
    where
      one : (z : Image) → KeepsEach x z → length x ≤ length z → Gives z
      one z ks less =
          let still : ChangesChain History x z = nothing_changes x header is neat z less ks in
          record {
            neat = stays_neat x z neat History no_catalogue_history still (λ first e. cc);
            its = other_rows x z neat History no_catalogue_history still table (λ u found e. cc) ∙ rows_of_none x table absent_table;
            others = λ other ne. other_rows x z neat History no_catalogue_history still other (λ u found e. cc);
          }

  second_along : Along Gives c (place_slot Catalogue ps bytes (drafted m)).strokes
  second_along = subst (λ (d : Draft). Along Gives c d.strokes) same_place (along_more (λ z. GivesRows c.image z table []) Gives c (place c.image).strokes from_mid second.along)

  pub create_turn_rows : IsTurnOfRows b table [] (created x table)
  create_turn_rows = subst (IsTurnOfRows b table []) (sym joins) (record {
    along = along_more Gives (λ z. GivesRows x z table (rows x table) ⊎ GivesRows x z table []) b (made.0.strokes ++ (place_slot Catalogue ps bytes (drafted m)).strokes) (λ z g. inr g)
        (along_append Gives b made.0.strokes (place_slot Catalogue ps bytes (drafted m)).strokes first_along second_along);
    behind = subst (λ (d : Draft). Gives d.image) same_place (from_mid (place c.image).image second.behind);
  })

  -- and the catalogue has it then
  pub create_there : is_some (table_spot table (created x table).image) ≡ true
  create_there = ap (λ (d : Draft). is_some (table_spot table d.image)) joins ∙ ap (λ (d : Draft). is_some (table_spot table d.image)) (sym same_place) ∙ second.there
