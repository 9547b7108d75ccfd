-- A table is dropped: its slot in the catalogue is emptied first, and its pages are given back then, which changes nothing for the others.
use Rattle.std.proofs.Common.{◌≡◌, ◌≢◌, ◌⊎◌, inl, inr, ℕ, zero, suc, ◌+◌, ◌*◌, ◌≤◌, List, [], ◌∷◌, ◌++◌, map, length, drop, refl, sym, ap, subst, ◌∙◌, arith, false, None, Contains}
use Rattle.nb_model.proofs.Common.{AllByRecursion, with_part, Base, base_of, Chain, Catalogue, History, Spot, is_used, found_pages, spots, table_spot, free_slot, put_slot, Draft, drafted, raised, give_page, Page, Image, page_at, Seen, GivesRows, used, table_chains, chains, pages_of_all, rows, AreDistinct, IsNeat, HasHeader, IsSoundImage, Stroke, on_base, base_after, all_given, all_go, all_both}
use Rattle.nb_model.proofs.Along.{Along, along_append, along_more, along_end, put_along}
use Rattle.nb_model.proofs.DraftJoin.{Joins, joined, join_none, join_then, join_set_bit}
use Rattle.nb_model.proofs.DraftLaws.{IsOf, drafted_is, drafts_are, set_bit_keeps}
use Rattle.nb_model.proofs.FitLaws.{IsWhole, AreFitting}
use Rattle.nb_model.proofs.HeldAlong.{of_base, these_along, bit_held_along, longer_along, both_along}
use Rattle.nb_model.proofs.HeldChains.{nothing_changes, these_stay}
use Rattle.nb_model.proofs.HeldLaws.{IsHeld, held_bit}
use Rattle.nb_model.proofs.NeatDrops.{has_name, left_each, left_other, each_pages, gone as not_there, table_gone, pages_left, fronted}
use Rattle.nb_model.proofs.NeatGrows.{apart_front}
use Rattle.nb_model.proofs.NeatLaws.{pages_first, distinct_right, pages_among, chain_held, once_table, table_found, IsFoundTable, chains_are, same_table, stays_neat, other_rows, no_catalogue_history}
use Rattle.nb_model.proofs.NoRows.{HasNoRows}
use Rattle.nb_model.proofs.PutSound.{header_whole}
use Rattle.nb_model.proofs.RowSlots.{free_not_used, free_is_slot}
use Rattle.nb_model.proofs.RowTurns.{IsTurnOfRows, still_rows}
use Rattle.nb_model.proofs.FoundSpots.{found_there, each_held}
use Rattle.nb_model.proofs.SlotPuts.{slot_between, IsSlotPut, slot_put}
use Rattle.nb_model.proofs.SoundTurns.{StaysSound, fitting_keeps}
use Rattle.nb_model.proofs.SpotKeys.{Absent}
use Rattle.nb_model.proofs.SpotLaws.{IsSpotOn}
use Rattle.nb_model.proofs.SpotMaps.{ChangesOne}
use Rattle.nb_model.proofs.SpotWrites.{put_at, put_it, all_change}
use Rattle.nb_model.proofs.StrokeLaws.{base_after-append}
use Rattle.nb_model.proofs.TableCases.{HasTable, chain_at, dropped}
use Rattle.nb_model.proofs.TableDrafts.{IsTablePage, Goes, keeps_first, table_two, goes_give, goes_given, all_pages}
use Rattle.nb_model.proofs.TableTurns.{table_written, rows_pages}

pub join_given : (ps : List ℕ) → Joins (all_given ps)
unfolding all_given
join_given [] d = join_none d
join_given (p ∷ ps) d = join_then (give_page p) (all_given ps) (join_set_bit 1 p) (join_given ps) d

given_first : (p : ℕ) (ps : List ℕ) (z : Image) → all_given (p ∷ ps) (drafted z) ≡ joined (give_page p (drafted z)) (all_given ps (drafted (give_page p (drafted z)).image))
unfolding all_given
given_first p ps z = join_given ps (give_page p (drafted z))

pub given_none : (z : Image) → (all_given [] (drafted z)).strokes ≡ []
unfolding all_given
given_none z = refl

-- A page that isn't given back stays held.
given_along : (q : ℕ) (bytes : Page) (ps : List ℕ) (b : Base) (z : Image) → b.image ≡ z → IsWhole z → AllByRecursion (IsTablePage z) ps → AllByRecursion (λ (p : ℕ). q ≢ p) ps → IsHeld q bytes z → Along (IsHeld q bytes) b (all_given ps (drafted z)).strokes
given_along q bytes [] b z e h pages off held = subst (Along (IsHeld q bytes) b) (sym (given_none z)) (subst (IsHeld q bytes) (sym e) held)
given_along q bytes (p ∷ ps) b z e h pages off held =
    let d : Draft = give_page p (drafted z) in
    let goes : Goes (base_of z) (drafted z) d = goes_give (base_of z) (drafted z) (keeps_first (base_of z) h) p pages.0 in
    let mid : (base_after b d.strokes).image ≡ d.image = (of_base (λ y. IsOf b (give_page p y)) b z e (set_bit_keeps (IsOf b) (drafts_are b) 1 p (drafted b.image) (drafted_is b))).is in
    let two : 2 ≤ p = table_two z p h pages.0 in
    subst (λ (y : Draft). Along (IsHeld q bytes) b y.strokes) (sym (given_first p ps z))
    (along_append (IsHeld q bytes) b d.strokes (all_given ps (drafted d.image)).strokes (bit_held_along q bytes b z h 1 p e (omega arith) two pages.0.below off.0 held)
    (given_along q bytes ps (base_after b d.strokes) d.image mid goes.keeps.fits.whole (all_pages (base_of z) (drafted z) d ps goes pages.1) off.1 (held_bit q bytes z h 1 p (omega arith) two pages.0.below off.0 held)))

fitting_rest : (K : Page → Type 0) (xs ys : List Stroke) (b : Base) → AreFitting K b (xs ++ ys) → AreFitting K (base_after b xs) ys
unfolding base_after
fitting_rest K [] ys b fits = fits
fitting_rest K (x ∷ xs) ys b fits = fitting_rest K xs ys (on_base x b) fits.1

fitting_front : (K : Page → Type 0) (xs ys : List Stroke) (b : Base) → AreFitting K b (xs ++ ys) → AreFitting K b xs
fitting_front K [] ys b fits = tt
fitting_front K (x ∷ xs) ys b fits = (fits.0, fitting_front K xs ys (on_base x b) fits.1)

-- for all of these together
all_for : {X : Type 0} (R : ℕ → X → Type 0) (ps : List ℕ) (us : List X) → ((p : ℕ) → Contains ps p → AllByRecursion (R p) us) → AllByRecursion (λ u. (p : ℕ) → Contains ps p → R p u) us
all_for R ps [] each = tt
all_for R ps (u ∷ us) each = ((λ p at. (each p at).0), all_for R ps us (λ p at. (each p at).1))

-- none of these is one of those
none_shared : (ps qs : List ℕ) → ((p : ℕ) → Contains ps p → Contains qs p → ⊥) → AllByRecursion (λ (q : ℕ). AllByRecursion (λ (p : ℕ). q ≢ p) ps) qs
none_shared ps [] apart = tt
none_shared ps (q ∷ qs) apart = (
  all_go (Contains ps) (λ (p : ℕ). q ≢ p) ps (λ p at e. apart p at (0, omega arith, e)) (each_held ps),
  none_shared ps qs (λ p at there. apart p at (suc there.0, omega (arith, there.1), there.2)),
)

absent_none : (q : ℕ) (qs : List ℕ) → Absent q qs → Contains qs q → ⊥
absent_none q [] absent at = absurd (omega (arith, at.1))
absent_none q (z ∷ qs) absent (zero, low, is) = absent.0 (sym is)
absent_none q (z ∷ qs) absent (suc k, low, is) = absent_none q qs absent.1 (k, omega (arith, low), is)

module _ (s : Seen) (header : HasHeader s.base.image) (is : IsSoundImage s.base.image) (neat : IsNeat s.base.image) (table : List ℕ) (spot : Spot) (has : HasTable s.base.image table spot) where
  abbrev b : Base
  b = s.base

  abbrev x : Image
  x = s.base.image

  abbrev xs : List Spot
  xs = spots Catalogue x

  abbrev ps : List ℕ
  ps = found_pages (chain_at spot) x

  abbrev first : Draft
  first = put_slot spot.page spot.slot free_slot (drafted x)

  abbrev y : Image
  y = first.image

  abbrev f : Spot → Spot
  f = put_at spot.page spot.slot free_slot

  of_all : Contains (chains x) Catalogue
  of_all = subst (λ (cs : List Chain). Contains cs Catalogue) (sym (chains_are x)) (0, omega arith, refl)

  its : IsFoundTable x table spot
  its = table_found x table spot has.found

  on : IsSpotOn (Contains (found_pages Catalogue x)) x spot
  unfolding table_spot
  on = found_there Catalogue x (has_name table) spot has.found

  emptied : IsSlotPut Catalogue spot free_slot x y
  emptied = slot_put x header is neat Catalogue of_all spot on free_slot refl (free_is_slot Catalogue)

  empty : is_used (f spot).bytes ≡ false
  empty = ap (λ (v : Spot). is_used v.bytes) (put_it spot.page spot.slot free_slot spot refl refl) ∙ free_not_used

  all : AllByRecursion (ChangesOne f spot) xs
  unfolding spots
  all = all_change spot.page spot.slot free_slot (Contains (found_pages Catalogue x)) x spot on refl refl (found_pages Catalogue x) (each_held (found_pages Catalogue x))

  gone : GivesRows x y table []
  gone = table_gone x y neat emptied.changes f table spot has.found empty all emptied.spots_then

  abbrev Gives : Image → Type 0
  Gives z = GivesRows x z table (rows x table) ⊎ GivesRows x z table []

  first_along : Along Gives b first.strokes
  unfolding put_slot
  first_along = put_along Gives b x spot.page 5 (drop 16 (with_part (32 + 256 * spot.slot) free_slot (page_at x spot.page))) refl
      (inl (still_rows x header is neat table spot has x (nothing_changes x header is neat x (omega arith) (λ q bytes held. held))))
      (inl (still_rows x header is neat table spot has (raised spot.page (drafted x)).image (slot_between x header is neat Catalogue of_all spot on))) (inr gone)

  -- what the strokes of both parts fit
  written : Goes b (drafted x) first
  written = table_written s header is table spot has free_slot refl

  given : Goes b first (all_given ps first)
  given = goes_given b ps first written.keeps (all_pages b (drafted x) first ps written (rows_pages s header is table spot has))

  abbrev rest : Draft
  rest = all_given ps (drafted y)

  parts : all_given ps first ≡ joined first rest
  parts = join_given ps first

  all_fit : AreFitting HasNoRows b (first.strokes ++ rest.strokes)
  all_fit = subst (λ (d : Draft). AreFitting HasNoRows b d.strokes) parts given.keeps.fits.each

  mid_is : (base_after b first.strokes).image ≡ y
  mid_is = written.keeps.fits.is.is

  stays : StaysSound b (base_after b first.strokes)
  stays = fitting_keeps HasNoRows first.strokes b (fitting_front HasNoRows first.strokes rest.strokes b all_fit) header is

  y_header : HasHeader y
  y_header = subst HasHeader mid_is stays.header

  y_sound : IsSoundImage y
  y_sound = subst IsSoundImage mid_is stays.sound

  -- The pages that are given back are no longer of any chain.
  abbrev Away : ℕ → Type 0
  Away q = AllByRecursion (λ (p : ℕ). q ≢ p) ps

  tables_apart : AreDistinct (pages_of_all x (table_chains (used xs)))
  tables_apart =
      let whole : AreDistinct (pages_of_all x (Catalogue ∷ History ∷ table_chains (used xs))) = subst (λ (cs : List Chain). AreDistinct (pages_of_all x cs)) (chains_are x) neat.apart in
      let one = distinct_right (found_pages Catalogue x) (pages_of_all x (History ∷ table_chains (used xs))) (subst AreDistinct (pages_first x Catalogue (History ∷ table_chains (used xs))) whole) in
      distinct_right (found_pages History x) (pages_of_all x (table_chains (used xs))) (subst AreDistinct (pages_first x History (table_chains (used xs))) one)

  front_away : AllByRecursion Away (found_pages Catalogue x ++ found_pages History x)
  front_away =
      let whole : AreDistinct ((found_pages Catalogue x ++ found_pages History x) ++ pages_of_all x (table_chains (used xs))) =
      subst AreDistinct (ap (pages_of_all x) (chains_are x) ∙ fronted x y neat emptied.changes f table spot has.found empty all emptied.spots_then (used xs)) neat.apart in
      all_go (λ q. Absent q (pages_of_all x (table_chains (used xs)))) Away (found_pages Catalogue x ++ found_pages History x)
      (λ q absent. all_go (Contains ps) (λ (p : ℕ). q ≢ p) ps (λ p at e. absent_none q (pages_of_all x (table_chains (used xs))) absent
      (subst (Contains (pages_of_all x (table_chains (used xs)))) (sym e) (pages_among x (table_chains (used xs)) (chain_at spot) p (chain_held x (used xs) spot its.held) at))) (each_held ps))
      (apart_front (found_pages Catalogue x ++ found_pages History x) (pages_of_all x (table_chains (used xs))) whole)

  tables_away : AllByRecursion Away (pages_of_all x (table_chains (used (map f xs))))
  tables_away = each_pages x Away (used (map f xs))
      (all_go (λ u. (u ≢ spot) × ((p : ℕ) → Contains ps p → Contains (found_pages (chain_at u) x) p → u ≡ spot)) (λ u. AllByRecursion Away (found_pages (chain_at u) x)) (used (map f xs))
      (λ u facts. none_shared ps (found_pages (chain_at u) x) (λ p at there. facts.0 (facts.1 p at there)))
      (all_both (λ u. u ≢ spot) (λ u. (p : ℕ) → Contains ps p → Contains (found_pages (chain_at u) x) p → u ≡ spot) (used (map f xs)) (left_other f spot empty xs all its.its_use)
      (left_each f spot empty (λ u. (p : ℕ) → Contains ps p → Contains (found_pages (chain_at u) x) p → u ≡ spot) xs all
      (all_for (λ p u. Contains (found_pages (chain_at u) x) p → u ≡ spot) ps (used xs) (λ p at. once_table x (used xs) spot p tables_apart its.held at)))))

  away : AllByRecursion Away (pages_of_all y (chains y))
  away = pages_left x y neat emptied.changes f table spot has.found empty all emptied.spots_then Away
      (subst (AllByRecursion Away) (sym (fronted x y neat emptied.changes f table spot has.found empty all emptied.spots_then (used (map f xs))))
      (join (found_pages Catalogue x ++ found_pages History x) (pages_of_all x (table_chains (used (map f xs)))) front_away tables_away))
    where
      join : (ks ls : List ℕ) → AllByRecursion Away ks → AllByRecursion Away ls → AllByRecursion Away (ks ++ ls)
      join [] ls a c = c
      join (z ∷ ks) ls a c = (a.0, join ks ls a.1 c)

  still_gone : (z : Image) → ((q : ℕ) (bytes : Page) → Away q → IsHeld q bytes y → IsHeld q bytes z) → length y ≤ length z → GivesRows x z table []
  still_gone z keeps longer =
      let changes = these_stay y y_header y_sound gone.neat z longer Away away keeps in
      record {
        neat = stays_neat y z gone.neat History no_catalogue_history changes (λ first e. cc);
        its = other_rows y z gone.neat History no_catalogue_history changes table (λ w found e. cc) ∙ gone.its;
        others = λ other ne. other_rows y z gone.neat History no_catalogue_history changes other (λ w found e. cc) ∙ gone.others other ne;
      }

  rest_facts : Along (λ z. ((q : ℕ) (bytes : Page) → Away q → IsHeld q bytes y → IsHeld q bytes z) × (length y ≤ length z)) (base_after b first.strokes) rest.strokes
  rest_facts = both_along _ _ (base_after b first.strokes) rest.strokes
      (these_along Away y (base_after b first.strokes) rest.strokes
      (λ q bytes off held. given_along q bytes ps (base_after b first.strokes) y mid_is (header_whole y y_header y_sound) (all_pages b (drafted x) first ps written (rows_pages s header is table spot has)) off held))
      (longer_along HasNoRows (length y) (base_after b first.strokes) rest.strokes (fitting_rest HasNoRows first.strokes rest.strokes b all_fit) (header_whole _ stays.header stays.sound) (omega (arith, ap length mid_is)))

  rest_along : Along Gives (base_after b first.strokes) rest.strokes
  rest_along = along_more _ Gives (base_after b first.strokes) rest.strokes (λ z facts. inr (still_gone z facts.0 facts.1)) rest_facts

  -- what stands after all strokes
  end_is : (base_after (base_after b first.strokes) rest.strokes).image ≡ rest.image
  end_is = ap (λ (c : Base). c.image) (sym (base_after-append b first.strokes rest.strokes)) ∙ ap (λ (d : Draft). (base_after b d.strokes).image) (sym parts) ∙ given.keeps.fits.is.is ∙ ap (λ (d : Draft). d.image) parts

  abbrev Keeps_away : Image → Type 0
  Keeps_away z = ((q : ℕ) (bytes : Page) → Away q → IsHeld q bytes y → IsHeld q bytes z) × (length y ≤ length z)

  at_end : Keeps_away rest.image
  at_end = subst Keeps_away end_is (along_end Keeps_away (base_after b first.strokes) rest.strokes rest_facts)

  pub drop_turn_rows : IsTurnOfRows b table [] (dropped x spot)
  drop_turn_rows = subst (IsTurnOfRows b table []) (sym parts) (record { along = along_append Gives b first.strokes rest.strokes first_along rest_along; behind = still_gone rest.image at_end.0 at_end.1 })

  -- and the catalogue hasn't it then
  pub drop_gone : table_spot table (dropped x spot).image ≡ None
  drop_gone =
      ap (λ (d : Draft). table_spot table d.image) parts
      ∙ same_table y rest.image gone.neat History no_catalogue_history (these_stay y y_header y_sound gone.neat rest.image at_end.1 Away away at_end.0) table
      ∙ not_there x y neat emptied.changes f table spot has.found empty all emptied.spots_then
