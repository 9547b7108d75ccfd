-- What a backup does to the history and to the tables, at each of its strokes: room is made for a row, the backup begins, the row is written, and
-- the backup ends. Tables keep their rows, chains stay apart, and each backup that was named stays named.
use Rattle.std.proofs.Common.{◌≡◌, ◌⊎◌, inl, inr, ℕ, zero, suc, ◌+◌, ◌-◌, ◌*◌, ◌/◌, ◌≤◌, List, [], ◌∷◌, ◌++◌, map, length, take, drop, refl, sym, ap, subst, ◌∙◌, arith, append_assoc, Bool, true, false, ◌&&◌, ◌||◌, ◌==◌, nat_le, slice_index, Option, Some, None, is_some, Contains}
use Rattle.nb_model.proofs.Common.{AllByRecursion, true≢false, none_in, is_kind, drop_at, and_parts, and_from, le-leb, take_at, Contains-append_left, same_self, same_name, is_name, bytes_of, number_in, padded, number_of-bytes_of, with_part, SizeFacts, size_facts, Ask, Base, Room, room_in, needs_taken, Draft, drafted, needs, raised, is_free_page, inventory_of, scn_page_of, put_slot, grown, History, Slot, Spot, is_used, is_slot, length_in, guid_in, slots_from, slots_in, spots_on, spots_of, spots, last_such, free_spot, backup_spot, backup_slot, pages_of, found_pages, broken_at, Page, Image, page_at, image_size, image_state, image_scn, image_guid, stalled_state, normal_state, merge_state, KeepsRows, rows, chains, IsNeat, HasHeader, IsSoundImage, Stroke, begin, ends, finish, on_base, base_after, with_control, all_go}
use Rattle.nb_model.specs.Chains.{file_in}
use Rattle.nb_model.specs.HistoryRows.{names_backup, KeepsBackups, HasFreeRow}
use Rattle.nb_model.proofs.Along.{Along, along_front, along_append, along_more, along_end, put_along}
use Rattle.nb_model.proofs.ChainWalks.{StaysLinked, linked_same}
use Rattle.nb_model.proofs.ControlMay.{may_begin, may_end, may_finish}
use Rattle.nb_model.proofs.ControlSound.{MayControl, control_rest, control_long, new_size, new_free}
use Rattle.nb_model.proofs.DraftLaws.{IsOf, drafts_are, drafted_is, slot_keeps}
use Rattle.nb_model.proofs.FitLaws.{IsWhole, AreFitting, fitting_stays}
use Rattle.nb_model.proofs.FoundSpots.{each_held}
use Rattle.nb_model.proofs.GoingLaws.{name_short}
use Rattle.nb_model.proofs.HeldChains.{KeepsEach, IsHeldIn, IsFormed, all_formed, same_spots, nothing_changes, ok_none}
use Rattle.nb_model.proofs.HeldLaws.{held_by}
use Rattle.nb_model.proofs.NeatGrows.{grown_stays_neat, grown_others}
use Rattle.nb_model.proofs.NeatLaws.{chains_are, stays_neat, other_rows, no_catalogue_history, ChangesChain}
use Rattle.nb_model.proofs.NewSlots.{IsFree, free_is_unused}
use Rattle.nb_model.proofs.PutSound.{IsPlain, Raises, header_whole, needs_image}
use Rattle.nb_model.proofs.HeldRoom.{needs_image_same}
use Rattle.nb_model.proofs.StrokeLaws.{base_after-append}
use Rattle.nb_model.proofs.RoomLaws.{AnyPage, any_history, room_fits, first_passes, backup_length}
use Rattle.nb_model.proofs.RoomThere.{room_keeps}
use Rattle.nb_model.proofs.RoomTurns.{y as grown_image, n as new_number, m as made_image, m_whole, is_new, free as all_free, more as more_spots, grown_spots, grows, grown_along, grown_end, last as last_page, last_in, of_all as in_all}
use Rattle.nb_model.proofs.RoundLaws.{raises}
use Rattle.nb_model.proofs.SlotPuts.{held_at, raised_keeps, spot_plain, IsSlotPut, slot_put}
use Rattle.nb_model.proofs.SoundLaws.{all_at}
use Rattle.nb_model.proofs.SoundTurns.{StaysSound, fitting_keeps}
use Rattle.nb_model.proofs.SpotLaws.{IsSpotOn, all_on}
use Rattle.nb_model.proofs.SpotMaps.{ChangesOne, is_free_slot, free_unused, such_passes}
use Rattle.nb_model.proofs.SpotWrites.{put_at, put_it, all_change}
use Rattle.nb_model.proofs.TrimLaws.{finish_full}
use Rattle.nb_model.proofs.BackupWell.{row_guid}

-- one of these passes the test
record IsIn (test : Spot → Bool) (xs : List Spot) : Type 0 where
  u : Spot
  at : Contains xs u
  passes : test u ≡ true

there_is : (test : Spot → Bool) (xs : List Spot) → is_some (last_such test xs) ≡ true → IsIn test xs
unfolding last_such
there_is test [] e = absurd (true≢false (sym e))
there_is test (x ∷ xs) e = by (λ h. there_is test xs h) (last_such test xs) refl e
  where
    later : (u : Spot) → Contains xs u → Contains (x ∷ xs) u
    later u (k, low, is) = (suc k, omega (arith, low), is)

    here : (t : Bool) → test x ≡ t → is_some (elim t as (λ z. Option Spot) [ true ↦ Some x | false ↦ None ]) ≡ true → IsIn test (x ∷ xs)
    here true is e = record { u = x; at = (0, omega arith, refl); passes = is }
    here false is e = absurd (true≢false (sym e))

    by : (is_some (last_such test xs) ≡ true → IsIn test xs) → (o : Option Spot) → last_such test xs ≡ o
        → is_some (elim o as (λ z. Option Spot) [ Some z ↦ Some z | None ↦ elim (test x) as (λ w. Option Spot) [ true ↦ Some x | false ↦ None ] ]) ≡ true → IsIn test (x ∷ xs)
    by rest (Some z) is e = let w : IsIn test xs = rest (ap is_some is) in record { u = w.u; at = later w.u w.at; passes = w.passes }
    by rest None is e = here (test x) refl e

found_in : (test : Spot → Bool) (xs : List Spot) (u : Spot) → Contains xs u → test u ≡ true → is_some (last_such test xs) ≡ true
unfolding last_such
found_in test [] u at is = absurd (none_in u at)
found_in test (x ∷ xs) u at is = by (λ h. found_in test xs u h is) (last_such test xs) refl at
  where
    own : (t : Bool) → test x ≡ t → x ≡ u → is_some (elim t as (λ z. Option Spot) [ true ↦ Some x | false ↦ None ]) ≡ true
    own true e same = refl
    own false e same = absurd (true≢false (sym is ∙ ap test (sym same) ∙ e))

    by : (Contains xs u → is_some (last_such test xs) ≡ true) → (o : Option Spot) → last_such test xs ≡ o → Contains (x ∷ xs) u
        → is_some (elim o as (λ z. Option Spot) [ Some z ↦ Some z | None ↦ elim (test x) as (λ w. Option Spot) [ true ↦ Some x | false ↦ None ] ]) ≡ true
    by rest (Some z) e at = refl
    by rest None e (zero, low, same) = own (test x) refl same
    by rest None e (suc k, low, same) = absurd (true≢false (sym (rest (k, omega (arith, low), same)) ∙ ap is_some e))

-- A backup stays named where each row that is there stays.
pub named_by : (x y : Image) → ((u : Spot) → Contains (spots History x) u → is_used u.bytes ≡ true → Contains (spots History y) u) → (guid : List ℕ) → names_backup x guid ≡ true → names_backup y guid ≡ true
unfolding backup_spot
named_by x y stays guid e =
    let test : Spot → Bool = λ s. is_used s.bytes && same_name (guid_in s.bytes) guid in
    let w : IsIn test (spots History x) = there_is test (spots History x) e in
    found_in test (spots History y) w.u (stays w.u w.at (and_parts (is_used w.u.bytes) _ w.passes).0) w.passes

-- What is carried on from one image to another.
pub record Carries (x z : Image) : Type 0 where
  pub neat : IsNeat z
  pub rows : (table : List ℕ) → rows z table ≡ rows x table
  pub names : (guid : List ℕ) → names_backup x guid ≡ true → names_backup z guid ≡ true

carries_both : (x y z : Image) → Carries x y → Carries y z → Carries x z
carries_both x y z a b = record { neat = b.neat; rows = λ table. b.rows table ∙ a.rows table; names = λ guid e. b.names guid (a.names guid e) }

pub rows_along : (b : Base) (ss : List Stroke) → Along (Carries b.image) b ss → KeepsRows b ss
rows_along b ss along = record { neat = λ k. (along_front (Carries b.image) b ss along k).neat; rows = λ k. (along_front (Carries b.image) b ss along k).rows }

pub names_along : (b : Base) (ss : List Stroke) → Along (Carries b.image) b ss → KeepsBackups b ss
names_along b ss along = record { each = λ k. (along_front (Carries b.image) b ss along k).names }

module _ (x : Image) (header : HasHeader x) (is : IsSoundImage x) (neat : IsNeat x) where
  formed : IsFormed x header is neat History
  formed = (subst (AllByRecursion (IsFormed x header is neat)) (chains_are x) (all_formed x header is neat)).1.0

  pub unbroken : broken_at (pages_of History x) ≡ None
  unbroken = ok_none (pages_of History x) formed.pages formed.are

  itself : Carries x x
  itself = record { neat = neat; rows = λ table. refl; names = λ guid e. e }

  -- Where each page that is held is kept, the history has the same rows.
  module _ (z : Image) (keeps : KeepsEach x z) (longer : length x ≤ length z) where
    pub history_same : spots History z ≡ spots History x
    history_same = same_spots x header is neat z longer History formed
        (all_go (IsHeldIn History x) (λ q. page_at z q ≡ page_at x q) (found_pages History x) (λ q at. (keeps q (page_at x q) at.held).is) formed.each)
        (all_go (IsHeldIn History x) (StaysLinked History x z) (found_pages History x) (λ q at. linked_same History x z q longer at.in_it (keeps q (page_at x q) at.held).is) formed.each)

    pub carries_each : Carries x z
    carries_each =
        let still : ChangesChain History x z = nothing_changes x header is neat z longer keeps in
        record {
          neat = stays_neat x z neat History no_catalogue_history still (λ first e. cc);
          rows = λ table. other_rows x z neat History no_catalogue_history still table (λ u found e. cc);
          names = named_by x z (λ u at used. subst (λ (us : List Spot). Contains us u) (sym history_same) at);
        }

-- reading needs no stroke
needs_strokes : (kind q : ℕ) (d : Draft) → (needs kind q d).strokes ≡ d.strokes
unfolding needs
needs_strokes kind q d = by (is_kind d.image kind q)
  where
    by : (t : Bool) → (elim t as (λ z. Draft) [ true ↦ d | false ↦ record d { broken = q ∷ d.broken } ]).strokes ≡ d.strokes
    by true = refl
    by false = refl

taken_strokes : (q : ℕ) (d : Draft) → (needs_taken q d).strokes ≡ d.strokes
unfolding needs_taken
taken_strokes q d = by (is_free_page d.image q)
  where
    by : (t : Bool) → (elim t as (λ z. Draft) [ true ↦ record d { broken = q ∷ d.broken } | false ↦ d ]).strokes ≡ d.strokes
    by true = refl
    by false = refl

each_in : (xs : List Spot) → AllByRecursion (Contains xs) xs
each_in xs = from xs (λ u at. at)
  where
    from : (us : List Spot) → ((u : Spot) → Contains us u → Contains xs u) → AllByRecursion (Contains xs) us
    from [] among = tt
    from (u ∷ us) among = (among u (0, omega arith, refl), from us (λ r at. among r (later r at)))
      where
        later : (r : Spot) → Contains us r → Contains (u ∷ us) r
        later r (k, low, is) = (suc k, omega (arith, low), is)

slots_many : (count at : ℕ) (page : Page) → length (slots_from count at page) ≡ count
unfolding slots_from
slots_many zero at page = refl
slots_many (suc count) at page = let rest = slots_many count (at + 256) page in omega (arith, rest)

slots_some : (page : Page) → 1024 ≤ length page → 1 ≤ length (slots_in page)
unfolding slots_in
slots_some page long = let many = slots_many ((length page - 32) / 256) 32 page in omega (arith, many, long)

-- the first slot of a page
record IsFirstOn (p : ℕ) (ss : List Slot) : Type 0 where
  bytes : Slot
  there : Contains (spots_on p 0 ss) (record { page = p; slot = 0; bytes = bytes })
  free : is_used bytes ≡ false

first_on : (p : ℕ) (ss : List Slot) → 1 ≤ length ss → AllByRecursion IsFree ss → IsFirstOn p ss
unfolding spots_on
first_on p [] some free = absurd (omega (arith, some))
first_on p (s ∷ ss) some free = record { bytes = s; there = (0, omega arith, refl); free = free_is_unused s free.0 }

append_right : (xs ys : List Spot) (u : Spot) → Contains ys u → Contains (xs ++ ys) u
append_right [] ys u at = at
append_right (x ∷ xs) ys u at = let rest : Contains (xs ++ ys) u = append_right xs ys u at in (suc rest.0, omega (arith, rest.1), rest.2)

-- Room is made for a row.
module _ (b : Base) (header : HasHeader b.image) (is : IsSoundImage b.image) (neat : IsNeat b.image) (full : (room_in b.image).draft.full ≡ false) where
  abbrev x : Image
  x = b.image

  abbrev room_by : Option Spot → Room
  room_by o = elim o as (λ z. Room) [
    | Some s ↦ record { draft = needs_taken s.page (needs 10 (scn_page_of x s.page) (needs 2 (inventory_of x s.page) (drafted x))); page = s.page; slot = s.slot }
    | None ↦ record { draft = (grown History (found_pages History x) [] (drafted x)).0; page = (grown History (found_pages History x) [] (drafted x)).1; slot = 0 }
  ]

  none_read : (s : Spot) → (needs_taken s.page (needs 10 (scn_page_of x s.page) (needs 2 (inventory_of x s.page) (drafted x)))).strokes ≡ []
  none_read s =
      taken_strokes s.page (needs 10 (scn_page_of x s.page) (needs 2 (inventory_of x s.page) (drafted x)))
      ∙ needs_strokes 10 (scn_page_of x s.page) (needs 2 (inventory_of x s.page) (drafted x)) ∙ needs_strokes 2 (inventory_of x s.page) (drafted x)

  read_image : (s : Spot) → (needs_taken s.page (needs 10 (scn_page_of x s.page) (needs 2 (inventory_of x s.page) (drafted x)))).image ≡ x
  read_image s =
      let read : Draft = needs 2 (inventory_of x s.page) (drafted x) in
      needs_image_same s.page (needs 10 (scn_page_of x s.page) read) ∙ needs_image 10 (scn_page_of x s.page) read ∙ needs_image 2 (inventory_of x s.page) (drafted x)

  -- a page more
  module _ (left : (grown History (found_pages History x) [] (drafted x)).0.full ≡ false) where
    abbrev y : Image
    y = grown_image b header is neat (unbroken x header is neat) left

    abbrev n : ℕ
    n = new_number b header is neat (unbroken x header is neat) left

    abbrev last : ℕ
    last = last_page b header is neat (unbroken x header is neat) left

    longer_spots : spots History y ≡ spots History x ++ more_spots b header is neat (unbroken x header is neat) left
    longer_spots = grown_spots b header is neat (unbroken x header is neat) left

    then : Carries x y
    then = record {
      neat = grown_stays_neat x y neat History n no_catalogue_history (in_all b header is neat (unbroken x header is neat) left) last (last_in b header is neat (unbroken x header is neat) left) (grows b header is neat (unbroken x header is neat) left) (λ first e. cc);
      rows = λ table. grown_others x y neat History n no_catalogue_history (in_all b header is neat (unbroken x header is neat) left) last (last_in b header is neat (unbroken x header is neat) left) (grows b header is neat (unbroken x header is neat) left) table (λ u found e. cc);
      names = named_by x y (λ u at used. subst (λ (us : List Spot). Contains us u) (sym longer_spots) (Contains-append_left (spots History x) (more_spots b header is neat (unbroken x header is neat) left) u at));
    }

    grown_carries : Along (Carries x) b (grown History (found_pages History x) [] (drafted x)).0.strokes
    grown_carries = grown_along b header is neat (unbroken x header is neat) left (Carries x) (λ z keeps longer. carries_each x header is neat z keeps longer) then

    grown_is : (grown History (found_pages History x) [] (drafted x)).0.image ≡ y
    grown_is = grown_end b header is neat (unbroken x header is neat) left (Carries x) (λ z keeps longer. carries_each x header is neat z keeps longer) then

    abbrev made_page : Page
    made_page = page_at (made_image b header is neat (unbroken x header is neat) left) n

    page_long : 1024 ≤ length made_page
    page_long =
        let whole : IsWhole (made_image b header is neat (unbroken x header is neat) left) = m_whole b header is neat (unbroken x header is neat) left in
        let size : SizeFacts (image_size (made_image b header is neat (unbroken x header is neat) left)) = size_facts (image_size (made_image b header is neat (unbroken x header is neat) left)) whole.fields.size in
        omega (arith, size.at_least, all_at (λ page. length page ≡ image_size (made_image b header is neat (unbroken x header is neat) left)) (made_image b header is neat (unbroken x header is neat) left) whole.sound.sizes n (is_new b header is neat (unbroken x header is neat) left).below)

    new_place : HasFreeRow y n 0
    new_place =
        let first : IsFirstOn n (slots_in made_page) = first_on n (slots_in made_page) (slots_some made_page page_long) (all_free b header is neat (unbroken x header is neat) left) in
        record {
          bytes = first.bytes;
          there = subst (λ (us : List Spot). Contains us (record { page = n; slot = 0; bytes = first.bytes })) (sym longer_spots) (append_right (spots History x) (spots_on n 0 (slots_in made_page)) _ first.there);
          free = first.free;
        }

  pub room_along : Along (Carries x) b (room_in x).draft.strokes
  unfolding room_in
  room_along = by (free_spot (spots History x)) full
    where
      by : (o : Option Spot) → (room_by o).draft.full ≡ false → Along (Carries x) b (room_by o).draft.strokes
      by (Some s) left = subst (Along (Carries x) b) (sym (none_read s)) (itself x header is neat)
      by None left = grown_carries left

  -- and there is a slot for the row then
  place_drafted : HasFreeRow (room_in x).draft.image (room_in x).page (room_in x).slot
  unfolding room_in free_spot grown
  place_drafted = by (free_spot (spots History x)) refl full
    where
      by : (o : Option Spot) → free_spot (spots History x) ≡ o → (room_by o).draft.full ≡ false → HasFreeRow (room_by o).draft.image (room_by o).page (room_by o).slot
      by (Some s) found left = subst (λ (z : Image). HasFreeRow z s.page s.slot) (sym (read_image s)) (record { bytes = s.bytes; there = first_passes is_free_slot (Contains (spots History x)) (spots History x) s found (each_in (spots History x)); free = free_unused s (such_passes is_free_slot (spots History x) s found) })
      by None found left = subst (λ (z : Image). HasFreeRow z (n left) 0) (sym (grown_is left)) (new_place left)

  pub room_place : HasFreeRow (base_after b (room_in x).draft.strokes).image (room_in x).page (room_in x).slot
  room_place = subst (λ (z : Image). HasFreeRow z (room_in x).page (room_in x).slot) (sym (room_keeps (IsOf b) (drafts_are b) x (drafted_is b)).is) place_drafted

  -- each slot that was there is there still
  slots_drafted : (u : Spot) → Contains (spots History x) u → Contains (spots History (room_in x).draft.image) u
  unfolding room_in grown
  slots_drafted u at = by (free_spot (spots History x)) full
    where
      by : (o : Option Spot) → (room_by o).draft.full ≡ false → Contains (spots History (room_by o).draft.image) u
      by (Some s) left = subst (λ (z : Image). Contains (spots History z) u) (sym (read_image s)) at
      by None left = subst (λ (z : Image). Contains (spots History z) u) (sym (grown_is left))
          (subst (λ (us : List Spot). Contains us u) (sym (longer_spots left)) (Contains-append_left (spots History x) (more_spots b header is neat (unbroken x header is neat) left) u at))

  pub room_slots : (u : Spot) → Contains (spots History x) u → Contains (spots History (base_after b (room_in x).draft.strokes).image) u
  room_slots u at = subst (λ (z : Image). Contains (spots History z) u) (sym (room_keeps (IsOf b) (drafts_are b) x (drafted_is b)).is) (slots_drafted u at)

in_map : (f : Spot → Spot) (xs : List Spot) (u : Spot) → Contains xs u → Contains (map f xs) (f u)
in_map f [] u at = absurd (none_in u at)
in_map f (x ∷ xs) u (zero, low, is) = (0, omega arith, ap f is)
in_map f (x ∷ xs) u (suc k, low, is) = let rest : Contains (map f xs) (f u) = in_map f xs u (k, omega (arith, low), is) in (suc rest.0, omega (arith, rest.1), rest.2)

-- The row is written.
module _ (b : Base) (header : HasHeader b.image) (is : IsSoundImage b.image) (neat : IsNeat b.image) (page slot : ℕ) (place : HasFreeRow b.image page slot) (bytes : Slot) (long : length bytes ≡ 256) (fits : is_slot History bytes ≡ true) where
  abbrev s : Spot
  s = record { page = page; slot = slot; bytes = place.bytes }

  abbrev f : Spot → Spot
  f = put_at page slot bytes

  of_all : Contains (chains b.image) History
  of_all = subst (λ cs. Contains cs History) (sym (chains_are b.image)) (1, omega arith, refl)

  on : IsSpotOn (Contains (found_pages History b.image)) b.image s
  unfolding spots
  on = held_at (IsSpotOn (Contains (found_pages History b.image)) b.image) (spots_of b.image (found_pages History b.image)) s place.there (all_on (Contains (found_pages History b.image)) b.image (found_pages History b.image) (each_held (found_pages History b.image)))

  changes : AllByRecursion (ChangesOne f s) (spots History b.image)
  unfolding spots
  changes = all_change page slot bytes (Contains (found_pages History b.image)) b.image s on refl refl (found_pages History b.image) (each_held (found_pages History b.image))

  abbrev put_image : Image
  put_image = (put_slot page slot bytes (drafted b.image)).image

  its_put : IsSlotPut History s bytes b.image put_image
  its_put = slot_put b.image header is neat History of_all s on bytes long fits

  moved : (u : Spot) → Contains (spots History b.image) u → is_used u.bytes ≡ true → Contains (spots History put_image) u
  moved u at used = subst (λ (us : List Spot). Contains us u) (sym its_put.spots_then) (by (held_at (ChangesOne f s) (spots History b.image) u at changes))
    where
      by : (f u ≡ u) ⊎ (u ≡ s) → Contains (map f (spots History b.image)) u
      by (inl same) = subst (Contains (map f (spots History b.image))) same (in_map f (spots History b.image) u at)
      by (inr is) = absurd (true≢false (sym used ∙ ap (λ (v : Spot). is_used v.bytes) is ∙ place.free))

  row_carries : Carries b.image put_image
  row_carries = record {
    neat = stays_neat b.image put_image neat History no_catalogue_history its_put.changes (λ first e. cc);
    rows = λ table. other_rows b.image put_image neat History no_catalogue_history its_put.changes table (λ u found e. cc);
    names = named_by b.image put_image moved;
  }

  between : Carries b.image (raised page (drafted b.image)).image
  between =
      let whole : IsWhole b.image = header_whole b.image header is in
      let plain : IsPlain b.image page = spot_plain b.image header is neat History of_all s on in
      let r : Raises b.image (raised page (drafted b.image)).image page = raises b.image whole page plain.place in
      carries_each b.image header is neat (raised page (drafted b.image)).image (raised_keeps b.image whole page plain.place) (omega (arith, r.long))

  pub row_along : Along (Carries b.image) b (put_slot page slot bytes (drafted b.image)).strokes
  unfolding put_slot
  row_along = put_along (Carries b.image) b b.image page 5 (drop 16 (with_part (32 + 256 * slot) bytes (page_at b.image page))) refl (itself b.image header is neat) between row_carries

  pub row_named : is_used bytes ≡ true → names_backup (base_after b (put_slot page slot bytes (drafted b.image)).strokes).image (guid_in bytes) ≡ true
  unfolding backup_spot
  row_named used =
      let test : Spot → Bool = λ v. is_used v.bytes && same_name (guid_in v.bytes) (guid_in bytes) in
      subst (λ (z : Image). is_some (last_such test (spots History z)) ≡ true) (sym (slot_keeps (IsOf b) (drafts_are b) page slot bytes (drafted b.image) (drafted_is b)).is)
      (found_in test (spots History put_image) (record { page = page; slot = slot; bytes = bytes })
      (subst (λ (us : List Spot). Contains us (record { page = page; slot = slot; bytes = bytes })) (sym its_put.spots_then)
      (subst (Contains (map f (spots History b.image))) (put_it page slot bytes s refl refl) (in_map f (spots History b.image) s place.there)))
      (and_from (is_used bytes) _ used (same_self (guid_in bytes))))

-- The slot of a row of the history.
backup_used : (level scn time : ℕ) (guid name : List ℕ) → is_used (backup_slot level scn time guid name) ≡ true
unfolding backup_slot padded
backup_used level scn time guid name = refl

backup_name_length : (level scn time : ℕ) (guid name : List ℕ) → length name ≤ 100 → length_in (backup_slot level scn time guid name) ≡ length name
unfolding backup_slot padded number_in bytes_of
backup_name_length level scn time guid name short = number_of-bytes_of 2 (length name) (omega (arith, short))

backup_rest : (level scn time n : ℕ) (guid name : List ℕ) → length guid ≡ 16 → length name ≡ n → take n (drop 32 (backup_slot level scn time guid name)) ≡ name
unfolding backup_slot padded bytes_of
backup_rest level scn time n guid name sixteen named =
    ap (λ (xs : List ℕ). take n (drop 16 xs)) (append_assoc guid name _) ∙ ap (take n) (drop_at guid _ 16 sixteen) ∙ take_at name _ n named

backup_name : (level scn time : ℕ) (guid name : List ℕ) → length guid ≡ 16 → length name ≤ 100 → file_in (backup_slot level scn time guid name) ≡ name
backup_name level scn time guid name sixteen short = backup_rest level scn time (length_in (backup_slot level scn time guid name)) guid name sixteen (sym (backup_name_length level scn time guid name short))

backup_fits : (level scn time : ℕ) (guid name : List ℕ) → length guid ≡ 16 → is_name name ≡ true → is_slot History (backup_slot level scn time guid name) ≡ true
unfolding is_slot
backup_fits level scn time guid name sixteen named =
    let row : Slot = backup_slot level scn time guid name in
    let short : length name ≤ 100 = name_short name named in
    either row (slice_index row 0 == 0) (and_from (is_used row) _ (backup_used level scn time guid name)
    (and_from (nat_le (length_in row) 100) _ (le-leb (length_in row) 100 (omega (arith, backup_name_length level scn time guid name short, short))) (ap is_name (backup_name level scn time guid name sixteen short) ∙ named)))
  where
    either : (row : Slot) (t : Bool) → (is_used row && (nat_le (length_in row) 100 && is_name (file_in row))) ≡ true → (t || (is_used row && (nat_le (length_in row) 100 && is_name (file_in row)))) ≡ true
    either row true e = refl
    either row false e = e

-- so of a backup that closes
module _ (b : Base) (header : HasHeader b.image) (is : IsSoundImage b.image) (neat : IsNeat b.image) (page slot : ℕ) (place : HasFreeRow b.image page slot) (level scn time : ℕ) (guid name : List ℕ) (sixteen : length guid ≡ 16) (named : is_name name ≡ true) where
  abbrev bytes : Slot
  bytes = backup_slot level scn time guid name

  long : length bytes ≡ 256
  long = let short : length name ≤ 100 = name_short name named in backup_length level scn time guid name sixteen (omega (arith, short))

  pub backup_along : Along (Carries b.image) b (put_slot page slot bytes (drafted b.image)).strokes
  backup_along = row_along b header is neat page slot place bytes long (backup_fits level scn time guid name sixteen named)

  pub backup_named : names_backup (base_after b (put_slot page slot bytes (drafted b.image)).strokes).image guid ≡ true
  backup_named = subst (λ (g : List ℕ). names_backup (base_after b (put_slot page slot bytes (drafted b.image)).strokes).image g ≡ true) (row_guid level scn time guid name sixteen)
      (row_named b header is neat page slot place bytes long (backup_fits level scn time guid name sixteen named) (backup_used level scn time guid name))

-- Page 0 gets another state, SCN and GUID.
module _ (b : Base) (header : HasHeader b.image) (is : IsSoundImage b.image) (neat : IsNeat b.image) where
  module _ (state scn : ℕ) (guid : List ℕ) (may : MayControl state scn guid b.image) where
    controls : KeepsEach b.image (with_control state scn guid b.image)
    controls q bytes held =
        held_by q bytes b.image (with_control state scn guid b.image) (new_size state scn guid b.image header is may) (omega (arith, control_long state scn guid b.image)) (control_rest state scn guid b.image q held.behind) (new_free state scn guid b.image header is may q) held

    control_along : (s : Stroke) → (on_base s b).image ≡ with_control state scn guid b.image → Along (Carries b.image) b (s ∷ [])
    control_along s same = (itself b.image header is neat, subst (Carries b.image) (sym same) (carries_each b.image header is neat (with_control state scn guid b.image) controls (omega (arith, control_long state scn guid b.image))))

    control_history : (s : Stroke) → (on_base s b).image ≡ with_control state scn guid b.image → spots History (on_base s b).image ≡ spots History b.image
    control_history s same = ap (spots History) same ∙ history_same b.image header is neat (with_control state scn guid b.image) controls (omega (arith, control_long state scn guid b.image))

  pub begin_along : (guid : List ℕ) (ask : Option Ask) → image_scn b.image ≤ 4294967293 → length guid ≡ 16 → Along (Carries b.image) b (begin guid ask ∷ [])
  unfolding on_base
  begin_along guid ask scn sixteen = control_along stalled_state (image_scn b.image + 1) guid (may_begin b.image header guid sixteen scn) (begin guid ask) refl

  pub begin_place : (guid : List ℕ) (ask : Option Ask) (page slot : ℕ) → image_scn b.image ≤ 4294967293 → length guid ≡ 16 → HasFreeRow b.image page slot → HasFreeRow (on_base (begin guid ask) b).image page slot
  unfolding on_base
  begin_place guid ask page slot scn sixteen place = record {
    bytes = place.bytes;
    there = subst (λ (us : List Spot). Contains us (record { page = page; slot = slot; bytes = place.bytes })) (sym (control_history stalled_state (image_scn b.image + 1) guid (may_begin b.image header guid sixteen scn) (begin guid ask) refl)) place.there;
    free = place.free;
  }

  pub begin_history : (guid : List ℕ) (ask : Option Ask) → image_scn b.image ≤ 4294967293 → length guid ≡ 16 → spots History (on_base (begin guid ask) b).image ≡ spots History b.image
  unfolding on_base
  begin_history guid ask scn sixteen = control_history stalled_state (image_scn b.image + 1) guid (may_begin b.image header guid sixteen scn) (begin guid ask) refl

  pub ends_history : image_state b.image ≡ stalled_state → spots History (on_base ends b).image ≡ spots History b.image
  unfolding on_base
  ends_history stalled = control_history merge_state (image_scn b.image + 1) (image_guid b.image) (may_end b.image header stalled) ends refl

  pub finish_history : spots History (on_base finish b).image ≡ spots History b.image
  finish_history = control_history normal_state (image_scn b.image) (image_guid b.image) (may_finish b.image header) finish (ap (λ (c : Base). c.image) (finish_full b is.sound.no_zeros))

  pub ends_along : image_state b.image ≡ stalled_state → Along (Carries b.image) b (ends ∷ [])
  unfolding on_base
  ends_along stalled = control_along merge_state (image_scn b.image + 1) (image_guid b.image) (may_end b.image header stalled) ends refl

  pub finish_along : Along (Carries b.image) b (finish ∷ [])
  finish_along = control_along normal_state (image_scn b.image) (image_guid b.image) (may_finish b.image header) finish (ap (λ (c : Base). c.image) (finish_full b is.sound.no_zeros))

-- The start of a backup: room for its row, and its begin.
module _ (b : Base) (header : HasHeader b.image) (is : IsSoundImage b.image) (neat : IsNeat b.image) (full : (room_in b.image).draft.full ≡ false) (guid : List ℕ) (ask : Ask) (low : image_scn b.image ≤ 4294967293) (sixteen : length guid ≡ 16) where
  abbrev ss : List Stroke
  ss = (room_in b.image).draft.strokes

  abbrev mid : Base
  mid = base_after b ss

  each : AreFitting AnyPage b ss
  each = (room_fits b header is (unbroken b.image header is neat) AnyPage any_history (λ p there. tt) full).each

  stays : StaysSound b mid
  stays = fitting_keeps AnyPage ss b each header is

  scn : image_scn mid.image ≤ 4294967293
  scn = omega (arith, (fitting_stays AnyPage ss b each (header_whole b.image header is)).scn, low)

  at_mid : Carries b.image mid.image
  at_mid = along_end (Carries b.image) b ss (room_along b header is neat full)

  pub start_along : Along (Carries b.image) b (ss ++ begin guid (Some ask) ∷ [])
  start_along = along_append (Carries b.image) b ss (begin guid (Some ask) ∷ []) (room_along b header is neat full)
      (along_more (Carries mid.image) (Carries b.image) mid (begin guid (Some ask) ∷ []) (λ z h. carries_both b.image mid.image z at_mid h) (begin_along mid stays.header stays.sound at_mid.neat guid (Some ask) scn sixteen))

  pub start_place : HasFreeRow (base_after b (ss ++ begin guid (Some ask) ∷ [])).image (room_in b.image).page (room_in b.image).slot
  unfolding base_after
  start_place = subst (λ (c : Base). HasFreeRow c.image (room_in b.image).page (room_in b.image).slot) (sym (base_after-append b ss (begin guid (Some ask) ∷ [])))
      (last_one mid (begin guid (Some ask)) (begin_place mid stays.header stays.sound at_mid.neat guid (Some ask) (room_in b.image).page (room_in b.image).slot scn sixteen (room_place b header is neat full)))
    where
      last_one : (c : Base) (s : Stroke) → HasFreeRow (on_base s c).image (room_in b.image).page (room_in b.image).slot → HasFreeRow (base_after c (s ∷ [])).image (room_in b.image).page (room_in b.image).slot
      last_one c s h = h

  pub start_slots : (u : Spot) → Contains (spots History b.image) u → Contains (spots History (base_after b (ss ++ begin guid (Some ask) ∷ [])).image) u
  unfolding base_after
  start_slots u at = subst (λ (c : Base). Contains (spots History c.image) u) (sym (base_after-append b ss (begin guid (Some ask) ∷ [])))
      (subst (λ (us : List Spot). Contains us u) (sym (begin_history mid stays.header stays.sound at_mid.neat guid (Some ask) scn sixteen)) (room_slots b header is neat full u at))
