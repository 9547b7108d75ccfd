-- The start and the close of a backup keep what was seen well: the row that the close writes names the record that the begin has kept.
use Rattle.std.proofs.Common.{◌≡◌, inl, inr, ℕ, ◌+◌, ◌*◌, ◌<◌, ◌≤◌, List, [], ◌∷◌, ◌++◌, length, take, drop, refl, sym, ap, subst, ◌∙◌, arith, append_assoc, Bool, true, false, ◌&&◌, Option, Some, None, Contains}
use Rattle.nb_model.proofs.Common.{AllByRecursion, and_parts, cases_lt, take_at, Contains-append_right, bytes_of, number_in, padded, with_part, stamped, number_of-bytes_of, normal_state, stalled_state, data_kind, Ask, Kept, Base, Entry, room_in, ask_of, broken_at, History, Slot, Spot, is_used, level_in, scn_in, guid_in, slots_in, spots_on, spots_of, spots, pages_of, found_pages, last_such, backup_spot, backup_slot, put_slot, is_in_chain, drafted, Page, Image, page_at, image_size, image_state, image_scn, kept_of, Backing, Given, Seen, next_guid, HasHeader, is_history_page, GoesOn, GoesOnFrom, IsRemembered, HasRows, NamesPast, Step, makes, after_step, after_steps, made, Stroke, begin, on_base, records_of, Trail, settled, settles_at, after_stroke, AllGoOn, IsWellTrail, some_same, Contains-push, all_go}
use Rattle.nb_model.proofs.ControlMay.{may_begin}
use Rattle.nb_model.proofs.ControlSound.{control_rest, control_long, control_goes_on, new_size, new_free}
use Rattle.nb_model.proofs.ControlWell.{goes_on_now}
use Rattle.nb_model.proofs.EarlierLaws.{last_one}
use Rattle.nb_model.proofs.FitLaws.{Fits, Stays, fitting_stays}
use Rattle.nb_model.proofs.HeldLaws.{IsHeld, IsOfHistory, held_by}
use Rattle.nb_model.proofs.LeadLaws.{LeadsTo, leads_kept, past_chain}
use Rattle.nb_model.proofs.HeldRoom.{HoldsRows, HasChainRows, room_held}
use Rattle.nb_model.proofs.PastLaws.{no_history, no_rows_pass, kept_more, remembered_with}
use Rattle.nb_model.proofs.PutSound.{header_whole}
use Rattle.nb_model.proofs.RecordLaws.{HasParent}
use Rattle.nb_model.proofs.RoomLaws.{HoldsOfHistory, in_chain, pages_found, room_fits, slot_fits, backup_length}
use Rattle.nb_model.proofs.SlotLaws.{linked_slots, linked_history, new_slots, rows_written}
use Rattle.nb_model.proofs.SoundLaws.{all_at}
use Rattle.nb_model.proofs.SoundTurns.{HasPlace}
use Rattle.nb_model.proofs.SteadyLaws.{WellAlong, KeepsAlong, record_of, kept_along, rows_along, begin_along, along_append, along_last, kept_append}
use Rattle.nb_model.proofs.StepsLaws.{after_steps_append, made_seen}
use Rattle.nb_model.proofs.TurnCases.{MayStart, started, IsFrom, whole, since}

-- Rows of the history that pass a test are kept where room is made for one more.
pub history_holds : (kept : List Kept) (P : Kept → Type 0) → HoldsOfHistory (HasRows kept P)
history_holds kept P = record {
  kinds = record {
    inventories = λ bytes e. no_rows_pass kept P bytes (no_history bytes (λ five. absurd (omega (arith, e, five))));
    scn_pages = λ bytes e. no_rows_pass kept P bytes (no_history bytes (λ five. absurd (omega (arith, e, five))));
  };
  added = λ old scn number long history. new_slots (IsRemembered kept P) old scn number;
  linked = λ old next scn number long kind holds history.
      subst (AllByRecursion (λ row. is_used row ≡ true → IsRemembered kept P row)) (sym (linked_slots old next scn number long)) (holds (linked_history old next scn number long kind history));
}

-- a page of the chain is one of the history
chain_history : (image : Image) (p : ℕ) → is_in_chain History image p ≡ true → is_history_page (page_at image p) ≡ true
unfolding is_in_chain is_history_page
chain_history image p in_it = (and_parts _ _ in_it).1

pub chain_rows : (kept : List Kept) (P : Kept → Type 0) (image : Image) → NamesPast kept P image → HasChainRows (IsRemembered kept P) image
chain_rows kept P image past p in_it = past.rows p (in_chain History image p in_it).0 (chain_history image p in_it)

-- what holds of each row of the chain holds of the one that is found
module _ (P : Slot → Type 0) where
  abbrev Holds : Spot → Type 0
  Holds s = is_used s.bytes ≡ true → P s.bytes

  on_page : (p slot : ℕ) (ss : List Slot) → AllByRecursion (λ row. is_used row ≡ true → P row) ss → AllByRecursion Holds (spots_on p slot ss)
  unfolding spots_on
  on_page p slot [] all = tt
  on_page p slot (s ∷ ss) all = (all.0, on_page p (slot + 1) ss all.1)

  joined_spots : (xs ys : List Spot) → AllByRecursion Holds xs → AllByRecursion Holds ys → AllByRecursion Holds (xs ++ ys)
  joined_spots [] ys a b = b
  joined_spots (x ∷ xs) ys a b = (a.0, joined_spots xs ys a.1 b)

  on_pages : (image : Image) (ps : List ℕ) → AllByRecursion (λ (q : ℕ). is_in_chain History image q ≡ true) ps → HasChainRows P image → AllByRecursion Holds (spots_of image ps)
  unfolding spots_of
  on_pages image [] found rows = tt
  on_pages image (p ∷ ps) found rows = joined_spots (spots_on p 0 (slots_in (page_at image p))) (spots_of image ps) (on_page p 0 (slots_in (page_at image p)) (rows p found.0)) (on_pages image ps found.1 rows)

  last_found : (test : Spot → Bool) (xs : List Spot) (x : Spot) → last_such test xs ≡ Some x → AllByRecursion Holds xs → Holds x × (test x ≡ true)
  unfolding last_such
  last_found test [] x e all = cc
  last_found test (y ∷ ys) x e all = by (λ z f. last_found test ys z f all.1) (last_such test ys) refl e
    where
      here : (t : Bool) → test y ≡ t → elim t as (λ z. Option Spot) [ true ↦ Some y | false ↦ None ] ≡ Some x → Holds x × (test x ≡ true)
      here true is e = let same : y ≡ x = cc in subst (λ (z : Spot). Holds z × (test z ≡ true)) same (all.0, is)
      here false is e = cc

      by : ((z : Spot) → last_such test ys ≡ Some z → Holds z × (test z ≡ true)) → (r : Option Spot) → last_such test ys ≡ r
          → elim r as (λ z. Option Spot) [ Some z ↦ Some z | None ↦ elim (test y) as (λ w. Option Spot) [ true ↦ Some y | false ↦ None ] ] ≡ Some x → Holds x × (test x ≡ true)
      by behind (Some z) is e = let same : z ≡ x = cc in subst (λ (v : Spot). Holds v × (test v ≡ true)) same (behind z is)
      by behind None is e = here (test y) refl e

  pub backup_found : (test : Slot → Bool) (image : Image) (row : Spot) → broken_at (pages_of History image) ≡ None → backup_spot test image ≡ Some row → HasChainRows P image → P row.bytes
  unfolding backup_spot spots
  backup_found test image row unbroken is rows =
      let found = last_found (λ s. is_used s.bytes && test s.bytes) (spots_of image (found_pages History image)) row is (on_pages image (found_pages History image) (pages_found History image unbroken).each rows) in
      found.0 (and_parts (is_used row.bytes) (test row.bytes) found.1).0

-- A backup is under way: its record is kept, all that was seen goes on from it, and each row on the page that gets its row names a backup
-- from which all that was seen goes on.
pub record IsRecorded (kept : List Kept) (t : Trail) (b : Backing) : Type 0 where
  pub there : Contains kept (kept_of b t.base.frozen)
  pub go_on : AllGoOn t (kept_of b t.base.frozen)
  pub page : HoldsRows (IsRemembered kept (AllGoOn t)) b.page t.base.image

made_both : (xs ys : List Stroke) → made (xs ++ ys) ≡ made xs ++ made ys
unfolding made
made_both [] ys = refl
made_both (x ∷ xs) ys = ap (λ (ss : List Step). makes x ∷ ss) (made_both xs ys)

-- a page that is held, and to which links of the history lead
abbrev pub IsLedTo : (q : ℕ) → Page → Image → Type 0
IsLedTo q bytes image = IsHeld q bytes image × LeadsTo image q

-- the rows of a page that is held, where more is known of them
holds_on : (P R : Slot → Type 0) (q : ℕ) (old new : Image) → ((row : Slot) → P row → R row) → ((bytes : Page) → IsOfHistory bytes → IsLedTo q bytes old → IsLedTo q bytes new) → HoldsRows P q old → HoldsRows R q new
holds_on P R q old new goes held h = record {
  bytes = h.bytes;
  held = (held h.bytes h.of_history (h.held, h.leads)).0;
  leads = (held h.bytes h.of_history (h.held, h.leads)).1;
  of_history = h.of_history;
  rows = all_go {X = Slot} (λ row. is_used row ≡ true → P row) (λ row. is_used row ≡ true → R row) (slots_in h.bytes) (λ row one used. goes row (one used)) h.rows;
}

remembered_on : (kept more : List Kept) (P R : Kept → Type 0) → ((r : Kept) → P r → R r) → (row : Slot) → IsRemembered kept P row → IsRemembered (kept ++ more) R row
remembered_on kept more P R goes row h = record { backup = h.backup; kept_as = kept_more kept more (guid_in row) h.backup h.kept_as; scn = h.scn; level = h.level; passes = goes h.backup h.passes }

-- So it is still after steps that keep no record, while the page is held.
pub recorded_on : (kept : List Kept) (t : Trail) (ss : List Step) → KeepsAlong kept t ss → (b : Backing) → ((bytes : Page) → IsOfHistory bytes → IsLedTo b.page bytes t.base.image → IsLedTo b.page bytes (after_steps t ss).base.image)
    → IsRecorded kept t b → IsRecorded (kept_along kept t ss) (after_steps t ss) b
recorded_on kept t ss keeps b held h = subst (λ (rs : List Kept). IsRecorded rs (after_steps t ss) b) (sym keeps.none) (record {
  there = subst (λ (x : Image). Contains kept (kept_of b x)) (sym keeps.frozen) h.there;
  go_on = subst (λ (x : Image). AllGoOn (after_steps t ss) (kept_of b x)) (sym keeps.frozen) (keeps.go_on (kept_of b t.base.frozen) h.go_on);
  page = holds_on (IsRemembered kept (AllGoOn t)) (IsRemembered kept (AllGoOn (after_steps t ss))) b.page t.base.image (after_steps t ss).base.image
      (remembered_with kept (AllGoOn t) (AllGoOn (after_steps t ss)) keeps.go_on) held h.page;
})

-- all that was seen at a settled point
settled_goes_on : (b : Base) (r : Kept) → GoesOn r b.image → AllGoOn (settled b) r
settled_goes_on b r on m has = subst (λ (x : Base). GoesOn r x.image) (last_one b m has) on

pub recorded_settled : (kept : List Kept) (t : Trail) (b : Backing) → IsRecorded kept t b → IsRecorded kept (settled t.base) b
recorded_settled kept t b h = record {
  there = h.there;
  go_on = on (kept_of b t.base.frozen) h.go_on;
  page = holds_on (IsRemembered kept (AllGoOn t)) (IsRemembered kept (AllGoOn (settled t.base))) b.page t.base.image t.base.image (remembered_with kept (AllGoOn t) (AllGoOn (settled t.base)) on) (λ bytes kind held. held) h.page;
}
  where
    on : (r : Kept) → AllGoOn t r → AllGoOn (settled t.base) r
    on r all = settled_goes_on t.base r (all t.base (Contains-push t.earlier t.base))

-- what a well trail says of its image
module _ (kept : List Kept) (t : Trail) (w : IsWellTrail kept t) where
  its_header : HasHeader t.base.image
  its_header = record { header = w.base.well.header; scn = w.base.well.scn }

  its_past : NamesPast kept (AllGoOn t) t.base.image
  its_past = w.past t.base (Contains-push t.earlier t.base)

  -- the row from which a backup goes on names a record from which all that was seen goes on
  its_row : (test : Slot → Bool) (row : Spot) → broken_at (pages_of History t.base.image) ≡ None → backup_spot test t.base.image ≡ Some row → IsRemembered kept (AllGoOn t) row.bytes
  its_row test row unbroken is = backup_found (IsRemembered kept (AllGoOn t)) test t.base.image row unbroken is (chain_rows kept (AllGoOn t) t.base.image its_past)

  -- A backup begins after steps that keep no record: it goes on from the one that its row names.
  module _ (u : Trail) (on : (r : Kept) → AllGoOn t r → AllGoOn u r) (later : IsWellTrail kept u) (normal : image_state u.base.image ≡ normal_state) (scn : image_scn u.base.image ≤ 4294967293) (guid : List ℕ) (sixteen : length guid ≡ 16) where
    goes_on_then : (ask : Option Ask) (r : Kept) → AllGoOn u r → GoesOn r (on_base (begin guid ask) u.base).image
    unfolding on_base
    goes_on_then ask r all =
        control_goes_on stalled_state (image_scn u.base.image + 1) guid u.base.image (record { header = later.base.well.header; scn = later.base.well.scn }) later.base.well.sound
        (may_begin u.base.image (record { header = later.base.well.header; scn = later.base.well.scn }) guid sixteen scn) r (all u.base (Contains-push u.earlier u.base))

    its_parent : (asked : Ask) → broken_at (pages_of History t.base.image) ≡ None → IsFrom t.base.image asked → HasParent kept (record_of u guid (Some asked))
    unfolding ask_of
    its_parent asked unbroken (whole none) ask is some = absurd (some (ap (λ (a : Ask). a.previous) (sym (some_same asked ask is) ∙ none)))
    its_parent asked unbroken (since level test row found goes_by) ask is some =
        let remembered : IsRemembered kept (AllGoOn t) row.bytes = its_row test row unbroken found in
        let all : AllGoOn u remembered.backup = on remembered.backup remembered.passes in
        subst (GoesOnFrom kept (record_of u guid (Some asked))) (some_same asked ask is)
        (subst (λ (a : Ask). GoesOnFrom kept (record_of u guid (Some a)) a) (sym goes_by) (record {
          parent = remembered.backup;
          kept_as = remembered.kept_as;
          scn = remembered.scn;
          earlier = (all u.base (Contains-push u.earlier u.base)).earlier;
          follows = (goes_on_then (Some (ask_of level (Some row))) remembered.backup all).follows;
        }))

-- What is well along the strokes of an outcome, and recorded after them.
pub record StartsWell (kept : List Kept) (t : Trail) (ss : List Stroke) (b : Backing) : Type 0 where
  pub along : WellAlong kept t (made ss)
  pub recorded : IsRecorded (kept_along kept t (made ss)) (after_steps t (made ss)) b

begun_kept : (kept : List Kept) (u : Trail) (guid : List ℕ) (ask : Option Ask) → kept_along kept u (made (begin guid ask ∷ [])) ≡ kept ++ record_of u guid ask ∷ []
unfolding made records_of
begun_kept kept u guid ask = refl

begun_trail : (u : Trail) (guid : List ℕ) (ask : Option Ask) → after_steps u (made (begin guid ask ∷ [])) ≡ settled (on_base (begin guid ask) u.base)
unfolding made after_steps after_step after_stroke settles_at
begun_trail u guid ask = refl

-- A backup begins where room was made for its row.
module _ (kept : List Kept) (u : Trail) (later : IsWellTrail kept u) (normal : image_state u.base.image ≡ normal_state) (scn : image_scn u.base.image ≤ 4294967293) (b : Backing) (sixteen : length b.guid ≡ 16) (same_scn : b.scn ≡ image_scn u.base.image)
    (page : HoldsRows (IsRemembered kept (AllGoOn u)) b.page u.base.image) where
  abbrev r : Kept
  r = record_of u b.guid (Some b.ask)

  abbrev then : Base
  then = on_base (begin b.guid (Some b.ask)) u.base

  abbrev u_header : HasHeader u.base.image
  u_header = record { header = later.base.well.header; scn = later.base.well.scn }

  its_record : kept_of b then.frozen ≡ r
  unfolding on_base
  its_record = ap (λ (n : ℕ). record { guid = b.guid; scn = n; ask = Some b.ask; image = then.image }) same_scn

  goes_on_self : GoesOn r then.image
  unfolding on_base
  goes_on_self = goes_on_now kept u.base later.base b.guid (Some b.ask) normal sixteen scn

  held_then : (bytes : Page) → IsHeld b.page bytes u.base.image → IsHeld b.page bytes then.image
  unfolding on_base
  held_then bytes held =
      held_by b.page bytes u.base.image then.image (new_size 1 (image_scn u.base.image + 1) b.guid u.base.image u_header later.base.well.sound (may_begin u.base.image u_header b.guid sixteen scn))
      (omega (arith, control_long stalled_state (image_scn u.base.image + 1) b.guid u.base.image))
      (control_rest stalled_state (image_scn u.base.image + 1) b.guid u.base.image b.page held.behind)
      (new_free 1 (image_scn u.base.image + 1) b.guid u.base.image u_header later.base.well.sound (may_begin u.base.image u_header b.guid sixteen scn) b.page) held

  -- page 0 alone changes
  leads_then : LeadsTo u.base.image b.page → LeadsTo then.image b.page
  unfolding on_base
  leads_then l = leads_kept u.base.image then.image b.page (λ p some. elim (cases_lt p (length u.base.image)) [
    | inl low ↦ inl (low, control_rest stalled_state (image_scn u.base.image + 1) b.guid u.base.image p some)
    | inr past ↦ inr (past_chain then.image p (omega (arith, past, control_long stalled_state (image_scn u.base.image + 1) b.guid u.base.image)))
  ]) l

  begun_recorded : IsRecorded (kept ++ r ∷ []) (settled then) b
  begun_recorded = record {
    there = subst (Contains (kept ++ r ∷ [])) (sym its_record) (Contains-append_right kept (r ∷ []) r (0, omega arith, refl));
    go_on = settled_goes_on then (kept_of b then.frozen) (subst (λ (x : Kept). GoesOn x then.image) (sym its_record) goes_on_self);
    page = holds_on (IsRemembered kept (AllGoOn u)) (IsRemembered (kept ++ r ∷ []) (AllGoOn (settled then))) b.page u.base.image then.image
        (remembered_on kept (r ∷ []) (AllGoOn u) (AllGoOn (settled then))
        (λ q all. settled_goes_on then q (goes_on_then kept u later u (λ x h. h) later normal scn b.guid sixteen (Some b.ask) q all)))
        (λ bytes kind held. (held_then bytes held.0, leads_then held.1)) page;
  }

-- A backup starts: room is made for its row, and it begins.
module _ (kept : List Kept) (t : Trail) (w : IsWellTrail kept t) (cache : ℕ) (running : Option ℕ) (entry : List ℕ → Entry) (given : Given) where
  abbrev s : Seen
  s = record { base = t.base; cache = cache; running = running; entry = entry; given = given }

  module _ (session : ℕ) (name : List ℕ) (ask : Ask) (may : MayStart s name) (is_from : IsFrom t.base.image ask) (sixteen : length (next_guid given) ≡ 16) where
    abbrev backing : Backing
    backing = record { name = name; ask = ask; scn = image_scn t.base.image; guid = next_guid given; page = (room_in t.base.image).page; slot = (room_in t.base.image).slot }

    abbrev ss : List Stroke
    ss = (room_in t.base.image).draft.strokes

    abbrev rows : Page → Type 0
    rows = HasRows kept (AllGoOn t)

    header : HasHeader t.base.image
    header = its_header kept t w

    fits : Fits rows t.base (room_in t.base.image).draft
    fits = room_fits t.base header w.base.well.sound may.unbroken rows (history_holds kept (AllGoOn t)) (λ p in_it. (its_past kept t w).rows p (in_chain History t.base.image p in_it).0) may.left

    room : KeepsAlong kept t (made ss)
    room = rows_along kept (AllGoOn t) ss t fits.each (λ r h. h) w

    abbrev u : Trail
    u = after_steps t (made ss)

    later : IsWellTrail kept u
    later = subst (λ (rs : List Kept). IsWellTrail rs u) room.none (along_last kept t (made ss) room.along)

    stays : Stays t.base u.base
    stays = subst (Stays t.base) (sym (made_seen t ss)) (fitting_stays rows ss t.base fits.each (header_whole t.base.image header w.base.well.sound))

    normal : image_state u.base.image ≡ normal_state
    normal = stays.state ∙ may.may.normal

    small : image_scn u.base.image ≤ 4294967293
    small = omega (arith, stays.scn, may.may.scn)

    page : HoldsRows (IsRemembered kept (AllGoOn u)) backing.page u.base.image
    page = subst (λ (x : Image). HoldsRows (IsRemembered kept (AllGoOn u)) backing.page x) (sym fits.is.is ∙ ap (λ (b : Base). b.image) (sym (made_seen t ss)))
        (holds_on (IsRemembered kept (AllGoOn t)) (IsRemembered kept (AllGoOn u)) backing.page (room_in t.base.image).draft.image (room_in t.base.image).draft.image (remembered_with kept (AllGoOn t) (AllGoOn u) room.go_on)
        (λ bytes kind held. held)
        (room_held (IsRemembered kept (AllGoOn t)) t.base header w.base.well.sound may.unbroken (chain_rows kept (AllGoOn t) t.base.image (its_past kept t w)) may.formed may.left))

    begins : WellAlong kept u (made (begin (next_guid given) (Some ask) ∷ []))
    begins = begin_along kept u (next_guid given) (Some ask) later normal sixteen small (its_parent kept t w u room.go_on later normal small (next_guid given) sixteen ask may.unbroken is_from)

    recorded_then : IsRecorded (kept_along kept u (made (begin (next_guid given) (Some ask) ∷ []))) (after_steps u (made (begin (next_guid given) (Some ask) ∷ []))) backing
    recorded_then =
        subst (λ (rs : List Kept). IsRecorded rs (after_steps u (made (begin (next_guid given) (Some ask) ∷ []))) backing) (sym (begun_kept kept u (next_guid given) (Some ask)))
        (subst (λ (v : Trail). IsRecorded (kept ++ record_of u (next_guid given) (Some ask) ∷ []) v backing) (sym (begun_trail u (next_guid given) (Some ask)))
        (begun_recorded kept u later normal small backing sixteen (sym stays.scn) page))

    abbrev steps : List Step
    steps = made ss ++ made (begin (next_guid given) (Some ask) ∷ [])

    along_both : WellAlong kept t steps
    along_both = along_append kept t (made ss) (made (begin (next_guid given) (Some ask) ∷ [])) room.along (subst (λ (rs : List Kept). WellAlong rs u (made (begin (next_guid given) (Some ask) ∷ []))) (sym room.none) begins)

    recorded_both : IsRecorded (kept_along kept t steps) (after_steps t steps) backing
    recorded_both =
        subst (λ (rs : List Kept). IsRecorded rs (after_steps t steps) backing)
        (sym (kept_append kept t (made ss) (made (begin (next_guid given) (Some ask) ∷ [])) ∙ ap (λ (rs : List Kept). kept_along rs u (made (begin (next_guid given) (Some ask) ∷ []))) room.none))
        (subst (λ (v : Trail). IsRecorded (kept_along kept u (made (begin (next_guid given) (Some ask) ∷ []))) v backing) (sym (after_steps_append t (made ss) (made (begin (next_guid given) (Some ask) ∷ [])))) recorded_then)

    pub start_well : StartsWell kept t (started s session name ask).strokes backing
    start_well =
        let same : made (ss ++ begin (next_guid given) (Some ask) ∷ []) ≡ steps = made_both ss (begin (next_guid given) (Some ask) ∷ []) in
        record {
          along = subst (WellAlong kept t) (sym same) along_both;
          recorded = subst (λ (xs : List Step). IsRecorded (kept_along kept t xs) (after_steps t xs) backing) (sym same) recorded_both;
        }

-- what the row of a backup tells
pub row_guid : (level scn time : ℕ) (guid name : List ℕ) → length guid ≡ 16 → guid_in (backup_slot level scn time guid name) ≡ guid
unfolding backup_slot padded bytes_of
row_guid level scn time guid name sixteen = ap (take 16) (append_assoc guid name _) ∙ take_at guid _ 16 sixteen

row_scn : (level scn time : ℕ) (guid name : List ℕ) → scn < 4294967296 → scn_in (backup_slot level scn time guid name) ≡ scn
unfolding backup_slot padded number_in bytes_of
row_scn level scn time guid name low = number_of-bytes_of 4 scn low

row_level : (level scn time : ℕ) (guid name : List ℕ) → level_in (backup_slot level scn time guid name) ≡ level
unfolding backup_slot padded
row_level level scn time guid name = refl

-- A backup closes: its row names its record.
module _ (kept : List Kept) (t : Trail) (w : IsWellTrail kept t) (b : Backing) (time : ℕ) (place : HasPlace t.base.image b) (recorded : IsRecorded kept t b) where
  abbrev its_slot : Slot
  its_slot = backup_slot b.ask.level b.scn time b.guid b.name

  abbrev IsKnown : Slot → Type 0
  IsKnown row = is_used row ≡ true → IsRemembered kept (AllGoOn t) row

  scn_low : b.scn < 4294967296
  scn_low = let earlier = (recorded.go_on t.base (Contains-push t.earlier t.base)).earlier in let low = w.base.well.scn in omega (arith, earlier, low)

  slot_known : IsRemembered kept (AllGoOn t) its_slot
  slot_known = record {
    backup = kept_of b t.base.frozen;
    kept_as = record { there = recorded.there; named = sym (row_guid b.ask.level b.scn time b.guid b.name place.sixteen) };
    scn = sym (row_scn b.ask.level b.scn time b.guid b.name scn_low);
    level = (b.ask, refl, sym (row_level b.ask.level b.scn time b.guid b.name));
    passes = recorded.go_on;
  }

  slot_long : length its_slot ≡ 256
  slot_long = backup_length b.ask.level b.scn time b.guid b.name place.sixteen place.short

  rows_then : (scn number : ℕ) → HasRows kept (AllGoOn t) (stamped (page_at t.base.image b.page) data_kind (drop 16 (with_part (32 + 256 * b.slot) its_slot (page_at t.base.image b.page))) scn number)
  rows_then scn number history = subst (λ (x : Page). AllByRecursion IsKnown (slots_in (stamped x data_kind (drop 16 (with_part (32 + 256 * b.slot) its_slot x)) scn number))) (sym recorded.page.held.is)
      (rows_written IsKnown b.slot its_slot recorded.page.bytes slot_long long (λ used. slot_known) scn number recorded.page.rows)
    where
      long : 32 + 256 * b.slot + 256 ≤ length recorded.page.bytes
      long = omega (arith, place.room.plain.within, ap length recorded.page.held.is, all_at (λ x. length x ≡ image_size t.base.image) t.base.image w.base.well.sound.sizes b.page place.room.below)

  pub close_well : KeepsAlong kept t (made (put_slot b.page b.slot its_slot (drafted t.base.image)).strokes)
  close_well =
      rows_along kept (AllGoOn t) (put_slot b.page b.slot its_slot (drafted t.base.image)).strokes t
      (slot_fits (HasRows kept (AllGoOn t)) (λ bytes e. no_rows_pass kept (AllGoOn t) bytes (no_history bytes (λ five. absurd (omega (arith, e, five))))) t.base b.page b.slot its_slot (its_header kept t w) w.base.well.sound place.room slot_long
      (rows_then (image_scn t.base.image) b.page)).each (λ r h. h) w
