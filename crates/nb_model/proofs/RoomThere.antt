-- The room for a row of the history is below the length, and has its SCN entry, whatever else stands in the image.
use Rattle.std.proofs.Common.{◌≡◌, inl, inr, ℕ, zero, suc, ◌+◌, ◌/◌, ◌<◌, ◌≤◌, List, [], ◌∷◌, ◌++◌, length, drop, refl, sym, ap, subst, ◌∙◌, arith, Bool, true, false, ◌==◌, ◌&&◌, nat_lt, Option, Some, None}
use Rattle.nb_model.proofs.Common.{true≢false, lt-ltb, leb_tells, bytes_of, with_part, kind_of, data_payload, bits_in, is_scn_place, is_system_place, most_pages, stalled_state, data_kind, scn_kind, Ask, Base, Room, needs_taken, room_in, broken_at, not_of_form, lowest_broken, too_short, short_for, History, Spot, pages_of, found_pages, spots, free_spot, last_of, grown, HasItsEntry, Draft, Need, drafted, written, wrote, needs, is_kind, other_kind, has_entry, scn_entry, scn_page_of, inventory_of, is_free_page, entry_written, entry_raised, raised, put, take_page, lowest_free, first_not, maps_from, entry_page, is_kept, needed_at, system_kind, system_page, no_page, new_page, new_within, Page, Image, page_at, image_size, image_scn, HasHeader, begin, on_base, base_after, merged_page, with_control, append_none, cons_nil}
use Rattle.nb_model.proofs.ControlMay.{may_begin}
use Rattle.nb_model.proofs.ControlSound.{control_rest, control_long, size_then}
use Rattle.nb_model.proofs.DraftLaws.{IsKept, IsOf, either, drafts_are, drafted_is, needs_keeps, raised_keeps, grown_keeps, put_keeps, set_bit_keeps, system_keeps, new_keeps}
use Rattle.nb_model.proofs.EntryStays.{HasScn, put_has, bit_has, plain_apart, scn_there}
use Rattle.nb_model.proofs.NeedLaws.{first_append, both_none, none_ready}
use Rattle.nb_model.proofs.NewSound.{lowest_between}
use Rattle.nb_model.proofs.PagesOnly.{with_page_longer, size_kept, header_kept}
use Rattle.nb_model.proofs.PutSound.{not_when, needs_image}
use Rattle.nb_model.proofs.RoomLaws.{in_chain, free_is_spot, put_full}
use Rattle.nb_model.proofs.StepLaws.{kind_parts, scn_page_moves}
use Rattle.nb_model.proofs.SoundLaws.{scn_page_behind, with_page_length}
use Rattle.nb_model.proofs.RoundLaws.{kind_found}
use Rattle.nb_model.proofs.HeldRoom.{needs_image_same}

-- A place for a row, whatever else stands in the image.
pub record IsThere (image : Image) (page : ℕ) : Type 0 where
  pub below : page < length image
  pub entry : HasItsEntry image page

pub none_broken : (ps : List ℕ) → lowest_broken ps ≡ None → ps ≡ []
unfolding lowest_broken
none_broken [] e = refl
none_broken (p ∷ ps) e = cc

-- A draft of which no page is broken has read none that is.
needs_met : (kind p : ℕ) (d : Draft) → (needs kind p d).broken ≡ [] → (is_kind d.image kind p ≡ true) × (d.broken ≡ [])
unfolding needs
needs_met kind p d = by (is_kind d.image kind p) refl
  where
    by : (t : Bool) → is_kind d.image kind p ≡ t → (elim t as (λ z. Draft) [ true ↦ d | false ↦ record d { broken = p ∷ d.broken } ]).broken ≡ [] → (is_kind d.image kind p ≡ true) × (d.broken ≡ [])
    by true is e = (is, e)
    by false is e = absurd (cons_nil p d.broken e)

taken_met : (p : ℕ) (d : Draft) → (needs_taken p d).broken ≡ [] → d.broken ≡ []
unfolding needs_taken
taken_met p d = by (is_free_page d.image p)
  where
    by : (t : Bool) → (elim t as (λ z. Draft) [ true ↦ record d { broken = p ∷ d.broken } | false ↦ d ]).broken ≡ [] → d.broken ≡ []
    by true e = absurd (cons_nil p d.broken e)
    by false e = e

raised_met : (p : ℕ) (d : Draft) → (raised p d).broken ≡ [] → d.broken ≡ []
unfolding raised entry_raised entry_written written wrote
raised_met p d = by (has_entry d.image p)
  where
    e : Draft
    e = needs 10 (scn_page_of d.image p) d

    inner : (t : Bool) (x : Draft) → x.broken ≡ e.broken → (elim t as (λ z. Draft) [ true ↦ x | false ↦ e ]).broken ≡ [] → e.broken ≡ []
    inner true x same none = sym same ∙ none
    inner false x same none = none

    by : (t : Bool) → (elim t as (λ z. Draft) [ true ↦ entry_raised p e | false ↦ d ]).broken ≡ [] → d.broken ≡ []
    by true none = (needs_met 10 (scn_page_of d.image p) d (inner (nat_lt (scn_entry e.image p) (image_scn e.image)) _ refl none)).1
    by false none = none

put_met : (p kind : ℕ) (payload : List ℕ) (d : Draft) → (put p kind payload d).broken ≡ [] → d.broken ≡ []
unfolding put written wrote
put_met p kind payload d none = raised_met p d none

pub other_met : (image : Image) (kind p : ℕ) → other_kind image kind p ≡ [] → is_kind image kind p ≡ true
unfolding other_kind
other_met image kind p = by (is_kind image kind p) refl
  where
    by : (t : Bool) → is_kind image kind p ≡ t → (elim t as (λ z. List ℕ) [ true ↦ [] | false ↦ p ∷ [] ]) ≡ [] → is_kind image kind p ≡ true
    by true is e = is
    by false is e = absurd (cons_nil p [] e)

-- The image has a header, that page size, and at least so many pages.
record IsLong (least size : ℕ) (x : Image) : Type 0 where
  header : HasHeader x
  size_is : image_size x ≡ size
  long : least ≤ length x

wrote_long : (least size p : ℕ) (bytes : Page) (d : Draft) → IsLong least size d.image → IsLong least size (wrote p bytes d).image
unfolding wrote
wrote_long least size p bytes d h = record {
  header = header_kept d.image p bytes h.header;
  size_is = size_kept d.image p bytes h.header ∙ h.size_is;
  long = let more = with_page_longer p (merged_page p bytes d.image) d.image in let before = h.long in omega (arith, more, before);
}

written_long : (least size p kind : ℕ) (payload : List ℕ) (d : Draft) → IsLong least size d.image → IsLong least size (written p kind payload d).image
unfolding written
written_long least size p kind payload d h = wrote_long least size p _ d h

-- so it is behind each form
abbrev LongDraft : (least size : ℕ) → Draft → Type 0
LongDraft least size d = IsLong least size d.image

long_kept : (least size : ℕ) → IsKept (LongDraft least size)
long_kept least size = record { writes = written_long least size; reads = λ broken d h. h; fills = λ d h. h }

-- a page that is put at the end at most is there then
wrote_below : (p : ℕ) (bytes : Page) (d : Draft) → p ≤ length d.image → p < length (wrote p bytes d).image
unfolding wrote
wrote_below p bytes d low = let long = with_page_length p (merged_page p bytes d.image) d.image low in omega (arith, long)

put_below : (p kind : ℕ) (payload : List ℕ) (d : Draft) → HasHeader d.image → p ≤ length d.image → p < length (put p kind payload d).image
unfolding put written
put_below p kind payload d header low =
    let n : ℕ = length d.image in
    let r : LongDraft n (image_size d.image) (raised p d) = raised_keeps (LongDraft n (image_size d.image)) (long_kept n (image_size d.image)) p d (record { header = header; size_is = refl; long = omega arith }) in
    let before = r.long in
    wrote_below p _ (raised p d) (omega (arith, low, before))

-- what is needed of a place that may be given
told : (image : Image) (p : ℕ) → is_system_place (image_size image) p ≡ false → (p == most_pages) ≡ false → first_not image (needed_at image p) ≡ None → HasItsEntry image p
unfolding needed_at is_kept
told image p plain low none = by (p == most_pages) low (is_kept image p) (ap (λ (t : Bool). t && is_kind image (system_kind image p) p) plain)
    (both_none _ _ (sym (first_append image (maps_from (image_size image) (p / bits_in (image_size image) + 1) 0) _) ∙ none)).1
  where
    xs : List Need
    xs = entry_page image (inventory_of image p)

    by : (t : Bool) → t ≡ false → (u : Bool) → u ≡ false
        → first_not image (elim t as (λ z. List Need) [ true ↦ [] | false ↦ xs ++ elim u as (λ z. List Need) [ true ↦ [] | false ↦ entry_page image p ] ]) ≡ None → HasItsEntry image p
    by true e u f none = absurd (true≢false e)
    by false e true f none = absurd (true≢false f)
    by false e false f none = none_ready image p (both_none _ _ (sym (first_append image xs (entry_page image p)) ∙ none)).1

-- A new page is there, with its entry.
abbrev IsMet : Draft × ℕ → Type 0
IsMet x = x.0.full ≡ false → x.0.broken ≡ [] → IsThere x.0.image x.1

-- the page that a search ends with
last_there : (d : Draft) (p kind : ℕ) (payload : List ℕ) → HasHeader d.image → p ≤ length d.image → is_system_place (image_size d.image) p ≡ false → HasItsEntry d.image p → IsThere (take_page p (put p kind payload d)).image p
last_there d p kind payload header low plain has =
    let image : Image = d.image in
    let n : ℕ = image_size image in
    let e : Draft = put p kind payload d in
    let placed = put_below p kind payload d header low in
    let m : ℕ = length e.image in
    let put_long : LongDraft 0 n e = put_keeps (LongDraft 0 n) (long_kept 0 n) p kind payload d (record { header = header; size_is = refl; long = omega arith }) in
    let longer : LongDraft m n (take_page p e) = set_bit_keeps (LongDraft m n) (long_kept m n) 0 p e (record { header = put_long.header; size_is = put_long.size_is; long = omega arith }) in
    let high = longer.long in
    let q : ℕ = scn_page_of image p in
    let place : is_scn_place n q ≡ true = scn_there image p header in
    let stays : is_kind image scn_kind q ≡ true → HasScn n q place (take_page p e).image = λ kind_is.
    bit_has n q place 0 p e (put_has n q place p kind payload d (λ same. absurd (plain_apart n q place p plain same)) (record { header = header; size = refl; kind = kind_is })) in
    record {
      below = omega (arith, high, placed);
      entry = scn_page_moves image (take_page p e).image p longer.size_is (λ kind_is. (stays kind_is).kind) has;
    }

new_there : (tries kind : ℕ) (payload : ℕ → List ℕ) (n : ℕ) (d : Draft) → LongDraft 5 n d → IsMet (new_within tries kind payload d)
unfolding new_within
new_there zero kind payload n d h = λ left met. absurd (true≢false left)
new_there (suc tries) kind payload n d h =
    by_need (new_there tries kind payload n _ (set_bit_keeps (LongDraft 5 n) (long_kept 5 n) 0 (lowest_free d.image) (system_page (lowest_free d.image) d) (system_keeps (LongDraft 5 n) (long_kept 5 n) (lowest_free d.image) d h)))
    (first_not d.image (needed_at d.image (lowest_free d.image))) refl
  where
    image : Image
    image = d.image

    p : ℕ
    p = lowest_free d.image

    more : Draft × ℕ
    more = new_within tries kind payload (take_page p (system_page p d))

    last : Draft × ℕ
    last = (take_page p (put p kind (payload p) d), p)

    by_place : IsMet more → (p == most_pages) ≡ false → first_not image (needed_at image p) ≡ None → (t : Bool) → is_system_place (image_size image) p ≡ t → IsMet (elim t as (λ z. Draft × ℕ) [ true ↦ more | false ↦ last ])
    by_place again low none true is = again
    by_place again low none false is = λ left met. last_there d p kind (payload p) h.header (lowest_between image h.long).1 is (told image p is low none)

    by_full : IsMet more → first_not image (needed_at image p) ≡ None → (t : Bool) → (p == most_pages) ≡ t
        → IsMet (elim t as (λ z. Draft × ℕ) [ true ↦ (no_page d, p) | false ↦ elim (is_system_place (image_size image) p) as (λ z. Draft × ℕ) [ true ↦ more | false ↦ last ] ])
    by_full again none true is = λ left met. absurd (true≢false left)
    by_full again none false is = by_place again is none (is_system_place (image_size image) p) refl

    by_need : IsMet more → (o : Option ℕ) → first_not image (needed_at image p) ≡ o → IsMet (elim o as (λ z. Draft × ℕ) [
      | Some r ↦ (record d { broken = r ∷ d.broken }, 0)
      | None ↦ elim (p == most_pages) as (λ z. Draft × ℕ) [ true ↦ (no_page d, p) | false ↦ elim (is_system_place (image_size image) p) as (λ z. Draft × ℕ) [ true ↦ more | false ↦ last ] ]
    ])
    by_need again (Some r) is = λ left met. absurd (cons_nil r d.broken met)
    by_need again None is = by_full again is (p == most_pages) refl

-- A slot that is found.
module _ (image : Image) (header : HasHeader image) (unbroken : broken_at (pages_of History image) ≡ None) where
  free_there : (s : Spot) → free_spot (spots History image) ≡ Some s → (needs_taken s.page (needs 10 (scn_page_of image s.page) (needs 2 (inventory_of image s.page) (drafted image)))).broken ≡ [] → IsThere image s.page
  free_there s found met =
      let read : Draft = needs 2 (inventory_of image s.page) (drafted image) in
      let kind_is : is_kind read.image scn_kind (scn_page_of image s.page) ≡ true = (needs_met 10 (scn_page_of image s.page) read (taken_met s.page (needs 10 (scn_page_of image s.page) read) met)).0 in
      record {
        below = (in_chain History image s.page (free_is_spot image s unbroken found).page).0;
        entry = λ has. ap (λ (x : Image). is_kind x scn_kind (scn_page_of image s.page)) (sym (needs_image 2 (inventory_of image s.page) (drafted image))) ∙ kind_is;
      }

  -- a page that is linked
  grown_there : 5 ≤ length image → (grown History (found_pages History image) [] (drafted image)).0.full ≡ false → (grown History (found_pages History image) [] (drafted image)).0.broken ≡ []
      → IsThere (grown History (found_pages History image) [] (drafted image)).0.image (grown History (found_pages History image) [] (drafted image)).1
  unfolding grown
  grown_there long left met =
      let parts = append_none (other_kind x data_kind last) d.broken met in
      let new : IsThere x p = new_there (length image + 4) 5 (λ q. data_payload 0 1 []) (image_size image) (drafted image) (record { header = header; size_is = refl; long = long }) (put_full last data_kind link made.0 left) (put_met last 5 link made.0 parts.1) in
      let x_long : LongDraft 0 (image_size image) made.0 = new_keeps (LongDraft 0 (image_size image)) (long_kept 0 (image_size image)) _ 5 _ (drafted image) (record { header = header; size_is = refl; long = omega arith }) in
      let m : ℕ = length x in
      let longer : LongDraft m (image_size x) d = put_keeps (LongDraft m (image_size x)) (long_kept m (image_size x)) last 5 link made.0 (record { header = x_long.header; size_is = refl; long = omega arith }) in
      let high = longer.long in
      let below = new.below in
      let q : ℕ = scn_page_of x p in
      let place : is_scn_place (image_size x) q ≡ true = scn_there x p x_long.header in
      let five : kind_of (page_at x last) ≡ data_kind = (kind_parts x data_kind last (other_met x data_kind last parts.0)).1 in
      let stays : is_kind x scn_kind q ≡ true → HasScn (image_size x) q place d.image = λ kind_is.
      put_has (image_size x) q place last 5 link made.0 (λ same. absurd (let ten = ap (λ (i : ℕ). kind_of (page_at x i)) same ∙ (kind_parts x scn_kind q kind_is).1 in omega (arith, five, ten)))
      (record { header = x_long.header; size = refl; kind = kind_is }) in
      record { below = omega (arith, high, below); entry = scn_page_moves x d.image p longer.size_is (λ kind_is. (stays kind_is).kind) new.entry }
    where
      made : Draft × ℕ
      made = new_page 5 (λ q. data_payload 0 1 []) (drafted image)

      x : Image
      x = made.0.image

      p : ℕ
      p = made.1

      last : ℕ
      last = last_of (found_pages History image)

      link : List ℕ
      link = drop 16 (with_part 16 (bytes_of 4 p) (page_at x last))

      d : Draft
      d = put last data_kind link made.0

  -- So the room that is kept is there.
  pub room_is_there : short_for (free_spot (spots History image)) image ≡ None → not_of_form (room_in image).draft ≡ None → (room_in image).draft.full ≡ false → IsThere (room_in image).draft.image (room_in image).page
  unfolding room_in
  room_is_there short formed left = by (free_spot (spots History image)) refl short (none_broken _ formed) left
    where
      room_by : Option Spot → Room
      room_by o = elim o as (λ z. Room) [
        | Some s ↦ record { draft = needs_taken s.page (needs 10 (scn_page_of image s.page) (needs 2 (inventory_of image s.page) (drafted image))); page = s.page; slot = s.slot }
        | None ↦ record { draft = (grown History (found_pages History image) [] (drafted image)).0; page = (grown History (found_pages History image) [] (drafted image)).1; slot = 0 }
      ]

      same_image : (s : Spot) → (needs_taken s.page (needs 10 (scn_page_of image s.page) (needs 2 (inventory_of image s.page) (drafted image)))).image ≡ image
      same_image s =
          let read : Draft = needs 2 (inventory_of image s.page) (drafted image) in
          needs_image_same s.page (needs 10 (scn_page_of image s.page) read) ∙ needs_image 10 (scn_page_of image s.page) read ∙ needs_image 2 (inventory_of image s.page) (drafted image)

      five : too_short image ≡ None → 5 ≤ length image
      five none = elim (leb_tells 5 (length image)) [
        | inl w ↦ w.1
        | inr w ↦ absurd (true≢false (sym (lt-ltb (length image) 5 (omega (arith, w.1))) ∙ not_when (nat_lt (length image) 5) _ none))
      ]

      by : (o : Option Spot) → free_spot (spots History image) ≡ o → short_for o image ≡ None → (room_by o).draft.broken ≡ [] → (room_by o).draft.full ≡ false → IsThere (room_by o).draft.image (room_by o).page
      by (Some s) found short met left = subst (λ (x : Image). IsThere x s.page) (sym (same_image s)) (free_there s found met)
      by None found short met left = grown_there (five short) left met

-- and its image is that after its strokes
pub taken_keeps : (P : Draft → Type 0) → IsKept P → (p : ℕ) (d : Draft) → P d → P (needs_taken p d)
unfolding needs_taken
taken_keeps P kept p d h = either P (is_free_page d.image p) _ _ (kept.reads _ d h) h

pub room_keeps : (P : Draft → Type 0) → IsKept P → (image : Image) → P (drafted image) → P (room_in image).draft
unfolding room_in
room_keeps P kept image h = by (free_spot (spots History image))
  where
    by : (o : Option Spot) → P (elim o as (λ z. Room) [
      | Some s ↦ record { draft = needs_taken s.page (needs 10 (scn_page_of image s.page) (needs 2 (inventory_of image s.page) (drafted image))); page = s.page; slot = s.slot }
      | None ↦ record { draft = (grown History (found_pages History image) [] (drafted image)).0; page = (grown History (found_pages History image) [] (drafted image)).1; slot = 0 }
    ]).draft
    by (Some s) = taken_keeps P kept s.page _ (needs_keeps P kept 10 _ _ (needs_keeps P kept 2 _ _ h))
    by None = grown_keeps P kept History (found_pages History image) [] (drafted image) h

pub room_there_after : (b : Base) → HasHeader b.image → broken_at (pages_of History b.image) ≡ None → short_for (free_spot (spots History b.image)) b.image ≡ None → not_of_form (room_in b.image).draft ≡ None
    → (room_in b.image).draft.full ≡ false → IsThere (base_after b (room_in b.image).draft.strokes).image (room_in b.image).page
room_there_after b header unbroken short formed left =
    subst (λ (x : Image). IsThere x (room_in b.image).page) (sym (room_keeps (IsOf b) (drafts_are b) b.image (drafted_is b)).is) (room_is_there b.image header unbroken short formed left)

-- It is there still as a backup begins.
pub begun_there : (b : Base) (guid : List ℕ) (ask : Option Ask) (p : ℕ) → HasHeader b.image → length guid ≡ 16 → image_scn b.image ≤ 4294967293 → IsThere b.image p → IsThere (on_base (begin guid ask) b).image p
unfolding on_base
begun_there b guid ask p header sixteen scn there =
    let old : Image = b.image in
    let new : Image = with_control stalled_state (image_scn old + 1) guid old in
    let long : length new ≡ length old = control_long stalled_state (image_scn old + 1) guid old in
    let below = there.below in
    let q : ℕ = scn_page_of old p in
    let some = scn_page_behind (image_size old) q (scn_there old p header) in
    record {
      below = omega (arith, below, long);
      entry = scn_page_moves old new p (size_then 1 (image_scn old + 1) guid old header (may_begin old header guid sixteen scn))
          (λ kind_is. let parts = kind_parts old scn_kind q kind_is in
          kind_found new scn_kind q (omega (arith, parts.0, long)) (ap kind_of (control_rest stalled_state (image_scn old + 1) guid old q (omega (arith, some))) ∙ parts.1))
          there.entry;
    }
