-- What was seen of a database in a run is well at each step, with the records of the backups that have begun.
use Rattle.std.proofs.Common.{◌≡◌, ℕ, zero, suc, ◌+◌, ◌≤◌, List, [], ◌∷◌, ◌++◌, length, take, refl, sym, ap, subst, ◌∙◌, arith, append_assoc, Bool, Option, true, false}
use Rattle.nb_model.proofs.Common.{append-nil, normal_state, stalled_state, merge_state, IsNamed, Statement, Ask, Kept, Base, Page, image_state, image_scn, Begins, Seen, HasHeader, IsSoundImage, IsBegun, HasRows, Step, makes, settles, after_step, after_steps, made, strokes_in, Stroke, page, merged_page, begin, ends, finish, on_base, records_of, records_after, Trail, settled, settles_at, after_stroke, first_turn, is_on_pages, AllGoOn, IsWellTrail}
use Rattle.nb_model.proofs.ControlMay.{may_begin}
use Rattle.nb_model.proofs.ControlSound.{MayControl, new_state, new_scn, new_guid, new_header, control_old}
use Rattle.nb_model.proofs.ControlWell.{begin_well, ends_well, finish_well}
use Rattle.nb_model.proofs.FitLaws.{AreFitting}
use Rattle.nb_model.proofs.NoRows.{HasNoRows}
use Rattle.nb_model.proofs.PagesFit.{pages_fit}
use Rattle.nb_model.proofs.PastLaws.{rows_with, no_rows_pass}
use Rattle.nb_model.proofs.RecordLaws.{HasParent}
use Rattle.nb_model.proofs.TrailLaws.{trail_base}
use Rattle.nb_model.proofs.WellTrailLaws.{go_on, stroke_well, settling_well}

-- the records after one step, and after steps
abbrev pub kept_step : List Kept → Trail → Step → List Kept
kept_step kept t (makes s) = kept ++ records_of s t.base
kept_step kept t settles = kept

abbrev pub kept_along : List Kept → Trail → List Step → List Kept
kept_along kept t [] = kept
kept_along kept t (s ∷ ss) = kept_along (kept_step kept t s) (after_step s t) ss

-- the record that a begin keeps
abbrev pub record_of : Trail → (guid : List ℕ) → Option Ask → Kept
record_of t guid ask = record { guid = guid; scn = image_scn t.base.image; ask = ask; image = (on_base (begin guid ask) t.base).image }

-- a begin keeps a record as a begin leaves it, which goes on from the one that it asks for
abbrev pub KeepsGood : List Kept → Trail → Step → Type 0
KeepsGood kept t (makes (begin guid ask)) = IsBegun (record_of t guid ask) × HasParent kept (record_of t guid ask)
KeepsGood kept t other = Unit {0}

-- What was seen is well before each step and after all, with the records kept until then.
abbrev pub WellAlong : List Kept → Trail → List Step → Type 0
WellAlong kept t [] = IsWellTrail kept t
WellAlong kept t (s ∷ ss) = IsWellTrail kept t × KeepsGood kept t s × WellAlong (kept_step kept t s) (after_step s t) ss

pub along_first : (kept : List Kept) (t : Trail) (ss : List Step) → WellAlong kept t ss → IsWellTrail kept t
along_first kept t [] w = w
along_first kept t (s ∷ ss) w = w.0

pub along_append : (kept : List Kept) (t : Trail) (xs ys : List Step) → WellAlong kept t xs → WellAlong (kept_along kept t xs) (after_steps t xs) ys → WellAlong kept t (xs ++ ys)
unfolding after_steps
along_append kept t [] ys a b = b
along_append kept t (x ∷ xs) ys a b = (a.0, a.1, along_append (kept_step kept t x) (after_step x t) xs ys a.2 b)

-- at each front of them, and after it
pub along_front : (kept : List Kept) (t : Trail) (ss : List Step) → WellAlong kept t ss → (k : ℕ) → WellAlong kept t (take k ss)
along_front kept t ss w zero = along_first kept t ss w
along_front kept t [] w (suc k) = w
along_front kept t (s ∷ ss) w (suc k) = (w.0, w.1, along_front (kept_step kept t s) (after_step s t) ss w.2 k)

pub along_last : (kept : List Kept) (t : Trail) (ss : List Step) → WellAlong kept t ss → IsWellTrail (kept_along kept t ss) (after_steps t ss)
unfolding after_steps
along_last kept t [] w = w
along_last kept t (s ∷ ss) w = along_last (kept_step kept t s) (after_step s t) ss w.2

pub kept_append : (kept : List Kept) (t : Trail) (xs ys : List Step) → kept_along kept t (xs ++ ys) ≡ kept_along (kept_along kept t xs) (after_steps t xs) ys
unfolding after_steps
kept_append kept t [] ys = refl
kept_append kept t (x ∷ xs) ys = kept_append (kept_step kept t x) (after_step x t) xs ys

page_frozen : (p : ℕ) (bytes : Page) (t : Trail) → (after_stroke (page p bytes) t).base.frozen ≡ t.base.frozen
unfolding on_base
page_frozen p bytes t = ap (λ (b : Base). b.frozen) (trail_base (page p bytes) t)

pub stroke_seen : (t : Trail) (s : Stroke) → (after_stroke s t).base ≡ on_base s t.base
unfolding after_stroke
stroke_seen t s = trail_base s t

-- they are the records of the strokes among the steps
pub kept_is : (kept : List Kept) (t : Trail) (ss : List Step) → kept_along kept t ss ≡ kept ++ records_after t.base (strokes_in ss)
unfolding strokes_in records_after after_step
kept_is kept t [] = sym (append-nil kept)
kept_is kept t (makes s ∷ ss) =
    kept_is (kept ++ records_of s t.base) (after_stroke s t) ss ∙ ap (λ (b : Base). (kept ++ records_of s t.base) ++ records_after b (strokes_in ss)) (stroke_seen t s)
    ∙ append_assoc kept (records_of s t.base) (records_after (on_base s t.base) (strokes_in ss))
kept_is kept t (settles ∷ ss) = kept_is kept (settled t.base) ss

-- A settled point after steps, or none.
pub settling_along : (kept : List Kept) (t : Trail) (waits : Bool) → IsWellTrail kept t → WellAlong kept t (elim waits as (λ z. List Step) [ true ↦ settles ∷ [] | false ↦ [] ])
unfolding after_step
settling_along kept t true w = (w, tt, settling_well kept t w)
settling_along kept t false w = w

-- What was seen is well along steps that keep no record, change no frozen image, and leave all that was seen going on from each record from
-- which it did.
pub record KeepsAlong (kept : List Kept) (t : Trail) (ss : List Step) : Type 0 where
  pub along : WellAlong kept t ss
  pub none : kept_along kept t ss ≡ kept
  pub frozen : (after_steps t ss).base.frozen ≡ t.base.frozen
  pub go_on : (r : Kept) → AllGoOn t r → AllGoOn (after_steps t ss) r

pub none_along : (kept : List Kept) (t : Trail) → IsWellTrail kept t → KeepsAlong kept t []
unfolding after_steps
none_along kept t w = record { along = w; none = refl; frozen = refl; go_on = λ r all. all }

-- strokes that write pages which fit, whose rows name backups from which all that was seen goes on
pub rows_along : (kept : List Kept) (P : Kept → Type 0) (ss : List Stroke) (t : Trail) → AreFitting (HasRows kept P) t.base ss → ((r : Kept) → P r → AllGoOn t r) → IsWellTrail kept t → KeepsAlong kept t (made ss)
unfolding made after_steps after_step records_of
rows_along kept P [] t fits goes w = none_along kept t w
rows_along kept P (page p bytes ∷ ss) t fits goes w =
    let rows : HasRows kept (AllGoOn t) (merged_page p bytes t.base.image) = rows_with kept P (AllGoOn t) goes (merged_page p bytes t.base.image) fits.0.1 in
    let go_on_one : (r : Kept) → AllGoOn t r → AllGoOn (after_stroke (page p bytes) t) r = go_on kept t p bytes w fits.0.0 rows in
    let later : KeepsAlong kept (after_stroke (page p bytes) t) (made ss) =
    rows_along kept P ss (after_stroke (page p bytes) t) (subst (λ (b : Base). AreFitting (HasRows kept P) b ss) (sym (stroke_seen t (page p bytes))) fits.1) (λ r h. go_on_one r (goes r h))
    (stroke_well kept t p bytes w fits.0.0 rows) in
    let same : kept ++ [] ≡ kept = append-nil kept in
    record {
      along = (w, tt, subst (λ (rs : List Kept). WellAlong rs (after_stroke (page p bytes) t) (made ss)) (sym same) later.along);
      none = ap (λ (rs : List Kept). kept_along rs (after_stroke (page p bytes) t) (made ss)) same ∙ later.none;
      frozen = later.frozen ∙ page_frozen p bytes t;
      go_on = λ r all. later.go_on r (go_on_one r all);
    }
rows_along kept P (other ∷ ss) t fits goes w = absurd fits.0

-- pages without rows name none
no_rows_fit : (kept : List Kept) (ss : List Stroke) (b : Base) → AreFitting HasNoRows b ss → AreFitting (HasRows kept (λ r. ⊥)) b ss
no_rows_fit kept [] b fits = tt
no_rows_fit kept (page p bytes ∷ ss) b fits = ((fits.0.0, no_rows_pass kept (λ r. ⊥) (merged_page p bytes b.image) fits.0.1), no_rows_fit kept ss (on_base (page p bytes) b) fits.1)
no_rows_fit kept (other ∷ ss) b fits = absurd fits.0

-- statements on pages
pub pages_along : (kept : List Kept) (statement : Statement) → is_on_pages statement ≡ true → IsNamed (Begins statement) → (s : Seen) (session : ℕ) (t : Trail) → s.base ≡ t.base → IsWellTrail kept t → KeepsAlong kept t (made (first_turn s session statement).strokes)
pages_along kept statement on named s session t is w =
    let header : HasHeader s.base.image = subst (λ (b : Base). HasHeader b.image) (sym is) (record { header = w.base.well.header; scn = w.base.well.scn }) in
    let sound : IsSoundImage s.base.image = subst (λ (b : Base). IsSoundImage b.image) (sym is) w.base.well.sound in
    let ss : List Stroke = (first_turn s session statement).strokes in
    rows_along kept (λ r. ⊥) ss t (no_rows_fit kept ss t.base (subst (λ (b : Base). AreFitting HasNoRows b ss) is (pages_fit statement on named s session header sound))) (λ r none. absurd none) w

-- a backup begins, and goes on from the one that it asks for
pub begin_along : (kept : List Kept) (t : Trail) (guid : List ℕ) (ask : Option Ask) → IsWellTrail kept t → image_state t.base.image ≡ normal_state → length guid ≡ 16 → image_scn t.base.image ≤ 4294967293 → HasParent kept (record_of t guid ask)
    → WellAlong kept t (made (begin guid ask ∷ []))
unfolding made after_step after_stroke settles_at on_base
begin_along kept t guid ask w normal sixteen room parent = (w, (good, parent), begin_well kept t.base w.base guid ask normal sixteen room)
  where
    header : HasHeader t.base.image
    header = record { header = w.base.well.header; scn = w.base.well.scn }

    may : MayControl 1 (image_scn t.base.image + 1) guid t.base.image
    may = may_begin t.base.image header guid sixteen room

    good : IsBegun (record_of t guid ask)
    good = record {
      header = new_header 1 (image_scn t.base.image + 1) guid t.base.image header w.base.well.sound may;
      state = new_state stalled_state (image_scn t.base.image + 1) guid t.base.image header w.base.well.sound may;
      guid = new_guid 1 (image_scn t.base.image + 1) guid t.base.image header w.base.well.sound may;
      scn = new_scn 1 (image_scn t.base.image + 1) guid t.base.image header w.base.well.sound may;
      old = control_old stalled_state (image_scn t.base.image + 1) guid t.base.image header w.base.well.sound may (omega arith);
    }

-- the stalled state ends, and the merge
pub ends_along : (kept : List Kept) (t : Trail) → IsWellTrail kept t → image_state t.base.image ≡ stalled_state → WellAlong kept t (made (ends ∷ []))
unfolding made after_step after_stroke settles_at records_of
ends_along kept t w stalled = (w, tt, subst (λ (rs : List Kept). IsWellTrail rs (settled (on_base ends t.base))) (sym (append-nil kept)) (ends_well kept t.base w.base stalled))

pub finish_along : (kept : List Kept) (t : Trail) → IsWellTrail kept t → image_state t.base.image ≡ merge_state → WellAlong kept t (made (finish ∷ []))
unfolding made after_step after_stroke settles_at records_of
finish_along kept t w merge = (w, tt, subst (λ (rs : List Kept). IsWellTrail rs (settled (on_base finish t.base))) (sym (append-nil kept)) (finish_well kept t.base w.base merge))
