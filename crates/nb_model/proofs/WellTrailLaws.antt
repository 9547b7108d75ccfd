-- Whatever a crash leaves of a well trail is well, and page strokes that fit keep a trail well.
use Rattle.std.proofs.Common.{◌≡◌, ◌≤◌, ℕ, zero, suc, ◌<◌, List, [], ◌∷◌, ◌++◌, length, take, refl, sym, ap, subst, ◌∙◌, arith, IsTrue, true, Contains}
use Rattle.nb_model.proofs.Common.{fresh, is_page_size, is_header, normal_state, stalled_state, IsNamed, Statement, Page, Image, first_page, image_state, image_scn, image_guid, with_page, Kept, Base, base_of, Stroke, page, merged_page, on_base, Begins, Seen, first_turn, IsSoundImage, HasHeader, IsKeptAs, GoesOn, HasRows, NamesPast, Trail, settled, bases_of, after_stroke, after_strokes, IsLeft, IsEarlier, IsCovered, IsWellIn, IsWellBase, IsOfRecord, IsWellBaseIn, is_on_pages, IsOverFrozen, AllGoOn, IsWellTrail, Contains-push}
use Rattle.nb_model.proofs.FitLaws.{IsWhole, IsFitting, AreFitting}
use Rattle.nb_model.proofs.SoundLaws.{FitsAt, header_stays, fields_stay, state_stays, guid_stays, page_sound}
use Rattle.nb_model.proofs.PutSound.{header_whole}
use Rattle.nb_model.proofs.PastLaws.{goes_on_still, rows_with, past_with, past_written, no_rows_pass}
use Rattle.nb_model.proofs.NoRows.{HasNoRows}
use Rattle.nb_model.proofs.PagesFit.{pages_fit}
use Rattle.nb_model.proofs.WellLaws.{fresh_well_base}
use Rattle.nb_model.proofs.NormalLaws.{IsQuiet, quiet, told_whole}
use Rattle.nb_model.proofs.TrailLaws.{trail_base}
use Rattle.nb_model.proofs.MixtureLaws.{mixed_scn, mixed_state, mixed_guid}
use Rattle.nb_model.proofs.EarlierLaws.{write_goes_on, settled_sound, bases_after, last_one, trail_goes_on, left_sound}
use Rattle.nb_model.proofs.StalledLaws.{stroke_stalled, stroke_over, left_stalled}
use Rattle.nb_model.proofs.LineageLaws.{goes_on_mixed, past_mixed}

-- the image of a well database is whole
pub base_whole : (kept : List Kept) (b : Base) → IsWellBaseIn kept b → IsWhole b.image
base_whole kept b w = header_whole b.image (record { header = w.well.header; scn = w.well.scn }) w.well.sound

-- its entries cover its pages
base_covered : (kept : List Kept) (b : Base) → IsWellBaseIn kept b → IsCovered b
base_covered kept b w = record { size = (base_whole kept b w).fields.size; entries = w.well.sound.sound.entries; raised = λ stalled. (w.stalled stalled).raised }

-- with the same frozen image and the same GUID a database is of the same record
of_record : (kept : List Kept) (a b : Base) → b.frozen ≡ a.frozen → image_guid b.image ≡ image_guid a.image → IsOfRecord kept a → IsOfRecord kept b
of_record kept a b frozen guid is = record { backup = is.backup; kept_as = subst (λ (g : List ℕ). IsKeptAs kept g is.backup) (sym guid) is.kept_as; same = frozen ∙ is.same }

-- Whatever a crash leaves of a well trail is well.
module _ (kept : List Kept) (t : Trail) (b : Base) (w : IsWellTrail kept t) (left : IsLeft t b) where
  there : Contains (bases_of t) t.base
  there = Contains-push t.earlier t.base

  left_state : image_state b.image ≡ image_state t.base.image
  left_state = mixed_state (bases_of t) t.base b.image left.mixed

  left_guid : image_guid b.image ≡ image_guid t.base.image
  left_guid = mixed_guid (bases_of t) t.base b.image left.mixed

  -- in the normal state nothing is diverted
  none_left : (xs ys : List ℕ) → [] ≡ xs ++ ys → xs ≡ []
  none_left [] ys e = refl
  none_left (x ∷ xs) ys e = absurd (let long = ap length e in omega arith)

  left_told : image_state b.image ≡ normal_state → b ≡ base_of b.image
  left_told normal =
      let is : t.base ≡ base_of t.base.image = w.base.normal (sym left_state ∙ normal) in
      told_whole b (left.rest.frozen ∙ ap (λ (c : Base). c.frozen) is) (none_left b.diverted left.rest.diverted.0 (sym (ap (λ (c : Base). c.diverted) is) ∙ left.rest.diverted.1))

  pub left_well : IsWellBaseIn kept b
  left_well = record {
    state = omega (arith, left_state, w.base.state);
    well = record {
      header = ap is_header left.mixed.first ∙ w.base.well.header;
      scn = omega (arith, mixed_scn (bases_of t) t.base b.image left.mixed, w.base.well.scn);
      state = refl;
      sound = left_sound t b w.sound left;
      past = past_mixed (bases_of t) t.base b.image left.mixed there kept (AllGoOn t) (λ r. GoesOn r b.image)
          (goes_on_mixed (bases_of t) t.base b.image left.mixed there w.base.well.sound) w.past;
    };
    normal = left_told;
    stalled = λ stalled. left_stalled t b left w.sound.steps stalled (w.base.stalled (sym left_state ∙ stalled));
    backup = λ stalled. of_record kept t.base b left.rest.frozen left_guid (w.base.backup (sym left_state ∙ stalled));
    merge = λ merge. left.rest.frozen ∙ w.base.merge (sym left_state ∙ merge);
  }

-- A well database, settled, is a well trail.
pub settled_well : (kept : List Kept) (b : Base) → IsWellBaseIn kept b → (image_state b.image ≡ stalled_state → IsOverFrozen b) → IsWellTrail kept (settled b)
settled_well kept b w over = record {
  base = w;
  over = over;
  sound = settled_sound b (base_covered kept b w) w.well.sound;
  past = λ m has. subst (λ (c : Base). NamesPast kept (AllGoOn (settled b)) c.image) (last_one b m has)
      (past_with kept (λ r. GoesOn r b.image) (AllGoOn (settled b)) (λ r on m here. subst (λ (c : Base). GoesOn r c.image) (last_one b m here) on) b.image w.well.past);
}

-- A page is written that fits, and whose rows of the history name backups from which all images go on.
module _ (kept : List Kept) (t : Trail) (p : ℕ) (bytes : Page) (w : IsWellTrail kept t) (fits : FitsAt t.base.image p (merged_page p bytes t.base.image)) (rows : HasRows kept (AllGoOn t) (merged_page p bytes t.base.image)) where
  abbrev now : Image
  now = t.base.image

  abbrev page_now : Page
  page_now = merged_page p bytes now

  abbrev later : Trail
  later = after_stroke (page p bytes) t

  abbrev later_base : Base
  later_base = on_base (page p bytes) t.base

  base_is : later_base ≡ later.base
  base_is = sym (trail_base (page p bytes) t)

  image_is : later_base.image ≡ with_page p page_now now
  unfolding on_base
  image_is = refl

  whole : IsWhole now
  whole = base_whole kept t.base w.base

  now_there : Contains (bases_of t) t.base
  now_there = Contains-push t.earlier t.base

  -- all go on from a record from which all went on
  pub go_on : (r : Kept) → AllGoOn t r → AllGoOn later r
  go_on r all = bases_after (λ m. GoesOn r m.image) (page p bytes) t all (subst (GoesOn r) (sym image_is) (goes_on_still now p page_now whole.fields whole.sound fits r (all t.base now_there)))

  past_now : NamesPast kept (AllGoOn later) later_base.image
  past_now = subst (NamesPast kept (AllGoOn later)) (sym image_is)
      (past_written kept (AllGoOn t) (AllGoOn later) go_on now p page_now whole.fields whole.sound fits (rows_with kept (AllGoOn t) (AllGoOn later) go_on page_now rows) (w.past t.base now_there))

  -- the last goes on
  last_goes_on : (r : Kept) → AllGoOn later r → GoesOn r later_base.image
  last_goes_on r all = all later_base (subst (Contains (bases_of later)) (sym base_is) (Contains-push later.earlier later.base))

  state : image_state later_base.image ≡ image_state now
  state = ap image_state image_is ∙ state_stays now p page_now whole.fields whole.sound fits

  guid : image_guid later_base.image ≡ image_guid now
  guid = ap image_guid image_is ∙ guid_stays now p page_now whole.fields whole.sound fits

  frozen : later_base.frozen ≡ t.base.frozen
  unfolding on_base
  frozen = refl

  sound : IsSoundImage later_base.image
  sound = subst IsSoundImage (sym image_is) (page_sound now p page_now whole.fields whole.sound fits)

  told : image_state later_base.image ≡ normal_state → later_base ≡ base_of later_base.image
  told normal =
      let one : IsQuiet (page p bytes) t.base = quiet (page p bytes) t.base tt (sym state ∙ normal) in
      let is : t.base ≡ base_of now = w.base.normal (sym state ∙ normal) in
      told_whole later_base (one.frozen ∙ ap (λ (c : Base). c.frozen) is) (one.diverted ∙ ap (λ (c : Base). c.diverted) is)

  base_well : IsWellBaseIn kept later_base
  base_well = record {
    state = omega (arith, state, w.base.state);
    well = record {
      header = ap (λ (x : Image). is_header (first_page x)) image_is ∙ header_stays now p page_now whole.fields whole.sound fits ∙ w.base.well.header;
      scn = subst (λ (x : Image). image_scn x < 4294967296) (sym image_is) (fields_stay now p page_now whole.fields whole.sound fits).scn;
      state = refl;
      sound = sound;
      past = past_with kept (AllGoOn later) (λ r. GoesOn r later_base.image) last_goes_on later_base.image past_now;
    };
    normal = told;
    stalled = λ stalled. let one : image_state now ≡ stalled_state = sym state ∙ stalled in stroke_stalled t.base p bytes whole one (w.base.stalled one) (w.over one) fits;
    backup = λ stalled. of_record kept t.base later_base frozen guid (w.base.backup (sym state ∙ stalled));
    merge = λ merge. frozen ∙ w.base.merge (sym state ∙ merge);
  }

  pub stroke_well : IsWellTrail kept (after_stroke (page p bytes) t)
  stroke_well = record {
    base = subst (IsWellBaseIn kept) base_is base_well;
    over = subst (λ (b : Base). image_state b.image ≡ stalled_state → IsOverFrozen b) base_is
        (λ stalled. let one : image_state now ≡ stalled_state = sym state ∙ stalled in stroke_over t.base p bytes whole one (w.base.stalled one) (w.over one) fits);
    sound = trail_goes_on (page p bytes) t w.sound (subst (IsEarlier now) (sym image_is) (write_goes_on p page_now now fits.there fits.head fits.no_lower)) (base_covered kept later_base base_well) sound;
    past = bases_after (λ m. NamesPast kept (AllGoOn later) m.image) (page p bytes) t (λ m here. past_with kept (AllGoOn t) (AllGoOn later) go_on m.image (w.past m here)) past_now;
  }

-- So strokes that fit and write no rows keep a trail well, at each point.
one_well : (kept : List Kept) (s : Stroke) (t : Trail) → IsFitting HasNoRows t.base.image s → IsWellTrail kept t → IsWellTrail kept (after_stroke s t)
one_well kept (page p bytes) t fits w = stroke_well kept t p bytes w fits.0 (no_rows_pass kept (AllGoOn t) (merged_page p bytes t.base.image) fits.1)
one_well kept other t fits w = absurd fits

pub fitting_well : (kept : List Kept) (ss : List Stroke) (t : Trail) → AreFitting HasNoRows t.base ss → IsWellTrail kept t → (k : ℕ) → IsWellTrail kept (after_strokes (take k ss) t)
unfolding after_strokes
fitting_well kept ss t fits w zero = w
fitting_well kept [] t fits w (suc k) = w
fitting_well kept (s ∷ ss) t fits w (suc k) =
    fitting_well kept ss (after_stroke s t) (subst (λ (b : Base). AreFitting HasNoRows b ss) (sym (trail_base s t)) fits.1) (one_well kept s t fits.0 w) k

-- So do statements on pages,
pub pages_keep_trail : (kept : List Kept) (statement : Statement) → is_on_pages statement ≡ true → IsNamed (Begins statement) → (s : Seen) (session : ℕ) (t : Trail) → s.base ≡ t.base → IsWellTrail kept t
    → (k : ℕ) → IsWellTrail kept (after_strokes (take k (first_turn s session statement).strokes) t)
pages_keep_trail kept statement on named s session t is w =
    let header : HasHeader s.base.image = subst (λ (b : Base). HasHeader b.image) (sym is) (record { header = w.base.well.header; scn = w.base.well.scn }) in
    let sound : IsSoundImage s.base.image = subst (λ (b : Base). IsSoundImage b.image) (sym is) w.base.well.sound in
    fitting_well kept (first_turn s session statement).strokes t (subst (λ (b : Base). AreFitting HasNoRows b (first_turn s session statement).strokes) is (pages_fit statement on named s session header sound)) w

-- and where all is kept for good the trail is well too.
pub settling_well : (kept : List Kept) (t : Trail) → IsWellTrail kept t → IsWellTrail kept (settled t.base)
settling_well kept t w = settled_well kept t.base w.base w.over

-- in the normal state a well database is one that its image tells whole
pub well_normal : (kept : List Kept) (b : Base) → IsWellBase kept b → IsWellBaseIn kept b
well_normal kept b w =
    let normal : image_state b.image ≡ normal_state = w.well.state in
    record {
      state = omega arith;
      well = subst (λ (n : ℕ). IsWellIn kept n b.image) (sym normal) w.well;
      normal = λ again. w.told;
      stalled = λ stalled. absurd (omega arith);
      backup = λ stalled. absurd (omega arith);
      merge = λ merge. absurd (omega arith);
    }

-- A well trail begins with a new database.
pub fresh_trail : (kept : List Kept) (size raw : ℕ) → IsTrue (is_page_size size) → raw ≤ 65535 → IsWellTrail kept (settled (base_of (fresh size raw)))
fresh_trail kept size raw is few =
    let w : IsWellBase kept (base_of (fresh size raw)) = fresh_well_base kept size raw is few in
    settled_well kept (base_of (fresh size raw)) (well_normal kept (base_of (fresh size raw)) w) (λ stalled. absurd (omega (arith, stalled, w.well.state)))
