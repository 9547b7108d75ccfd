-- The control strokes of a backup keep a database well: a well trail begins after each of them.
use Rattle.std.proofs.Common.{◌≡◌, ℕ, ◌+◌, ◌<◌, ◌≤◌, List, [], ◌∷◌, ◌++◌, length, refl, sym, subst, arith, Option, Some}
use Rattle.nb_model.proofs.Common.{Contains-append_right, normal_state, stalled_state, merge_state, Image, first_page, image_state, image_scn, image_guid, Ask, Kept, Base, begin, ends, finish, with_control, on_base, records_of, entry_for, HasHeader, IsKeptAs, GoesOn, IsRaised, settled, IsWellBaseIn, IsOverFrozen, IsWellTrail}
use Rattle.nb_model.proofs.EntryLaws.{for_below}
use Rattle.nb_model.proofs.HeaderLaws.{header-room}
use Rattle.nb_model.proofs.NormalLaws.{told_whole}
use Rattle.nb_model.proofs.PastLaws.{past_more}
use Rattle.nb_model.proofs.TrimLaws.{finish_full}
use Rattle.nb_model.proofs.ControlMay.{may_begin, may_end, may_finish}
use Rattle.nb_model.proofs.ControlSound.{MayControl, new_state, new_scn, new_guid, new_header, control_sound, control_goes_on, control_past, control_old}
use Rattle.nb_model.proofs.WellTrailLaws.{settled_well}

-- no page is named by an empty table
none_named : (p k : ℕ) → entry_for p [] ≡ Some k → ⊥
none_named p k e = absurd (let low = for_below p k [] e in omega arith)

module _ (kept : List Kept) (b : Base) (w : IsWellBaseIn kept b) where
  abbrev image : Image
  image = b.image

  header : HasHeader image
  header = record { header = w.well.header; scn = w.well.scn }

  -- A backup begins: its record is kept.
  module _ (guid : List ℕ) (ask : Option Ask) (normal : image_state image ≡ normal_state) (sixteen : length guid ≡ 16) (room : image_scn image ≤ 4294967293) where
    abbrev now : Image
    now = with_control stalled_state (image_scn image + 1) guid image

    abbrev r : Kept
    r = record { guid = guid; scn = image_scn image; ask = ask; image = now }

    abbrev begun : Base
    begun = record { image = now; frozen = now; diverted = [] }

    begun_is : begun ≡ on_base (begin guid ask) b
    unfolding on_base
    begun_is = refl

    record_is : r ∷ [] ≡ records_of (begin guid ask) b
    unfolding on_base records_of
    record_is = refl

    begin_may : MayControl 1 (image_scn image + 1) guid image
    begin_may = may_begin image header guid sixteen room

    begun_state : image_state now ≡ stalled_state
    begun_state = new_state stalled_state (image_scn image + 1) guid image header w.well.sound begin_may

    begun_scn : image_scn now ≡ image_scn image + 1
    begun_scn = new_scn 1 (image_scn image + 1) guid image header w.well.sound begin_may

    begun_guid : image_guid now ≡ guid
    begun_guid = new_guid 1 (image_scn image + 1) guid image header w.well.sound begin_may

    kept_now : IsKeptAs (kept ++ r ∷ []) guid r
    kept_now = record { there = Contains-append_right kept (r ∷ []) r (0, omega arith, refl); named = refl }

    pub goes_on_now : GoesOn r now
    goes_on_now = record { earlier = omega (arith, begun_scn); follows = record { size = refl; no_shorter = omega arith; same = λ p low old. (low, refl) } }

    none_raised : IsRaised now []
    none_raised = record { behind = λ p k e has. absurd (none_named p k e); current = λ p k e has. absurd (none_named p k e) }

    begun_well : IsWellBaseIn (kept ++ r ∷ []) begun
    begun_well = record {
      state = omega (arith, begun_state);
      well = record {
        header = new_header 1 (image_scn image + 1) guid image header w.well.sound begin_may;
        scn = omega (arith, begun_scn, room);
        state = refl;
        sound = control_sound stalled_state (image_scn image + 1) guid image header w.well.sound begin_may;
        past = control_past stalled_state (image_scn image + 1) guid image header w.well.sound begin_may (kept ++ r ∷ []) (λ q. GoesOn q image) (λ q. GoesOn q now)
            (control_goes_on stalled_state (image_scn image + 1) guid image header w.well.sound begin_may) (λ named. (r, kept_now, goes_on_now)) (past_more kept (r ∷ []) (λ q. GoesOn q image) image w.well.past);
      };
      normal = λ zero. absurd (omega (arith, zero, begun_state));
      stalled = λ stalled. record { raised = none_raised; old = control_old stalled_state (image_scn image + 1) guid image header w.well.sound begin_may (omega arith) };
      backup = λ stalled. record { backup = r; kept_as = subst (λ (g : List ℕ). IsKeptAs (kept ++ r ∷ []) g r) (sym begun_guid) kept_now; same = refl };
      merge = λ merge. absurd (omega (arith, merge, begun_state));
    }

    begun_over : IsOverFrozen begun
    begun_over = record { front = refl; rest = λ p low none. (low, refl); below = λ p k e. absurd (none_named p k e) }

    pub begin_well : IsWellTrail (kept ++ records_of (begin guid ask) b) (settled (on_base (begin guid ask) b))
    begin_well = subst (λ (rs : List Kept). IsWellTrail (kept ++ rs) (settled (on_base (begin guid ask) b))) record_is
        (subst (λ (c : Base). IsWellTrail (kept ++ r ∷ []) (settled c)) begun_is (settled_well (kept ++ r ∷ []) begun begun_well (λ stalled. begun_over)))

  -- The stalled state ends.
  module _ (stalled : image_state image ≡ stalled_state) where
    room : image_scn image < 4294967295
    room = header-room (first_page image) w.well.header stalled

    abbrev ended : Base
    ended = record { image = with_control merge_state (image_scn image + 1) (image_guid image) image; frozen = []; diverted = b.diverted }

    ended_is : ended ≡ on_base ends b
    unfolding on_base
    ended_is = refl

    ends_may : MayControl 2 (image_scn image + 1) (image_guid image) image
    ends_may = may_end image header stalled

    ended_state : image_state ended.image ≡ merge_state
    ended_state = new_state merge_state (image_scn image + 1) (image_guid image) image header w.well.sound ends_may

    ended_goes_on : (q : Kept) → GoesOn q image → GoesOn q ended.image
    ended_goes_on = control_goes_on merge_state (image_scn image + 1) (image_guid image) image header w.well.sound ends_may

    ended_well : IsWellBaseIn kept ended
    ended_well = record {
      state = omega (arith, ended_state);
      well = record {
        header = new_header 2 (image_scn image + 1) (image_guid image) image header w.well.sound ends_may;
        scn = omega (arith, new_scn 2 (image_scn image + 1) (image_guid image) image header w.well.sound ends_may, room);
        state = refl;
        sound = control_sound merge_state (image_scn image + 1) (image_guid image) image header w.well.sound ends_may;
        past = control_past merge_state (image_scn image + 1) (image_guid image) image header w.well.sound ends_may kept (λ q. GoesOn q image) (λ q. GoesOn q ended.image) ended_goes_on
            (λ named. let old = w.well.past.last named in (old.0, old.1, ended_goes_on old.0 old.2)) w.well.past;
      };
      normal = λ zero. absurd (omega (arith, zero, ended_state));
      stalled = λ one. absurd (omega (arith, one, ended_state));
      backup = λ one. absurd (omega (arith, one, ended_state));
      merge = λ merge. refl;
    }

    pub ends_well : IsWellTrail kept (settled (on_base ends b))
    ends_well = subst (λ (c : Base). IsWellTrail kept (settled c)) ended_is (settled_well kept ended ended_well (λ one. absurd (omega (arith, one, ended_state))))

  -- All is merged.
  module _ (merge : image_state image ≡ merge_state) where
    abbrev finished : Base
    finished = record { image = with_control normal_state (image_scn image) (image_guid image) image; frozen = b.frozen; diverted = [] }

    finished_is : finished ≡ on_base finish b
    finished_is = sym (finish_full b w.well.sound.sound.no_zeros)

    finish_may : MayControl 0 (image_scn image) (image_guid image) image
    finish_may = may_finish image header

    finished_state : image_state finished.image ≡ normal_state
    finished_state = new_state normal_state (image_scn image) (image_guid image) image header w.well.sound finish_may

    finished_goes_on : (q : Kept) → GoesOn q image → GoesOn q finished.image
    finished_goes_on = control_goes_on normal_state (image_scn image) (image_guid image) image header w.well.sound finish_may

    finished_well : IsWellBaseIn kept finished
    finished_well = record {
      state = omega (arith, finished_state);
      well = record {
        header = new_header 0 (image_scn image) (image_guid image) image header w.well.sound finish_may;
        scn = omega (arith, new_scn 0 (image_scn image) (image_guid image) image header w.well.sound finish_may, w.well.scn);
        state = refl;
        sound = control_sound normal_state (image_scn image) (image_guid image) image header w.well.sound finish_may;
        past = control_past normal_state (image_scn image) (image_guid image) image header w.well.sound finish_may kept (λ q. GoesOn q image) (λ q. GoesOn q finished.image) finished_goes_on
            (λ named. let old = w.well.past.last named in (old.0, old.1, finished_goes_on old.0 old.2)) w.well.past;
      };
      normal = λ zero. told_whole finished (w.merge merge) refl;
      stalled = λ stalled. absurd (omega (arith, stalled, finished_state));
      backup = λ stalled. absurd (omega (arith, stalled, finished_state));
      merge = λ two. absurd (omega (arith, two, finished_state));
    }

    pub finish_well : IsWellTrail kept (settled (on_base finish b))
    finish_well = subst (λ (c : Base). IsWellTrail kept (settled c)) finished_is (settled_well kept finished finished_well (λ stalled. absurd (omega (arith, stalled, finished_state))))
