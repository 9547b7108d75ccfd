-- A trail stays sound: what was before stays before, and a page write that lowers no entry goes on.
use Rattle.std.proofs.Common.{◌≡◌, inl, inr, ℕ, zero, suc, ◌/◌, ◌%◌, ◌≤◌, [], ◌∷◌, length, take, refl, sym, ap, subst, ◌∙◌, arith, Bool, true, false, Contains}
use Rattle.nb_model.proofs.Common.{eqb_tells, Contains-append_cases, scn_place, entries_in, entry_of, Page, Image, page_at, first_page, image_size, image_scn, with_page, Base, scn_page_of, entry_number, scn_entry, IsSoundImage, Stroke, on_base, Trail, settled, bases_of, settles_at, after_stroke, IsLeft, IsEarlier, IsCovered, AreInStep, LowersNone, IsSoundTrail, Contains-push}
use Rattle.nb_model.proofs.HeaderLaws.{same-number}
use Rattle.nb_model.proofs.SoundLaws.{with_page_length}
use Rattle.nb_model.proofs.StrokeLaws.{with_page_same, with_page_other, with_page_front}
use Rattle.nb_model.proofs.TrailLaws.{settles_after, waits_after}
use Rattle.nb_model.proofs.MixtureLaws.{entry_same, IsSoundBefore, mixture_sound}
use Rattle.nb_model.proofs.CoveredLaws.{steps_more, steps_before}

-- a page write that lowers no entry
module _ (p : ℕ) (bytes : Page) (image : Image) (low : p ≤ length image) (head : p ≡ 0 → take 64 bytes ≡ take 64 (first_page image)) (lowers : LowersNone p bytes image) where
  abbrev new : Image
  new = with_page p bytes image

  front : take 64 (first_page new) ≡ take 64 (first_page image)
  front = with_page_front p bytes image low head

  size_stays : image_size new ≡ image_size image
  size_stays = same-number (first_page new) (first_page image) front 24 4 (omega arith)

  scn_stays : image_scn new ≡ image_scn image
  scn_stays = same-number (first_page new) (first_page image) front 28 4 (omega arith)

  entry_now : (q : ℕ) → scn_entry new q ≡ entry_of (page_at new (scn_page_of image q)) (entry_number image q)
  unfolding scn_entry
  entry_now q = ap (λ (s : ℕ). entry_of (page_at new (scn_place s (q / entries_in s))) (q % entries_in s)) size_stays

  pub write_goes_on : IsEarlier image new
  write_goes_on = record {
    long = omega (arith, with_page_length p bytes image low);
    size = sym size_stays;
    scn = omega (arith, scn_stays);
    entries = λ q inside has. elim (eqb_tells (scn_page_of image q) p) [
      | inl w ↦ omega (arith, lowers q w.1 has inside, entry_now q ∙ ap (λ (x : Page). entry_of x (entry_number image q)) (ap (page_at new) w.1 ∙ with_page_same p bytes image low))
      | inr w ↦ omega (arith, entry_same new image size_stays q (with_page_other p (scn_page_of image q) bytes image low w.1))
    ];
  }

-- the only one of a list of one
pub last_one : (b m : Base) → Contains (b ∷ []) m → b ≡ m
last_one b m (zero, low, is) = is
last_one b m (suc k, low, is) = absurd (omega (arith, low))

-- a settled trail of a sound database is sound
pub settled_sound : (b : Base) → IsCovered b → IsSoundImage b.image → IsSoundTrail (settled b)
settled_sound b covered sound = record { sound = λ m there. subst (λ (c : Base). IsSoundImage c.image) (last_one b m there) sound; steps = (covered, tt, tt) }

-- The databases of a trail one stroke later: the new one alone where it settles, and otherwise after those before.
pub bases_after : (P : Base → Type 0) (s : Stroke) (t : Trail) → ((m : Base) → Contains (bases_of t) m → P m) → P (on_base s t.base) → (m : Base) → Contains (bases_of (after_stroke s t)) m → P m
bases_after P s t before now = by (settles_at t s) refl
  where
    new : Base
    new = on_base s t.base

    last : (m : Base) → Contains (new ∷ []) m → P m
    last m there = subst P (last_one new m there) now

    by : (u : Bool) → settles_at t s ≡ u → (m : Base) → Contains (bases_of (after_stroke s t)) m → P m
    by true is m there = last m (subst (λ (x : Trail). Contains (bases_of x) m) (settles_after s t is) there)
    by false is m there = elim (Contains-append_cases (bases_of t) (new ∷ []) m (subst (λ (x : Trail). Contains (bases_of x) m) (waits_after s t is) there)) [
      | inl old ↦ before m old
      | inr behind ↦ last m behind
    ]

-- A stroke that goes on to a sound database that is covered keeps the trail sound.
pub trail_goes_on : (s : Stroke) (t : Trail) → IsSoundTrail t → IsEarlier t.base.image (on_base s t.base).image → IsCovered (on_base s t.base) → IsSoundImage (on_base s t.base).image → IsSoundTrail (after_stroke s t)
trail_goes_on s t trail earlier covered sound = record {
  sound = bases_after (λ (m : Base). IsSoundImage m.image) s t trail.sound sound;
  steps = by (settles_at t s) refl;
}
  where
    by : (u : Bool) → settles_at t s ≡ u → AreInStep (bases_of (after_stroke s t))
    by true is = subst (λ (x : Trail). AreInStep (bases_of x)) (sym (settles_after s t is)) (covered, tt, tt)
    by false is = subst (λ (x : Trail). AreInStep (bases_of x)) (sym (waits_after s t is)) (steps_more t.earlier t.base (on_base s t.base) trail.steps earlier covered)

-- each was sound and before the last
pub sound_before : (t : Trail) → IsSoundTrail t → (m : Base) → Contains (bases_of t) m → IsSoundBefore t.base.image m.image
sound_before t trail m there = record { sound = trail.sound m there; earlier = steps_before t.earlier t.base m trail.steps there }

-- what a crash may leave of a sound trail is sound
pub left_sound : (t : Trail) (b : Base) → IsSoundTrail t → IsLeft t b → IsSoundImage b.image
left_sound t b trail left = mixture_sound (bases_of t) t.base b.image (sound_before t trail) (trail.sound t.base (Contains-push t.earlier t.base)) (left.covered trail.steps).entries left.mixed
