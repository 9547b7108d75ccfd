-- The control strokes of a backup change no row of a table: they write page 0 alone.
use Rattle.std.proofs.Common.{◌≡◌, ℕ, ◌+◌, ◌≤◌, List, [], ◌∷◌, length, refl, sym, ap, subst, arith, Option}
use Rattle.nb_model.proofs.Common.{normal_state, stalled_state, merge_state, Ask, Base, History, Page, Image, image_state, image_scn, image_guid, KeepsRows, rows, IsNeat, HasHeader, IsSoundImage, Stroke, begin, ends, finish, on_base, with_control}
use Rattle.nb_model.proofs.Along.{Along, along_front}
use Rattle.nb_model.proofs.ControlMay.{may_begin, may_end, may_finish}
use Rattle.nb_model.proofs.ControlSound.{MayControl, control_rest, control_long, new_size, new_free}
use Rattle.nb_model.proofs.HeldChains.{nothing_changes}
use Rattle.nb_model.proofs.HeldLaws.{IsHeld, held_by}
use Rattle.nb_model.proofs.NeatLaws.{stays_neat, other_rows, no_catalogue_history}
use Rattle.nb_model.proofs.TrimLaws.{finish_full}

module _ (b : Base) (header : HasHeader b.image) (is : IsSoundImage b.image) (neat : IsNeat b.image) where
  abbrev Good : Image → Type 0
  Good z = IsNeat z × ((table : List ℕ) → rows z table ≡ rows b.image table)

  good : (z : Image) → ((q : ℕ) (bytes : Page) → IsHeld q bytes b.image → IsHeld q bytes z) → length b.image ≤ length z → Good z
  good z keeps longer =
      let still = nothing_changes b.image header is neat z longer keeps in
      (stays_neat b.image z neat History no_catalogue_history still (λ first e. cc), λ table. other_rows b.image z neat History no_catalogue_history still table (λ u found e. cc))

  -- Page 0 gets another state, SCN and GUID.
  control_rows : (state scn : ℕ) (guid : List ℕ) (s : Stroke) → MayControl state scn guid b.image → (on_base s b).image ≡ with_control state scn guid b.image → KeepsRows b (s ∷ [])
  control_rows state scn guid s may same = record { neat = λ k. (along_front Good b (s ∷ []) along k).0; rows = λ k. (along_front Good b (s ∷ []) along k).1 }
    where
      along : Along Good b (s ∷ [])
      along = (
        good b.image (λ q bytes held. held) (omega arith),
        subst Good (sym same) (good (with_control state scn guid b.image)
            (λ q bytes held. held_by q bytes b.image (with_control state scn guid b.image) (new_size state scn guid b.image header is may) (omega (arith, control_long state scn guid b.image))
            (control_rest state scn guid b.image q held.behind) (new_free state scn guid b.image header is may q) held) (omega (arith, control_long state scn guid b.image))),
      )

  pub begin_rows : (guid : List ℕ) (ask : Option Ask) → image_scn b.image ≤ 4294967293 → length guid ≡ 16 → KeepsRows b (begin guid ask ∷ [])
  unfolding on_base
  begin_rows guid ask scn sixteen = control_rows stalled_state (image_scn b.image + 1) guid (begin guid ask) (may_begin b.image header guid sixteen scn) refl

  pub ends_rows : image_state b.image ≡ stalled_state → KeepsRows b (ends ∷ [])
  unfolding on_base
  ends_rows stalled = control_rows merge_state (image_scn b.image + 1) (image_guid b.image) ends (may_end b.image header stalled) refl

  pub finish_rows : KeepsRows b (finish ∷ [])
  finish_rows = control_rows normal_state (image_scn b.image) (image_guid b.image) finish (may_finish b.image header) (ap (λ (c : Base). c.image) (finish_full b is.sound.no_zeros))
