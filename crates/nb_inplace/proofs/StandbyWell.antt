-- The image of a kept backup, read-only and in the normal state, is well.
use Rattle.std.proofs.Common.{◌≡◌, inr, ◌≤◌, List, [], ◌∷◌, length, refl, subst, arith, Contains}
use Rattle.nb_inplace.proofs.Common.{size_facts, Files, Kept, Base, base_of, Account, Page, Image, first_page, image_size, HasHeader, IsSoundImage, to_record, IsBegun, GoesOn, NamesPast, Stands, standby_page, as_standby, header-room, header-size, all_at}
use Rattle.nb_model.specs.Well.{IsWell, IsWellBase, IsWellBaseIn}
use Rattle.nb_model.proofs.WellTrailLaws.{well_normal}
use Rattle.nb_model.proofs.FirstPageLaws.{with_first}
use Rattle.nb_restore.proofs.FirstWell.{IsLikeFirst, first_well}
use Rattle.nb_inplace.proofs.ControlLaws.{standby-long, standby-state, standby-number, standby-size, standby-scn, standby-guid, standby-header}

-- page 0 is that of a standby
standby_first : (image : Image) → with_first (standby_page (first_page image)) image ≡ as_standby image
standby_first [] = refl
standby_first (p ∷ ps) = refl

module _ (image : Image) (h : HasHeader image) (is : IsSoundImage image) where
  abbrev page : Page
  page = first_page image

  long : 66 ≤ length page
  long =
      let wide = (size_facts (image_size image) (header-size page h.header)).at_least in
      omega (arith, wide, all_at (λ (x : Page). length x ≡ image_size image) image is.sizes 0 (omega (arith, is.least)))

  like : IsLikeFirst page (standby_page page)
  like = record {
    long = standby-long page long;
    header = standby-header page long h.header;
    size = standby-size page long;
    scn = standby-scn page long;
    guid = standby-guid page long;
    stamp = standby-number page long 8 4 (inr (omega arith)) (inr (omega arith)) (inr (omega arith));
  }

  standby_well : (kept : List Kept) → NamesPast kept (λ r. GoesOn r image) image → IsWell kept (as_standby image)
  standby_well kept named = subst (IsWell kept) (standby_first image) (first_well image (standby_page page) h is like kept 0 (standby-state page long) named)

pub merged_well : (files : Files) (account : Account) (r : Kept) → Stands files account → Contains account.kept r → IsWellBaseIn account.kept (base_of (as_standby r.image))
merged_well files account r stands there =
    let begun : IsBegun r = stands.sound_images.records r there in
    let header : HasHeader r.image = record { header = begun.header; scn = omega (arith, header-room (first_page r.image) begun.header begun.state) } in
    let sound : IsSoundImage r.image = stands.sound_images.images r.image (to_record r there refl) in
    let b : Base = base_of (as_standby r.image) in
    let w : IsWellBase account.kept b = record { told = refl; well = standby_well r.image header sound account.kept (stands.history.images r.image (to_record r there refl)) } in
    well_normal account.kept b w
