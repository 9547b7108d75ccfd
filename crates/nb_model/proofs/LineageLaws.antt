-- Lineage of mixtures: a mixture goes on from what all images go on from, and names what one of them names.
use Rattle.std.proofs.Common.{◌≡◌, ℕ, List, sym, subst, ◌∙◌, arith, Contains}
use Rattle.nb_model.proofs.Common.{Image, page_at, image_guid, Base, Kept, IsSoundImage, IsKeptAs, GoesOn, HasRows, NamesPast, Follows, images, IsMixture}
use Rattle.nb_model.proofs.FollowsLaws.{follows_mixed}
use Rattle.nb_model.proofs.PastLaws.{rows_with}
use Rattle.nb_model.proofs.MixtureLaws.{all_images, mixed_size, mixed_scn, mixed_guid, mixture_mixed}

module _ (bases : List Base) (now : Base) (image : Image) (mixed : IsMixture bases now.image image) (there : Contains bases now) where
  pub goes_on_mixed : IsSoundImage now.image → (r : Kept) → ((m : Base) → Contains bases m → GoesOn r m.image) → GoesOn r image
  goes_on_mixed sound r all =
      let on : GoesOn r now.image = all now there in
      record {
        earlier = omega (arith, on.earlier, mixed_scn bases now image mixed);
        follows = follows_mixed (images bases) image (all_images (λ m. Follows r.image r.scn m) bases (λ m has. (all m has).follows)) (mixed_size bases now image mixed ∙ on.follows.size)
            (mixture_mixed bases now image mixed there r.scn (omega (arith, on.earlier, sound.sound.stamps.head)));
      }

  pub past_mixed : (kept : List Kept) (P R : Kept → Type 0) → ((r : Kept) → P r → R r) → ((m : Base) → Contains bases m → NamesPast kept P m.image) → NamesPast kept R image
  past_mixed kept P R goes all = record {
    rows = λ p low.
        let has = mixed.each p low in
        subst (HasRows kept R) (sym has.same) (rows_with kept P R goes (page_at has.base.image p) ((all has.base has.there).rows p has.below));
    last = λ some.
        let same : image_guid image ≡ image_guid now.image = mixed_guid bases now image mixed in
        let old = (all now there).last (λ none. some (same ∙ none)) in
        (old.0, subst (λ (guid : List ℕ). IsKeptAs kept guid old.0) (sym same) old.1, goes old.0 old.2);
  }
