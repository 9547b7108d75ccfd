-- An image whose page 0 becomes another with the same control fields, but for the state, stays well.
use Rattle.std.proofs.Common.{◌≡◌, ℕ, List, length, sym, ap, subst, ◌∙◌, arith, true}
use Rattle.nb_restore.proofs.Common.{is_header, state_of, size_of, scn_of, guid_of, stamp_of, Page, Image, first_page, Kept, HasHeader, IsSoundImage, IsKeptAs, GoesOn, NamesPast, IsWellIn, with_first, IsLaterFirst, first, new_header, first_sound, first_goes_on, first_past}

-- page 0 may become this page
pub record IsLikeFirst (before page : Page) : Type 0 where
  pub long : length page ≡ length before
  pub header : is_header page ≡ true
  pub size : size_of page ≡ size_of before
  pub scn : scn_of page ≡ scn_of before
  pub guid : guid_of page ≡ guid_of before
  pub stamp : stamp_of page ≡ stamp_of before

module _ (image : Image) (page : Page) (h : HasHeader image) (is : IsSoundImage image) (like : IsLikeFirst (first_page image) page) where
  later : IsLaterFirst (first_page image) page
  later = record {
    long = like.long;
    header = like.header;
    size = like.size;
    later = omega (arith, like.scn);
    stamp = like.stamp ∙ is.sound.stamps.head ∙ sym like.scn;
  }

  goes_on : (r : Kept) → GoesOn r image → GoesOn r (with_first page image)
  goes_on = first_goes_on image page h is later

  -- It is well where the image goes on from each backup that it names, in the state that the page says.
  pub first_well : (kept : List Kept) (state : ℕ) → state_of page ≡ state → NamesPast kept (λ r. GoesOn r image) image → IsWellIn kept state (with_first page image)
  first_well kept state is_state named = record {
    header = new_header image page h is later;
    scn = omega (arith, ap scn_of (first image page h is later), like.scn, h.scn);
    state = ap state_of (first image page h is later) ∙ is_state;
    sound = first_sound image page h is later;
    past = first_past image page h is later kept (λ r. GoesOn r image) (λ r. GoesOn r (with_first page image)) goes_on
        (λ some.
        let old = named.last (λ none. some (like.guid ∙ none)) in
        (old.0, subst (λ (g : List ℕ). IsKeptAs kept g old.0) (sym like.guid) old.1, goes_on old.0 old.2))
        named;
  }
