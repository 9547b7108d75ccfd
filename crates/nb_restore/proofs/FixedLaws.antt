-- An image in the normal state, with nothing else changed, stays sound and goes on from what it went on from.
use Rattle.std.proofs.Common.{◌≡◌, inl, List, [], ◌∷◌, refl, subst, arith}
use Rattle.nb_restore.proofs.Common.{part-with_part_other, Page, Image, first_page, Kept, fixed, HasHeader, IsSoundImage, GoesOn, NamesPast, IsWell, header-long, with_first}
use Rattle.nb_fields.specs.Bytes.{bytes_of}
use Rattle.nb_restore.proofs.FinishLaws.{normal_page, normal-length, normal-state, normal-size, normal-header, before, past, two}
use Rattle.nb_restore.proofs.FirstWell.{IsLikeFirst, first_well}

-- page 0 is that page in the normal state
fixed_first : (image : Image) → with_first (normal_page (first_page image)) image ≡ fixed image
unfolding fixed
fixed_first [] = refl
fixed_first (p ∷ ps) = refl

module _ (image : Image) (h : HasHeader image) (is : IsSoundImage image) where
  abbrev page : Page
  page = first_page image

  like : IsLikeFirst page (normal_page page)
  like = record {
    long = normal-length page h.header;
    header = normal-header page h.header;
    size = normal-size page h.header;
    scn = past page h.header 28 4 (omega arith);
    guid = part-with_part_other 22 2 32 16 (bytes_of 2 0) page two (omega (arith, header-long page h.header)) (inl (omega arith));
    stamp = before page h.header 8 4 (omega arith);
  }

  -- So it is well where the image goes on from each backup that it names.
  pub fixed_well : (kept : List Kept) → NamesPast kept (λ r. GoesOn r image) image → IsWell kept (fixed image)
  fixed_well kept named = subst (IsWell kept) (fixed_first image) (first_well image (normal_page page) h is like kept 0 (normal-state page h.header) named)
