-- An image stays sound where page 0 gets another state, SCN and GUID, and goes on from what it went on from.
use Rattle.std.proofs.Common.{◌≡◌, ◌≢◌, ℕ, zero, suc, ◌/◌, ◌<◌, ◌≤◌, List, [], ◌∷◌, length, refl, sym, ap, subst, ◌∙◌, arith, true}
use Rattle.nb_model.proofs.Common.{is_header, is_sound, state_of, size_of, scn_of, guid_of, bits_in, Page, Image, page_at, first_page, image_size, image_state, image_scn, image_guid, Kept, controlled, with_control, inventory_of, is_free_page, HasHeader, IsSoundImage, nil, IsKeptAs, GoesOn, NamesPast, HasOldEntries}
use Rattle.nb_model.proofs.ControlLaws.{control_length, control_size, control_stamp, control_state, control_scn, control_guid, control_header}
use Rattle.nb_model.proofs.FirstPageLaws.{with_first, IsLaterFirst, first_sound, first_goes_on, first_past, first_old}
use Rattle.nb_model.proofs.HeaderLaws.{header-long}
use Rattle.nb_model.proofs.MainLaws.{some_page}
use Rattle.nb_model.proofs.MixtureLaws.{free_same}
use Rattle.nb_model.proofs.PutSound.{header_fields}
use Rattle.nb_model.proofs.SoundLaws.{HasFields, inventory_place_some}

control_first : (state scn : ℕ) (guid : List ℕ) (image : Image) → 1 ≤ length image → first_page (with_control state scn guid image) ≡ controlled state scn guid (first_page image)
unfolding with_control
control_first state scn guid [] some = absurd (omega arith)
control_first state scn guid (p ∷ ps) some = refl

control_is : (state scn : ℕ) (guid : List ℕ) (image : Image) → 1 ≤ length image → with_control state scn guid image ≡ with_first (controlled state scn guid (first_page image)) image
unfolding with_control
control_is state scn guid [] some = absurd (omega arith)
control_is state scn guid (p ∷ ps) some = refl

pub control_rest : (state scn : ℕ) (guid : List ℕ) (image : Image) (q : ℕ) → 1 ≤ q → page_at (with_control state scn guid image) q ≡ page_at image q
unfolding with_control
control_rest state scn guid [] q some = refl
control_rest state scn guid (p ∷ ps) zero some = absurd (omega arith)
control_rest state scn guid (p ∷ ps) (suc q) some = refl

pub control_long : (state scn : ℕ) (guid : List ℕ) (image : Image) → length (with_control state scn guid image) ≡ length image
unfolding with_control
control_long state scn guid [] = refl
control_long state scn guid (p ∷ ps) = refl

-- what page 0 may become
pub record MayControl (state scn : ℕ) (guid : List ℕ) (image : Image) : Type 0 where
  pub sixteen : length guid ≡ 16
  pub four : scn < 4294967296
  pub later : image_scn image ≤ scn
  pub known : state ≤ 2
  pub sound : is_sound state (image_size image) scn ≡ true

-- What page 0 says then, whatever else stands in the image.
module _ (state scn : ℕ) (guid : List ℕ) (image : Image) (h : HasHeader image) (may : MayControl state scn guid image) where
  abbrev then : Image
  then = with_control state scn guid image

  header_long : 64 ≤ length (first_page image)
  header_long = header-long (first_page image) h.header

  first_then : first_page then ≡ controlled state scn guid (first_page image)
  first_then = control_first state scn guid image (some_page image h.header)

  state_low : state < 65536
  state_low = omega (arith, may.known)

  pub size_then : image_size then ≡ image_size image
  size_then = ap size_of first_then ∙ control_size state scn guid (first_page image) header_long may.sixteen

  pub state_then : image_state then ≡ state
  state_then = ap state_of first_then ∙ control_state state scn guid (first_page image) header_long may.sixteen state_low

  pub scn_then : image_scn then ≡ scn
  scn_then = ap scn_of first_then ∙ control_scn state scn guid (first_page image) header_long may.sixteen may.four

  pub header_then : HasHeader then
  header_then = record {
    header = ap is_header first_then ∙ control_header state scn guid (first_page image) header_long may.sixteen h.header may.sound state_low may.four;
    scn = subst (λ (n : ℕ). n < 4294967296) (sym scn_then) may.four;
  }

module _ (state scn : ℕ) (guid : List ℕ) (image : Image) (h : HasHeader image) (is : IsSoundImage image) (may : MayControl state scn guid image) where
  abbrev new : Image
  new = with_control state scn guid image

  fields : HasFields image
  fields = header_fields image h

  long : 64 ≤ length (first_page image)
  long = header-long (first_page image) h.header

  first : first_page new ≡ controlled state scn guid (first_page image)
  first = control_first state scn guid image (some_page image h.header)

  rest : (q : ℕ) → 1 ≤ q → page_at new q ≡ page_at image q
  rest = control_rest state scn guid image

  pub new_size : image_size new ≡ image_size image
  new_size = size_then state scn guid image h may

  pub new_state : image_state new ≡ state
  new_state = state_then state scn guid image h may

  pub new_scn : image_scn new ≡ scn
  new_scn = scn_then state scn guid image h may

  pub new_guid : image_guid new ≡ guid
  new_guid = ap guid_of first ∙ control_guid state scn guid (first_page image) long may.sixteen

  pub new_header : is_header (first_page new) ≡ true
  new_header = (header_then state scn guid image h may).header

  -- bits stay
  pub new_free : (p : ℕ) → is_free_page new p ≡ is_free_page image p
  new_free p = free_same new image new_size p (rest (inventory_of image p) (inventory_place_some (image_size image) (p / bits_in (image_size image)) fields.size))

  -- So it is the image with a later page 0.
  abbrev page : Page
  page = controlled state scn guid (first_page image)

  is_new : new ≡ with_first page image
  is_new = control_is state scn guid image (some_page image h.header)

  its_scn : scn_of page ≡ scn
  its_scn = control_scn state scn guid (first_page image) long may.sixteen may.four

  its_guid : guid_of page ≡ guid
  its_guid = control_guid state scn guid (first_page image) long may.sixteen

  later : IsLaterFirst (first_page image) page
  later = record {
    long = control_length state scn guid (first_page image) long may.sixteen;
    header = sym (ap is_header first) ∙ new_header;
    size = control_size state scn guid (first_page image) long may.sixteen;
    later = omega (arith, may.later, its_scn);
    stamp = control_stamp state scn guid (first_page image) long may.sixteen may.four ∙ sym its_scn;
  }

  pub control_sound : IsSoundImage new
  control_sound = subst IsSoundImage (sym is_new) (first_sound image page h is later)

  -- It goes on from what the image went on from,
  pub control_goes_on : (r : Kept) → GoesOn r image → GoesOn r new
  control_goes_on r on = subst (GoesOn r) (sym is_new) (first_goes_on image page h is later r on)

  -- and names what it named, but for the last backup.
  pub control_past : (kept : List Kept) (P R : Kept → Type 0) → ((r : Kept) → P r → R r) → (guid ≢ nil → (r : Kept) × IsKeptAs kept guid r × R r) → NamesPast kept P image → NamesPast kept R new
  control_past kept P R goes last past =
      subst (NamesPast kept R) (sym is_new) (first_past image page h is later kept P R goes
      (λ some.
      let named = last (λ none. some (its_guid ∙ none)) in
      (named.0, subst (λ (g : List ℕ). IsKeptAs kept g named.0) (sym its_guid) named.1, named.2))
      past)

  -- Where the SCN rises no entry is current.
  pub control_old : image_scn image < scn → HasOldEntries new
  control_old rises = subst HasOldEntries (sym is_new) (first_old image page h is later (omega (arith, rises, its_scn)))
