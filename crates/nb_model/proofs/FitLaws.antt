-- Strokes of which each writes a page that fits at its point: what such a page keeps holds after each front of them.
use Rattle.std.proofs.Common.{◌≡◌, inl, inr, ℕ, ◌≤◌, List, [], ◌∷◌, ◌++◌, length, refl, sym, ap, subst, ◌∙◌, arith}
use Rattle.nb_model.proofs.Common.{eqb_tells, stamped, Page, Image, page_at, image_size, image_state, image_scn, with_page, Base, Stroke, page, on_base, base_after, merged_page, Draft, drafted, old_page, wrote, written, needs, is_kind, no_page, IsSoundImage}
use Rattle.nb_model.proofs.DraftLaws.{either, IsOf, drafted_is, drafts_are}
use Rattle.nb_model.proofs.SoundLaws.{HasFields, FitsAt, written_other, with_page_length, size_stays, scn_stays, state_stays, fields_stay, page_sound}
use Rattle.nb_model.proofs.StrokeLaws.{whole_page, with_page_same}

-- a sound image with the fields of a header
pub record IsWhole (image : Image) : Type 0 where
  pub fields : HasFields image
  pub sound : IsSoundImage image

-- a page that fits keeps an image whole
pub whole_with : (image : Image) (p : ℕ) (bytes : Page) → IsWhole image → FitsAt image p bytes → IsWhole (with_page p bytes image)
whole_with image p bytes h fits = record { fields = fields_stay image p bytes h.fields h.sound fits; sound = page_sound image p bytes h.fields h.sound fits }

-- The stroke writes a page that fits, and K holds of the page.
abbrev pub IsFitting : (K : Page → Type 0) → Image → Stroke → Type 0
IsFitting K image (page p bytes) = FitsAt image p (merged_page p bytes image) × K (merged_page p bytes image)
IsFitting K image other = ⊥

-- each stroke does at its point
abbrev pub AreFitting : (K : Page → Type 0) → Base → List Stroke → Type 0
AreFitting K b [] = Unit {0}
AreFitting K b (s ∷ ss) = IsFitting K b.image s × AreFitting K (on_base s b) ss

-- strokes after strokes, and a front of them
pub fitting_append : (K : Page → Type 0) (xs ys : List Stroke) (b : Base) → AreFitting K b xs → AreFitting K (base_after b xs) ys → AreFitting K b (xs ++ ys)
unfolding base_after
fitting_append K [] ys b h k = k
fitting_append K (x ∷ xs) ys b h k = (h.0, fitting_append K xs ys (on_base x b) h.1 k)

-- The image stays whole.
pub whole_one : (K : Page → Type 0) (s : Stroke) (b : Base) → IsFitting K b.image s → IsWhole b.image → IsWhole (on_base s b).image
unfolding on_base
whole_one K (page p bytes) b fits h = whole_with b.image p (merged_page p bytes b.image) h fits.0
whole_one K other b fits h = absurd fits

pub whole_after : (K : Page → Type 0) (ss : List Stroke) (b : Base) → AreFitting K b ss → IsWhole b.image → IsWhole (base_after b ss).image
unfolding base_after
whole_after K [] b fits h = h
whole_after K (s ∷ ss) b fits h = whole_after K ss (on_base s b) fits.1 (whole_one K s b fits.0 h)

-- Each stroke of the draft fits at its point, and its image is whole.
pub record Fits (K : Page → Type 0) (b : Base) (d : Draft) : Type 0 where
  pub is : IsOf b d
  pub each : AreFitting K b d.strokes
  pub whole : IsWhole d.image

pub fits_first : (K : Page → Type 0) (b : Base) → IsWhole b.image → Fits K b (drafted b.image)
fits_first K b h = record { is = drafted_is b; each = tt; whole = h }

pub fits_full : (K : Page → Type 0) (b : Base) (d : Draft) → Fits K b d → Fits K b (no_page d)
fits_full K b d h = record { is = (drafts_are b).fills d h.is; each = h.each; whole = h.whole }

pub fits_broken : (K : Page → Type 0) (b : Base) (broken : List ℕ) (d : Draft) → Fits K b d → Fits K b (record d { broken = broken })
fits_broken K b broken d h = record { is = (drafts_are b).reads broken d h.is; each = h.each; whole = h.whole }

pub fits_needs : (K : Page → Type 0) (b : Base) (kind p : ℕ) (d : Draft) → Fits K b d → Fits K b (needs kind p d)
unfolding needs
fits_needs K b kind p d h = either (Fits K b) (is_kind d.image kind p) _ _ h (record { is = (drafts_are b).reads _ d h.is; each = h.each; whole = h.whole })

-- the page that a write of a form writes, after page 0
abbrev pub form_page : (p kind : ℕ) (payload : List ℕ) → Image → Page
form_page p kind payload image = stamped (old_page p image) kind payload (image_scn image) p

pub written_image : (p kind : ℕ) (payload : List ℕ) (d : Draft) → 1 ≤ p → (written p kind payload d).image ≡ with_page p (form_page p kind payload d.image) d.image
unfolding written wrote
written_image p kind payload d h = ap (λ (bytes : Page). with_page p bytes d.image) (whole_page p (form_page p kind payload d.image) d.image h)

-- one write more
pub fits_more : (K : Page → Type 0) (b : Base) (p kind : ℕ) (payload : List ℕ) (d : Draft) → 1 ≤ p → Fits K b d → FitsAt d.image p (form_page p kind payload d.image) → K (form_page p kind payload d.image)
    → Fits K b (written p kind payload d)
unfolding written wrote
fits_more K b p kind payload d behind h fits of_kind = record {
  is = (drafts_are b).writes p kind payload d h.is;
  each = fitting_append K d.strokes (page p bytes ∷ []) b h.each (subst (λ (x : Image). IsFitting K x (page p bytes)) (sym h.is.is) fitting, tt);
  whole = subst IsWhole (sym (written_image p kind payload d behind)) (whole_with d.image p bytes h.whole fits);
}
  where
    bytes : Page
    bytes = form_page p kind payload d.image

    fitting : IsFitting K d.image (page p bytes)
    fitting = subst (λ (x : Page). FitsAt d.image p x × K x) (sym (whole_page p bytes d.image behind)) (fits, of_kind)

-- Q is kept by each page that fits and that K holds of: so it holds after each front of the strokes.
module _ (Q : Image → Type 0) (K : Page → Type 0)
    (step : (image : Image) (p : ℕ) (bytes : Page) → HasFields image → IsSoundImage image → FitsAt image p bytes → K bytes → Q image → Q (with_page p bytes image)) where
  one_keeps : (s : Stroke) (b : Base) → IsFitting K b.image s → IsWhole b.image → Q b.image → Q (on_base s b).image
  unfolding on_base
  one_keeps (page p bytes) b fits h also = step b.image p (merged_page p bytes b.image) h.fields h.sound fits.0 fits.1 also
  one_keeps other b fits h also = absurd fits

  -- and after all of them
  pub all_keep : (ss : List Stroke) (b : Base) → AreFitting K b ss → IsWhole b.image → Q b.image → Q (base_after b ss).image
  unfolding base_after
  all_keep [] b fits h also = also
  all_keep (s ∷ ss) b fits h also = all_keep ss (on_base s b) fits.1 (whole_one K s b fits.0 h) (one_keeps s b fits.0 h also)

-- K holds of a page still, where it held before.
pub page_keeps : (K : Page → Type 0) (q : ℕ) (ss : List Stroke) (b : Base) → AreFitting K b ss → IsWhole b.image → K (page_at b.image q) → K (page_at (base_after b ss).image q)
page_keeps K q = all_keep (λ image. K (page_at image q)) K (λ image p bytes fields is fits holds before. elim (eqb_tells q p) [
  | inl w ↦ subst K (sym (ap (page_at (with_page p bytes image)) w.1 ∙ with_page_same p bytes image fits.there)) holds
  | inr w ↦ subst K (sym (written_other image p bytes fields is fits q w.1)) before
])

-- What such strokes leave as it was. The image gets no shorter.
pub record Stays (old new : Base) : Type 0 where
  pub size : image_size new.image ≡ image_size old.image
  pub longer : length old.image ≤ length new.image
  pub state : image_state new.image ≡ image_state old.image
  pub scn : image_scn new.image ≡ image_scn old.image
  pub frozen : new.frozen ≡ old.frozen

pub stays_still : (b : Base) → Stays b b
stays_still b = record { size = refl; longer = omega arith; state = refl; scn = refl; frozen = refl }

pub stays_both : (a b c : Base) → Stays a b → Stays b c → Stays a c
stays_both a b c x y = record { size = y.size ∙ x.size; longer = omega (arith, x.longer, y.longer); state = y.state ∙ x.state; scn = y.scn ∙ x.scn; frozen = y.frozen ∙ x.frozen }

pub stays_one : (K : Page → Type 0) (s : Stroke) (b : Base) → IsFitting K b.image s → IsWhole b.image → Stays b (on_base s b)
unfolding on_base
stays_one K (page p bytes) b fits h = record {
  size = size_stays b.image p (merged_page p bytes b.image) h.fields h.sound fits.0;
  longer = omega (arith, with_page_length p (merged_page p bytes b.image) b.image fits.0.there);
  state = state_stays b.image p (merged_page p bytes b.image) h.fields h.sound fits.0;
  scn = scn_stays b.image p (merged_page p bytes b.image) h.fields h.sound fits.0;
  frozen = refl;
}
stays_one K other b fits h = absurd fits

pub fitting_stays : (K : Page → Type 0) (ss : List Stroke) (b : Base) → AreFitting K b ss → IsWhole b.image → Stays b (base_after b ss)
unfolding base_after
fitting_stays K [] b fits h = stays_still b
fitting_stays K (s ∷ ss) b fits h = stays_both b (on_base s b) (base_after (on_base s b) ss) (stays_one K s b fits.0 h) (fitting_stays K ss (on_base s b) fits.1 (whole_one K s b fits.0 h))
