-- Pages of zeros at the end of an image: what is seen of the image without them, and the end of a merge, which drops them.
use Rattle.std.proofs.Common.{◌≡◌, inl, inr, ℕ, zero, suc, ◌-◌, ◌<◌, ◌≤◌, [], ◌∷◌, ◌++◌, length, replicate, refl, sym, ap, subst, ◌∙◌, arith, length-append, true, false}
use Rattle.nb_model.proofs.Common.{cases_lt, get_or_append_left, get_or-append_right, is_zeros, is_header, normal_state, Base, Page, Image, page_at, first_page, image_scn, image_guid, trimmed, main_page, HasHeader, HasNoZeros, IsOfSize, finish, on_base, controlled, with_control, get_or_past}
use Rattle.nb_model.proofs.ControlLaws.{control_header}
use Rattle.nb_model.proofs.ControlMay.{may_finish}
use Rattle.nb_model.proofs.ControlSound.{MayControl}
use Rattle.nb_model.proofs.HeadSound.{all_zeros}
use Rattle.nb_model.proofs.HeaderLaws.{header-long, header-other}
use Rattle.nb_model.proofs.ImageLaws.{AreZeros, IsTrimmed, Trimming, trimming, zeros-are, trimmed-zeros, trimmed-nothing, trimmed-no_zeros, trimmed-before, trimmed-drop, all-right}
use Rattle.nb_model.proofs.MainLaws.{some_page, trimmed-first}
use Rattle.nb_model.proofs.OwnerLaws.{main_here, main_past}
use Rattle.nb_model.proofs.SoundLaws.{all_from, all_at}

-- page p of the tail
pub main_tail : (size : ℕ) (x : Page) (xs : Image) (p : ℕ) → main_page size (x ∷ xs) (suc p) ≡ main_page size xs p
main_tail size x xs p = elim (cases_lt p (length xs)) [
  | inl w ↦ main_here size (x ∷ xs) (suc p) (omega (arith, w)) ∙ sym (main_here size xs p w)
  | inr w ↦ main_past size (x ∷ xs) (suc p) (omega (arith, w)) ∙ sym (main_past size xs p w)
]

-- pages of zeros after a list are seen after its end
pub zeros_behind : (size : ℕ) (xs zs : Image) → IsOfSize size zs → AreZeros zs → (p : ℕ) → main_page size (xs ++ zs) p ≡ main_page size xs p
zeros_behind size [] zs sizes zeros p = elim (cases_lt p (length zs)) [
  | inl w ↦
      main_here size zs p w ∙ all_zeros (page_at zs p) (all_at (λ (z : Page). is_zeros z ≡ true) zs zeros p w)
      ∙ ap (λ (n : ℕ). replicate {A = ℕ} n 0) (all_at (λ (z : Page). length z ≡ size) zs sizes p w) ∙ sym (main_past size [] p (omega arith))
  | inr w ↦ main_past size zs p w ∙ sym (main_past size [] p (omega arith))
]
zeros_behind size (x ∷ xs) zs sizes zeros zero = main_here size (x ∷ xs ++ zs) 0 (omega arith) ∙ sym (main_here size (x ∷ xs) 0 (omega arith))
zeros_behind size (x ∷ xs) zs sizes zeros (suc p) = main_tail size x (xs ++ zs) p ∙ zeros_behind size xs zs sizes zeros p ∙ sym (main_tail size x xs p)

-- each page is seen without the pages of zeros at the end as with them
pub trimmed_page : (size : ℕ) (ps : Image) → IsOfSize size ps → (p : ℕ) → main_page size (trimmed ps) p ≡ main_page size ps p
trimmed_page size ps sizes p =
    let cut : Trimming ps = trimming ps in
    sym (ap (λ (x : Image). main_page size x p) cut.is ∙ zeros_behind size (trimmed ps) cut.rest (all-right (λ (z : Page). length z ≡ size) (trimmed ps) cut.rest (subst (λ (x : Image). IsOfSize size x) cut.is sizes)) cut.zeros p)

-- pages that are all seen as zeros
all_past : (size : ℕ) (ps : Image) → ((p : ℕ) → main_page size [] p ≡ main_page size ps p) → trimmed [] ≡ trimmed ps
all_past size ps same =
    trimmed-nothing
    ∙ sym (trimmed-zeros ps (all_from (λ (x : Page). is_zeros x ≡ true) ps (λ p low. ap is_zeros (sym (main_here size ps p low) ∙ sym (same p) ∙ main_past size [] p (omega arith)) ∙ zeros-are size)))

trimmed_behind : (x : Page) (xs ys : Image) → trimmed xs ≡ trimmed ys → trimmed (x ∷ xs) ≡ trimmed (x ∷ ys)
unfolding trimmed
trimmed_behind x xs ys same = ap (λ (qs : Image). elim qs as (λ z. Image) [ [] ↦ elim (is_zeros x) as (λ z. Image) [ true ↦ [] | false ↦ x ∷ [] ] | q ∷ qs ↦ x ∷ q ∷ qs ]) same

-- Where each page is seen to be the same, the images are, without the pages of zeros at their ends.
pub trimmed_alike : (size : ℕ) (a b : Image) → ((p : ℕ) → main_page size a p ≡ main_page size b p) → trimmed a ≡ trimmed b
trimmed_alike size [] b same = all_past size b same
trimmed_alike size (x ∷ xs) [] same = sym (all_past size (x ∷ xs) (λ p. sym (same p)))
trimmed_alike size (x ∷ xs) (y ∷ ys) same =
    let first : x ≡ y = sym (main_here size (x ∷ xs) 0 (omega arith)) ∙ same 0 ∙ main_here size (y ∷ ys) 0 (omega arith) in
    trimmed_behind x xs ys (trimmed_alike size xs ys (λ p. sym (main_tail size x xs p) ∙ same (suc p) ∙ main_tail size y ys p)) ∙ ap (λ (z : Page). trimmed (z ∷ ys)) first

-- page 0 stays, where it is a header, and so do the fields of the image
pub trimmed_front : (image : Image) → is_header (first_page image) ≡ true → first_page (trimmed image) ≡ first_page image
trimmed_front image header = trimmed-first image (some_page image header) (header-other (first_page image) header)

-- what is left is no longer, and each of its pages is that of the image
pub trimmed_length : (image : Image) → length (trimmed image) ≤ length image
trimmed_length image = let cut : Trimming image = trimming image in omega (arith, ap length cut.is, length-append (trimmed image) cut.rest)

pub trimmed_at : (image : Image) (p : ℕ) → p < length (trimmed image) → page_at (trimmed image) p ≡ page_at image p
trimmed_at image p low = let cut : Trimming image = trimming image in sym (ap (λ (x : Image). page_at x p) cut.is ∙ get_or_append_left (trimmed image) cut.rest [] p low)

-- there is no page after the end of either
pub trimmed_past : (image : Image) (p : ℕ) → length image ≤ p → page_at (trimmed image) p ≡ page_at image p
trimmed_past image p past = get_or_past (trimmed image) p [] (omega (arith, past, trimmed_length image)) ∙ sym (get_or_past image p [] past)

-- and each page after is zeros
pub trimmed_zeros : (image : Image) (p : ℕ) → length (trimmed image) ≤ p → p < length image → is_zeros (page_at image p) ≡ true
trimmed_zeros image p past low =
    let cut : Trimming image = trimming image in
    ap (λ (x : Image). is_zeros (page_at x p)) cut.is ∙ ap is_zeros (get_or-append_right (trimmed image) cut.rest (length (trimmed image)) p [] refl past)
    ∙ all_at (λ (z : Page). is_zeros z ≡ true) cut.rest cut.zeros (p - length (trimmed image)) (omega (arith, past, low, ap length cut.is, length-append (trimmed image) cut.rest))

-- The end of a merge, as it computes.
pub finish_base : (b : Base) → on_base finish b ≡ record b { image = with_control normal_state (image_scn b.image) (image_guid b.image) (trimmed b.image); diverted = [] }
unfolding on_base
finish_base b = refl

-- Where no page is zeros, it changes page 0 alone.
pub finish_full : (b : Base) → HasNoZeros b.image → on_base finish b ≡ record b { image = with_control normal_state (image_scn b.image) (image_guid b.image) b.image; diverted = [] }
finish_full b full = finish_base b ∙ ap (λ (x : Image). record b { image = with_control normal_state (image_scn b.image) (image_guid b.image) x; diverted = [] }) (trimmed-no_zeros b.image full)

-- After it no page of zeros stands at the end, so it is an image that a main file may have.
pub finish_whole : (b : Base) → HasHeader b.image → IsTrimmed (on_base finish b).image
unfolding with_control
finish_whole b header = subst (λ (x : Image). IsTrimmed x) (sym (ap (λ (c : Base). c.image) (finish_base b))) (by (trimmed b.image) (trimming b.image).whole (trimmed_front b.image header.header))
  where
    may : MayControl 0 (image_scn b.image) (image_guid b.image) b.image
    may = may_finish b.image header

    other : is_zeros (controlled normal_state (image_scn b.image) (image_guid b.image) (first_page b.image)) ≡ false
    other = header-other (controlled normal_state (image_scn b.image) (image_guid b.image) (first_page b.image))
        (control_header 0 (image_scn b.image) (image_guid b.image) (first_page b.image) (header-long (first_page b.image) header.header) may.sixteen header.header may.sound (omega arith) may.four)

    by : (x : Image) → IsTrimmed x → first_page x ≡ first_page b.image → IsTrimmed (with_control normal_state (image_scn b.image) (image_guid b.image) x)
    by [] whole first = whole
    by (p ∷ ps) whole first =
        trimmed-before [] (controlled normal_state (image_scn b.image) (image_guid b.image) p) ps (ap (λ (y : Page). is_zeros (controlled normal_state (image_scn b.image) (image_guid b.image) y)) first ∙ other) (trimmed-drop 1 (p ∷ ps) whole)
