-- Databases in step: each was before all after it, so that no SCN entry falls, and its entries cover its pages.
use Rattle.std.specs.Prelude.{◌≡◌, ℕ, ◌<◌, ◌≤◌, List, [], ◌∷◌, length, true, IsTrue}
use Rattle.std.specs.List.{AllByRecursion}
use Rattle.nb_fields.specs.Payloads.{entry_of}
use Rattle.nb_fields.specs.Places.{is_page_size}
use Rattle.nb_fields.specs.States.{stalled_state}
use Rattle.nb_model.specs.Image.{Page, Image, image_size, image_state, image_scn}
use Rattle.nb_model.specs.Account.{Base}
use Rattle.nb_model.specs.Forms.{scn_page_of, scn_entry, has_entry, entry_number}
use Rattle.nb_model.specs.Sound.{HasEntries}
use Rattle.nb_model.specs.Stands.{IsRaised}

-- The image was before `now`: it is no longer, and neither its SCN nor an entry of it is later.
pub record IsEarlier (image now : Image) : Type 0 where
  pub long : length image ≤ length now
  pub size : image_size image ≡ image_size now
  pub scn : image_scn image ≤ image_scn now
  pub entries : (p : ℕ) → p < length image → has_entry image p ≡ true → scn_entry image p ≤ scn_entry now p

-- Each SCN entry covers its page, and in the stalled state what is diverted is raised.
pub record IsCovered (b : Base) : Type 0 where
  pub size : IsTrue (is_page_size (image_size b.image))
  pub entries : HasEntries b.image
  pub raised : image_state b.image ≡ stalled_state → IsRaised b.image b.diverted

-- each is covered, and was before all after it
abbrev pub AreInStep : List Base → Type 0
AreInStep [] = Unit {0}
AreInStep (b ∷ bs) = IsCovered b × AllByRecursion (λ c. IsEarlier b.image c.image) bs × AreInStep bs

-- a page that lowers no entry where it is written
abbrev pub LowersNone : (p : ℕ) → Page → Image → Type 0
LowersNone p page image = (q : ℕ) → scn_page_of image q ≡ p → has_entry image q ≡ true → q < length image → scn_entry image q ≤ entry_of page (entry_number image q)
