-- The search for a free page, and for the place of a new page.
use Rattle.std.specs.Prelude.{◌≡◌, ℕ, ◌-◌, ◌*◌, ◌/◌, ◌<◌, ◌≤◌, length, min, true, false, Option, Some, None, Result, Ok, Err}
use Rattle.nb_fields.specs.Places.{bits_in, inventory_place, is_system_place}
use Rattle.nb_fields.specs.Kinds.{inventory_kind}
use Rattle.nb_host.specs.declared.faults.Fault.{Fault}
use Rattle.nb_host.specs.declared.faults.Fault.TheVariants.{Refused, Device, Memory}
use Rattle.nb_host.specs.declared.refusals.Refusal.TheVariants.{NotDatabase}
use Rattle.nb_model.specs.Image.{Page, Image, page_at, image_size}
use Rattle.nb_model.specs.Forms.{is_kind, inventory_of, is_free_page}
use Rattle.nb_model.specs.Causes.{Cause, not_kind}

-- no page from one on and below another is below the length and free
abbrev pub AreTaken : Image → (from below : ℕ) → Type 0
AreTaken image from below = (p : ℕ) → from ≤ p → p < below → p < length image → is_free_page image p ≡ false

-- the lowest free page from one on, whose bit is in the same inventory page
pub record IsFreeNear (image : Image) (from p : ℕ) : Type 0 where
  pub not_before : from ≤ p
  pub below : p < length image
  pub same : inventory_of image p ≡ inventory_of image from
  pub free : is_free_page image p ≡ true
  pub taken_before : AreTaken image from p

-- the inventory page of page p is of its kind, and is that map
pub record IsMap (image : Image) (p : ℕ) (map : Page) : Type 0 where
  pub kind : not_kind image inventory_kind (inventory_of image p) ≡ None
  pub page : map ≡ page_at image (inventory_of image p)

-- A search ended at page p: that map is the inventory page of page p, or of the last page, if p is the length.
pub record IsEnd (image : Image) (p : ℕ) (map : Page) : Type 0 where
  pub most : p ≤ length image
  pub last : IsMap image (min p (length image - 1)) map

-- a search from one page on ended at page p, with that map, if it read one
abbrev pub EndsAt : Image → (from p : ℕ) → (map : Page) → Type 0
EndsAt image from p map = from < length image → IsEnd image p map

-- that map is the inventory page of page p, unless a system page stands at p
abbrev pub HoldsMap : Image → (p : ℕ) → (map : Page) → Type 0
HoldsMap image p map = is_system_place (image_size image) p ≡ false → IsMap image p map

-- the refusal for the first page that isn't of its kind
abbrev pub need_cause : Option ℕ → Cause
need_cause first = elim first [ Some q ↦ Some (NotDatabase q) | None ↦ None ]

-- a refusal is for this cause
abbrev pub RefusedFor : {T : Type 0} → Result T Fault → Cause → Type 0
RefusedFor (Ok value) cause = Unit
RefusedFor (Err (Refused refusal)) cause = cause ≡ Some refusal
RefusedFor (Err Device) cause = Unit
RefusedFor (Err Memory) cause = Unit

-- the inventory pages from that of one page on, of pages up to another, are of their kind
abbrev pub AreMaps : Image → (from p : ℕ) → Type 0
AreMaps image from p = from < length image → (k : ℕ) → from / bits_in (image_size image) ≤ k → k * bits_in (image_size image) ≤ p → k * bits_in (image_size image) < length image → is_kind image inventory_kind (inventory_place (image_size image) k) ≡ true
