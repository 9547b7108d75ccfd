-- What is kept true of a trail, so that whatever a crash leaves of it is well.
use Rattle.std.specs.Prelude.{◌≡◌, ℕ, ◌<◌, List, length, take, Some, None, Contains}
use Rattle.nb_fields.specs.States.{stalled_state}
use Rattle.nb_model.specs.Image.{page_at, first_page, image_state}
use Rattle.nb_model.specs.Account.{Kept, Base}
use Rattle.nb_model.specs.Owner.{entry_for}
use Rattle.nb_model.specs.Stands.{GoesOn, NamesPast}
use Rattle.nb_model.specs.Trail.{Trail, bases_of}
use Rattle.nb_model.specs.Earlier.{AreInStep}
use Rattle.nb_model.specs.Sound.{IsSoundImage}
use Rattle.nb_model.specs.Well.{IsWellBaseIn}

-- Two files give this image in the stalled state: the control block and each page that isn't diverted are those of the frozen
-- image, and what is diverted is below the length.
pub record IsOverFrozen (b : Base) : Type 0 where
  pub front : take 64 (first_page b.image) ≡ take 64 (first_page b.frozen)
  pub rest : (p : ℕ) → p < length b.image → entry_for p b.diverted ≡ None → (p < length b.frozen) × (page_at b.image p ≡ page_at b.frozen p)
  pub below : (p k : ℕ) → entry_for p b.diverted ≡ Some k → p < length b.image

-- each database of a trail is sound, and they are in step
pub record IsSoundTrail (t : Trail) : Type 0 where
  pub sound : (b : Base) → Contains (bases_of t) b → IsSoundImage b.image
  pub steps : AreInStep (bases_of t)

-- all databases of the trail go on from the record
abbrev pub AllGoOn : Trail → Kept → Type 0
AllGoOn t r = (b : Base) → Contains (bases_of t) b → GoesOn r b.image

-- The last database is well. All of them are sound and in step, and from each backup that one of them names all go on.
pub record IsWellTrail (kept : List Kept) (t : Trail) : Type 0 where
  pub base : IsWellBaseIn kept t.base
  pub over : image_state t.base.image ≡ stalled_state → IsOverFrozen t.base
  pub sound : IsSoundTrail t
  pub past : (b : Base) → Contains (bases_of t) b → NamesPast kept (AllGoOn t) b.image
