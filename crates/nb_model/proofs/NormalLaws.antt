-- Page strokes leave a database in the normal state as its image tells it, and keep no record.
use Rattle.std.proofs.Common.{◌≡◌, ℕ, List, [], refl, ap, true, false, ◌==◌}
use Rattle.nb_model.proofs.Common.{normal_state, image_state, Base, base_of, Stroke, make, page, begin, ends, finish, fix, merge, noted, on_base, records_of}

-- the stroke is of a page
abbrev pub IsPage : Stroke → Type 0
IsPage (page p bytes) = Unit {0}
IsPage other = ⊥

-- one stroke
pub record IsQuiet (s : Stroke) (b : Base) : Type 0 where
  pub frozen : (on_base s b).frozen ≡ b.frozen
  pub diverted : (on_base s b).diverted ≡ b.diverted
  pub records : records_of s b ≡ []

pub quiet : (s : Stroke) (b : Base) → IsPage s → image_state b.image ≡ normal_state → IsQuiet s b
unfolding on_base records_of
quiet (page p bytes) b is normal = record {
  frozen = refl;
  diverted = ap (λ (n : ℕ). elim (n == 1) as (λ z. List ℕ) [ true ↦ noted p b.diverted | false ↦ b.diverted ]) normal;
  records = refl;
}
quiet (make image) b is normal = absurd is
quiet (begin guid ask) b is normal = absurd is
quiet ends b is normal = absurd is
quiet finish b is normal = absurd is
quiet fix b is normal = absurd is
quiet (merge records) b is normal = absurd is

-- so it is as its image tells it
pub told_whole : (b : Base) → b.frozen ≡ [] → b.diverted ≡ [] → b ≡ base_of b.image
told_whole b frozen diverted = λ i. record { image = b.image; frozen = frozen i; diverted = diverted i }
