-- What a shadow tells.
use Rattle.std.specs.Prelude.{◌≡◌, ℕ, ◌+◌, Bool, true, false, [], ◌∷◌, None}
use Rattle.nb_host.specs.World.{World}
use Rattle.nb_host.specs.Causes.{FaultCount}
use Rattle.nb_shadow.specs.declared.pair.Pairs.{Pairs}
use Rattle.nb_shadow.specs.Mirror.{mirrored}

-- no file, no output, and nothing that a crash may leave
abbrev pub silence : World
silence = record { files = λ _. None; said = []; reads = 0; guids = []; times = []; back = λ _ _. ⊥; now = λ _ _. ⊥; moment = 0; left_since = λ _ _ _. ⊥ }

-- what its host tells, seen through both pairs; over a host that tells nothing it tells nothing
abbrev pub shadowed : (tells : Bool) → Pairs → World → World
shadowed true ps w = mirrored ps.delta (mirrored ps.main w)
shadowed false ps w = silence

-- Its count of faults: that of its host and what the twin refused. It is the count of the host that was lent under this reference, and of
-- these pairs.
abbrev pub counted : (reference : ℕ) → Pairs → FaultCount → (refused : ℕ) → FaultCount
counted reference ps host refused = record {
  whose = (reference ∷ []) ∷ ps.main.file ∷ ps.main.copy ∷ ps.delta.file ∷ ps.delta.copy ∷ host.whose;
  count = host.count + refused;
}

-- each file reads as its twin does
pub record IsInStep (ps : Pairs) (w : World) : Type 0 where
  pub main : w.files ps.main.file ≡ w.files ps.main.copy
  pub delta : w.files ps.delta.file ≡ w.files ps.delta.copy
