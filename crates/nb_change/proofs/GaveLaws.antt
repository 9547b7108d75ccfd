-- What the outside gave, from one call to the next.
use Rattle.std.proofs.Common.{ℕ, List, [], ◌++◌, refl, sym, ◌∙◌, ap, append_assoc}
use Rattle.nb_change.proofs.Common.{World, IsSilent}
use Rattle.std.proofs.lemmas.List.{append-nil}
use Rattle.nb_change.specs.Gave.{Gave, GaveNothing}

-- before the first call
pub gave_begun : (w : World) → GaveNothing w w
gave_begun w = record { guids = refl; times = refl }

-- nothing, twice
pub nothing_joined : (old mid new : World) → GaveNothing old mid → GaveNothing mid new → GaveNothing old new
nothing_joined old mid new first second = record { guids = second.guids ∙ first.guids; times = second.times ∙ first.times }

-- nothing is no GUID and no time
pub gave_none : (old new : World) → GaveNothing old new → Gave old new [] []
gave_none old new none = record { guids = none.guids ∙ sym (append-nil old.guids); times = none.times ∙ sym (append-nil old.times) }

-- one run of calls after another
pub gave_joined : (old mid new : World) (ids more : List (List ℕ)) (clock later : List ℕ) → Gave old mid ids clock → Gave mid new more later → Gave old new (ids ++ more) (clock ++ later)
gave_joined old mid new ids more clock later first second = record {
  guids = second.guids ∙ ap (λ (l : List (List ℕ)). l ++ more) first.guids ∙ append_assoc old.guids ids more;
  times = second.times ∙ ap (λ (l : List ℕ). l ++ later) first.times ∙ append_assoc old.times clock later;
}

-- a call that says nothing gives nothing
pub silent_gave : (old new : World) → IsSilent old new → GaveNothing old new
silent_gave old new silent = record { guids = silent.guids; times = silent.times }
