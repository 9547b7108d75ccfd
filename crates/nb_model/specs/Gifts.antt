-- What the outside has given of what a run may ask for, and what it was shown.
use Rattle.std.specs.Prelude.{◌≡◌, ℕ, List, ◌++◌}
use Rattle.nb_host.specs.World.{World}
use Rattle.nb_model.specs.Outcomes.{Given}

-- The GUIDs and times that were given between two moments are the first ones of these, in order, and so are the numbers of pages in memory that
-- were shown.
pub record Foretells (given : Given) (shown : List ℕ) (old new : World) : Type 0 where
  pub ids : List (List ℕ)
  pub later_ids : List (List ℕ)
  pub clock : List ℕ
  pub later_clock : List ℕ
  pub later_shown : List ℕ
  pub guids : new.guids ≡ old.guids ++ ids
  pub guids_first : given.guids ≡ ids ++ later_ids
  pub times : new.times ≡ old.times ++ clock
  pub times_first : given.times ≡ clock ++ later_clock
  pub holds_first : given.holds ≡ shown ++ later_shown

-- just these GUIDs and times were given: what was to come before, and isn't to come after
pub record WasGiven (old new : World) (before after : Given) : Type 0 where
  pub ids : List (List ℕ)
  pub clock : List ℕ
  pub guids : new.guids ≡ old.guids ++ ids
  pub guids_first : before.guids ≡ ids ++ after.guids
  pub times : new.times ≡ old.times ++ clock
  pub times_first : before.times ≡ clock ++ after.times
