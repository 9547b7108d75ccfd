-- What calls leave of the files that they have nothing to do with, whatever they do to the others.
use Rattle.std.specs.Prelude.{◌≡◌, ℕ, List, ◌++◌}
use Rattle.nb_host.specs.Files.{Files}
use Rattle.nb_host.specs.World.{World}
use Rattle.nb_host.specs.Crash.{Leaves, Untouched}
use Rattle.nb_host.specs.Moments.{AtEachMoment}
use Rattle.nb_change.specs.Changes.{Names, Other}

-- what was said stays said, and more may follow
pub record IsAdded (old : World) (said : List ℕ) : Type 0 where
  pub part : List ℕ
  pub is : said ≡ old.said ++ part

-- At one moment: of each other name a crash leaves what it would have left before.
pub record OthersLeft (old : World) (names : Names) (files : Files) (said : List ℕ) : Type 0 where
  pub added : IsAdded old said
  pub others : (m : List ℕ) → Other names m → Leaves old m (files m)

-- Whatever becomes of the files of these names: at each moment since `old`, and now, of every other name a crash leaves what it would have left
-- before, and it reads as it did. Something may be said.
pub record LeavesOthers (old new : World) (names : Names) : Type 0 where
  pub moments : AtEachMoment old new (OthersLeft old names)
  pub others : Untouched old new (Other names)
  pub others_read : (m : List ℕ) → Other names m → new.files m ≡ old.files m
  pub added : IsAdded old new.said
