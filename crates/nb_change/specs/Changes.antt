-- What a run of calls changed: which files it touched, and what a crash leaves at each moment.
use Rattle.std.specs.Prelude.{◌≡◌, ◌⊎◌, ℕ, List, [], ◌∷◌}
use Rattle.nb_host.specs.Files.{File, Files}
use Rattle.nb_host.specs.World.{World}
use Rattle.nb_host.specs.Crash.{Leaves, LeavesAll, Untouched}
use Rattle.nb_host.specs.Moments.{AtEachMoment}

-- a set of names
abbrev pub Names : Type 1
Names = List ℕ → Type 0

-- the name isn't one of them
abbrev pub Other : Names → Names
Other names m = names m → ⊥

-- this name alone
abbrev pub Only : List ℕ → Names
Only name m = m ≡ name

-- no name
abbrev pub NoNames : Names
NoNames m = ⊥

-- At one moment: the files have P, of each name that isn't touched a crash leaves what it would have left before, and nothing was said.
pub record ChangedLeft (old : World) (names : Names) (P : Files → Type 0) (files : Files) (said : List ℕ) : Type 0 where
  pub has : P files
  pub others : (m : List ℕ) → Other names m → Leaves old m (files m)
  pub output : said ≡ old.said

-- At each moment since `old`, and now, what a crash leaves has P. Only these names are touched, and nothing is said.
pub record Changes (old new : World) (names : Names) (P : Files → Type 0) : Type 0 where
  pub moments : AtEachMoment old new (ChangedLeft old names P)
  pub now : (files : Files) → LeavesAll new files → P files
  pub others : Untouched old new (Other names)
  pub others_read : (m : List ℕ) → Other names m → new.files m ≡ old.files m
  pub said : new.said ≡ old.said

-- Files of these names alone are touched: of every other one a crash leaves what it would have left before, at each moment, and it reads
-- as before, byte for byte.
abbrev pub Touches : (old new : World) → Names → Type 0
Touches old new names = Changes old new names (λ files. Unit {0})

-- what stands after strokes, in order
abbrev pub after_all : {B S : Type 0} → (S → B → B) → B → List S → B
after_all apply base [] = base
after_all apply base (s ∷ ss) = after_all apply (apply s base) ss

-- the files stand for what is there after a front of these strokes
abbrev pub Reached : {B S : Type 0} → (S → B → B) → (B → Files → Type 0) → B → List S → Files → Type 0
Reached apply stands base [] files = stands base files
Reached apply stands base (s ∷ ss) files = stands base files ⊎ Reached apply stands (apply s base) ss files

-- of the file a crash leaves what comes by a step from what it would have left before
pub record Moved (old : World) (name : List ℕ) (step : File → File → Type 0) (files : Files) : Type 0 where
  pub before : File
  pub was : Leaves old name before
  pub by : step before (files name)

-- of the file a crash leaves what it would have left before, or such a file as was made
abbrev pub Remade : (old : World) (name : List ℕ) (made : File → Type 0) → Files → Type 0
Remade old name made files = Leaves old name (files name) ⊎ made (files name)
