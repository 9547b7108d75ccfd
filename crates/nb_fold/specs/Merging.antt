-- Files that are folded, page by page.
use Rattle.std.specs.Prelude.{◌≡◌, ◌≢◌, ◌⊎◌, ℕ, ◌+◌, ◌<◌, ◌≤◌, List, [], ◌∷◌, ◌++◌, length, Bool, true, false}
use Rattle.std.specs.List.{AllByRecursion}
use Rattle.nb_host.specs.Files.{File}
use Rattle.nb_host.specs.World.{World}
use Rattle.nb_change.specs.Changes.{Changes, Only, Remade}
use Rattle.nb_model.specs.Image.{Numbered}
use Rattle.nb_model.specs.Levels.{AreRising, AreOfSize}
use Rattle.nb_gather.specs.Gathering.{LevelWriting, HasTaken, MayHave}
use Rattle.nb_fold.specs.Folding.{folded_pages}
use Rattle.nb_fold.specs.Sources.{Held, AllWait, due}

-- the numbers of each file rise from the least one on
abbrev pub AllRise : (least : ℕ) → List (List Numbered) → Type 0
AllRise least = AllByRecursion (λ (rs : List Numbered). AreRising least rs)

-- the pages of each have that size
abbrev pub AllOfSize : (size : ℕ) → List (List Numbered) → Type 0
AllOfSize size = AllByRecursion (λ (rs : List Numbered). AreOfSize size rs)

-- how many pages they have
abbrev pub pages_left : List (List Numbered) → ℕ
pages_left [] = 0
pages_left (rs ∷ rss) = length rs + pages_left rss

-- none of them is that file
abbrev pub AreApart : (name : List ℕ) → List Held → Type 0
AreApart name = AllByRecursion (λ (s : Held). s.reader.name ≢ name)

-- The file took the front of these pages, and the rest of them is still to come of the files that are folded, in so many reads at most.
pub record IsFolding (w : World) (file : LevelWriting) (sources : List Held) (whole : List Numbered) (most : ℕ) : Type 0 where
  pub done : List Numbered
  pub coming : List (List Numbered)
  pub all : whole ≡ done ++ folded_pages coming
  pub has : HasTaken w file done
  pub may : MayHave file.head whole
  pub waits : AllWait w.files sources coming
  pub least : ℕ
  pub rises : AllRise least coming
  pub apart : AreApart file.name sources
  pub reads : w.reads + pages_left coming ≤ most

-- All of these pages are still to come.
pub record IsReady (w : World) (file : LevelWriting) (sources : List Held) (whole : List Numbered) (most : ℕ) : Type 0 where
  pub coming : List (List Numbered)
  pub all : whole ≡ folded_pages coming
  pub may : MayHave file.head whole
  pub waits : AllWait w.files sources coming
  pub rises : AllRise 0 coming
  pub apart : AreApart file.name sources
  pub reads : w.reads + pages_left coming ≤ most

-- it took all of them
pub record HasFolded (w : World) (file : LevelWriting) (whole : List Numbered) (most : ℕ) : Type 0 where
  pub has : HasTaken w file whole
  pub may : MayHave file.head whole
  pub reads : w.reads ≤ most

-- a page more was folded, or none is left
abbrev pub FoldsOn : (more : Bool) → World → LevelWriting → List Held → (whole : List Numbered) (most : ℕ) → Type 0
FoldsOn true w file sources whole most = IsFolding w file sources whole most
FoldsOn false w file sources whole most = HasFolded w file whole most

-- where a page was folded, fewer numbers are due, and no more pages than those are taken
abbrev pub FallsOn : (more : Bool) → (before after : LevelWriting) → (old new : List Held) → Type 0
FallsOn true before after old new = (due new < due old) × (after.written + due new ≤ before.written + due old)
FallsOn false before after old new = Unit {0}

-- Of the file a crash leaves what it would have left before, or such a file as was made, and so it reads. No other file is touched.
pub record Makes (old new : World) (name : List ℕ) (made : File → Type 0) : Type 0 where
  pub left : Changes old new (Only name) (Remade old name made)
  pub reads : made (new.files name)

-- the same, where it may also read as it did
pub record MakesOr (old new : World) (name : List ℕ) (made : File → Type 0) : Type 0 where
  pub left : Changes old new (Only name) (Remade old name made)
  pub reads : (new.files name ≡ old.files name) ⊎ made (new.files name)
