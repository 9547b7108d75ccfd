-- A merge in place that is stopped, and the run that finishes it.
use Rattle.std.specs.Prelude.{◌≡◌, ◌⊎◌, ℕ, List, ◌++◌, length, Some}
use Rattle.nb_host.specs.Files.{Files}
use Rattle.nb_host.specs.World.{World}
use Rattle.nb_host.specs.Crash.{LeavesAll}
use Rattle.nb_model.specs.declared.reply.Reply.TheVariants.{Pages}
use Rattle.nb_model.specs.Image.{image_in}
use Rattle.nb_model.specs.Levels.{Contents}
use Rattle.nb_model.specs.Lines.{line_text}
use Rattle.nb_model.specs.Strokes.{merged}
use Rattle.nb_model.specs.Trail.{ShowsIn}
use Rattle.nb_inplace.specs.Apply.{IsHalfIn, base_with}
use Rattle.nb_ended.specs.declared.status.Status.{Status}
use Rattle.nb_ended.specs.declared.status.Status.TheVariants.{Done}

-- the standby is the merged one
abbrev pub IsMergedIn : (db bytes : List ℕ) → Contents → Files → Type 0
IsMergedIn db bytes c files = ShowsIn db (base_with bytes c) files

-- The merge into a standby of these bytes is on its way: the level file reads as it did at the start, and the standby has these bytes still, is half way, or
-- merged.
pub record IsOnWay (start : Files) (db name bytes : List ℕ) (c : Contents) (files : Files) : Type 0 where
  pub level : files name ≡ start name
  pub standby : (files db ≡ Some bytes ⊎ IsHalfIn db bytes c files) ⊎ IsMergedIn db bytes c files

-- The run has done it: it said how many pages the standby has, its status is Done, and the standby is the merged one, for good.
pub record FinishesMerge (status : Status) (old new : World) (db bytes : List ℕ) (c : Contents) : Type 0 where
  pub ended : status ≡ Done
  pub said : new.said ≡ old.said ++ line_text 1 (Pages (length (merged c.pages (image_in bytes))))
  pub reads : IsMergedIn db bytes c new.files
  pub left : (files : Files) → LeavesAll new files → IsMergedIn db bytes c files

-- The standby was merged already. The run changes no byte, and the standby is the merged one, for good.
pub record KeepsMerged (old new : World) (db bytes : List ℕ) (c : Contents) : Type 0 where
  pub was : IsMergedIn db bytes c old.files
  pub files : new.files ≡ old.files
  pub left : (files : Files) → LeavesAll new files → IsMergedIn db bytes c files
