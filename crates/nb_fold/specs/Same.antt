-- What a restore, and a merge in place, give with the files, and with the one that they were folded into.
use Rattle.std.specs.Prelude.{◌≡◌, ℕ, List, [], ◌∷◌, Ok, Some}
use Rattle.nb_host.specs.Files.{Files}
use Rattle.nb_model.specs.Image.{Image, image_size}
use Rattle.nb_model.specs.Levels.{Contents}
use Rattle.nb_model.specs.Restoring.{Link, applied, level_link, verdict}
use Rattle.nb_model.specs.Sound.{IsOfSize}
use Rattle.nb_model.specs.Strokes.{merged}
use Rattle.nb_fold.specs.Folding.{bytes_for, folded}
use Rattle.nb_fold.specs.Verdict.{chained}

-- the files, as those of a chain
abbrev pub links_of : List Contents → List Link
links_of [] = []
links_of (c ∷ cs) = level_link c ∷ links_of cs

-- These files go on from one another, and under this name stands the file that they were folded into.
pub record IsFoldOf (files : Files) (name : List ℕ) (names : List (List ℕ)) (out : List ℕ) (cs : List Contents) : Type 0 where
  pub accepted : chained files (name ∷ names) ≡ Ok cs
  pub there : files out ≡ Some (bytes_for (folded cs))

-- a chain is accepted, and gives this image
pub record Gives (files : Files) (names : List (List ℕ)) (image : Image) : Type 0 where
  pub links : List Link
  pub accepted : verdict files names ≡ Ok links
  pub image_is : applied links ≡ image

-- the one chain is accepted exactly where the other is, and both give one image
pub record GiveTheSame (files : Files) (many one : List (List ℕ)) : Type 0 where
  pub one_gives : (image : Image) → Gives files many image → Gives files one image
  pub many_give : (image : Image) → Gives files one image → Gives files many image

-- the files are merged into an image, one after the other
abbrev pub merged_each : List Contents → Image → Image
merged_each [] image = image
merged_each (c ∷ cs) image = merged_each cs (merged c.pages image)

-- the pages of the image have the size that its header names, and it is that of the files
pub record IsMergedInto (cs : List Contents) (image : Image) : Type 0 where
  pub size : image_size image ≡ (folded cs).head.size
  pub sizes : IsOfSize (image_size image) image
