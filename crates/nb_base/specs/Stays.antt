-- What holds of one file while calls go on: as it reads, and of whatever a crash leaves of it at each moment.
use Rattle.std.specs.Prelude.{◌≡◌, ℕ, ◌*◌, ◌≤◌, List, [], ◌∷◌, length, drop}
use Rattle.nb_host.specs.Files.{File, bytes_of}
use Rattle.nb_host.specs.World.{World}
use Rattle.nb_host.specs.Crash.{Leaves}
use Rattle.nb_host.specs.Moments.{AtEachMoment}
use Rattle.nb_model.specs.Strokes.{Stroke}
use Rattle.nb_model.specs.Trail.{Trail, after_stroke}

-- P holds of the file, as it reads and whatever a crash now leaves of it
pub record FileIs (w : World) (name : List ℕ) (P : File → Type 0) : Type 0 where
  pub reads : P (w.files name)
  pub left : (c : File) → Leaves w name c → P c

-- it holds at each moment, and now
pub record FileStays (old new : World) (name : List ℕ) (P : File → Type 0) : Type 0 where
  pub moments : AtEachMoment old new (λ files said. P (files name))
  pub now : FileIs new name P

-- where it held of the file before, it holds at each moment
abbrev pub KeepsFile : (old new : World) (name : List ℕ) → (File → Type 0) → Type 0
KeepsFile old new name P = FileIs old name P → FileStays old new name P

-- the file isn't longer than that, in bytes
abbrev pub EndsWithin : (most : ℕ) → File → Type 0
EndsWithin most file = length (bytes_of file) ≤ most

-- after its first page the file has these bytes
abbrev pub HasAfterFirst : (size : ℕ) (rest : List ℕ) → File → Type 0
HasAfterFirst size rest file = drop size (bytes_of file) ≡ rest

-- no image that is seen on the way is longer than that, in pages
abbrev pub AreWithin : (most : ℕ) → Trail → List Stroke → Type 0
AreWithin most t [] = length t.base.image ≤ most
AreWithin most t (s ∷ ss) = (length t.base.image ≤ most) × AreWithin most (after_stroke s t) ss

-- A main file of at most so many pages stays so while no image that is seen is longer. So what stands after an image are the zeros that stood
-- there, or those of a write that was to make it longer, and was stopped.
abbrev pub GrowsWithin : (old new : World) (name : List ℕ) (size : ℕ) → Trail → List Stroke → Type 0
GrowsWithin old new name size t strokes = (most : ℕ) → AreWithin most t strokes → KeepsFile old new name (EndsWithin (most * size))
