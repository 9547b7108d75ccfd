-- What the target reads as while the pages of a chain are written into it.
use Rattle.std.specs.Prelude.{◌≡◌, ℕ, ◌≤◌, List, ◌∷◌, length, take, drop, Some, Result, Ok, Err}
use Rattle.nb_fields.specs.Places.{most_pages}
use Rattle.nb_host.specs.Files.{File, bytes_of}
use Rattle.nb_host.specs.declared.faults.Fault.{Fault}
use Rattle.nb_host.specs.declared.faults.Fault.TheVariants.{Refused, Device, Memory}
use Rattle.nb_model.specs.Image.{Page, Image, Numbered, first_page, overwritten}
use Rattle.nb_model.specs.Levels.{joined}
use Rattle.nb_model.specs.Sound.{IsOfSize}
use Rattle.nb_model.specs.Restoring.{Link, all_over}

-- it was done, or the device failed: nothing else is answered
abbrev pub IsDone : {T : Type 0} → Result T Fault → Type 0 → Type 0
IsDone (Ok value) P = P
IsDone (Err (Refused refusal)) P = ⊥
IsDone (Err Device) P = Unit {0}
IsDone (Err Memory) P = ⊥

-- the file begins with these 64 bytes
pub record BeginsWith (front : List ℕ) (file : File) : Type 0 where
  pub long : 64 ≤ length (bytes_of file)
  pub is : take 64 (bytes_of file) ≡ front

-- its first 64 bytes stay
abbrev pub KeepsFront : (before after : File) → Type 0
KeepsFront before after = (front : List ℕ) → BeginsWith front before → BeginsWith front after

-- The pages after page 0 are those of the image. In the place of page 0 stands `start`, and the image's is held apart.
pub record Holds (size : ℕ) (start first : Page) (image : Image) (file : File) : Type 0 where
  pub reads : file ≡ Some (joined (start ∷ drop 1 image))
  pub long : length start ≡ size
  pub sizes : IsOfSize size image
  pub some : 1 ≤ length image
  pub most : length image ≤ most_pages
  pub page_0 : first ≡ first_page image

-- these pages were written over those of the image
abbrev pub Overwrites : (size : ℕ) (pages : List Numbered) (before after : File) (first last : Page) → Type 0
Overwrites size pages before after first last = (start : Page) (image : Image) → Holds size start first image before → Holds size start last (overwritten size pages image) after

-- and these the pages of these files, in order
abbrev pub OverwritesAll : (size : ℕ) (links : List Link) (before after : File) (first last : Page) → Type 0
OverwritesAll size links before after first last = (start : Page) (image : Image) → Holds size start first image before → Holds size start last (all_over links image) after
