-- A page that waited goes into the file that owns it, and isn't synced.
use Rattle.std.specs.Prelude.{◌≡◌, ◌⊎◌, ℕ, ◌<◌, ◌≤◌, List, length, false}
use Rattle.nb_fields.specs.Bytes.{is_zeros}
use Rattle.nb_fields.specs.Places.{most_pages}
use Rattle.nb_fields.specs.States.{normal_state}
use Rattle.nb_host.specs.Files.{Files}
use Rattle.nb_host.specs.World.{World}
use Rattle.nb_host.specs.Crash.{LeavesAll}
use Rattle.nb_model.specs.Image.{Page, image_size, image_state}
use Rattle.nb_model.specs.Account.{Base}
use Rattle.nb_model.specs.Strokes.{page, on_base}
use Rattle.nb_model.specs.Trail.{ShowsIn}

-- a page that may wait, of a database in the normal state
pub record MayPut (b : Base) (p : ℕ) (bytes : Page) : Type 0 where
  pub normal : image_state b.image ≡ normal_state
  pub some : 1 ≤ p
  pub low : p < length b.image
  pub below : p < most_pages
  pub long : length bytes ≡ image_size b.image
  pub other : is_zeros bytes ≡ false

-- files that held a database hold it still, or with that page
abbrev pub IsPut : (name : List ℕ) (p : ℕ) (bytes : Page) (before after : Files) → Type 0
IsPut name p bytes before after = (b : Base) → ShowsIn name b before → MayPut b p bytes → ShowsIn name b after ⊎ ShowsIn name (on_base (page p bytes) b) after

-- a crash leaves what it would have left before, or that with the page
pub record PutLeft (old : World) (name : List ℕ) (p : ℕ) (bytes : Page) (files : Files) : Type 0 where
  pub before : Files
  pub was : LeavesAll old before
  pub by : IsPut name p bytes before files
