-- The frames of a cache in the order of their last use: first those that hold a page, then the empty ones.
use Rattle.std.specs.Prelude.{◌≡◌, ℕ, ◌<◌, ◌≤◌, nat_eq, false, List, [], ◌∷◌, ◌++◌, length, map, take}
use Rattle.std.specs.List.{AllByRecursion}
use Rattle.nb_cache.specs.Held.{Slot}
use Rattle.nb_cache.specs.declared.frames.Frame.{Frame}

-- frames by their keys
abbrev pub Frames : Type 0
Frames = List (ℕ × Frame)

-- the page that a frame holds
abbrev pub slot_in : ℕ × Frame → ℕ × Slot
slot_in e = (e.1.page, record { bytes = e.1.bytes.items; rank = e.1.rank })

-- the pages that are held, where so many frames hold one
abbrev pub shown : ℕ → Frames → List (ℕ × Slot)
shown held es = map slot_in (take held es)

-- none of the frames holds the page
abbrev pub NoneHolds : ℕ → Frames → Type 0
NoneHolds page es = AllByRecursion (λ e. nat_eq page e.1.page ≡ false) es

-- the frame with this key, and the frames before and after it
pub record Split (es : Frames) (key : ℕ) : Type 0 where
  pub before : Frames
  pub frame : Frame
  pub behind : Frames
  pub parts : es ≡ before ++ (key, frame) ∷ behind
  pub only : AllByRecursion (λ e. nat_eq key e.0 ≡ false) before

-- the first frame that holds the page has this key
pub record FoundAt (es : Frames) (held page key : ℕ) : Type 0 where
  pub split : Split es key
  pub inside : length split.before < held
  pub holds : page ≡ split.frame.page
  pub first : NoneHolds page split.before

-- the least recently used frame has this key
pub record IsLast (es : Frames) (key : ℕ) : Type 0 where
  pub split : Split es key
  pub last : split.behind ≡ []

-- what holds of the fields of every cache
pub record IsCache (es : Frames) (cap held page_size : ℕ) : Type 0 where
  pub all_there : length es ≡ cap
  pub some : 0 < cap
  pub few : cap ≤ 4096
  pub within : held ≤ cap
  pub sizes : AllByRecursion (λ e. length e.1.bytes.items ≡ page_size) es
