-- Which frame holds a page, kept beside the frames.
use Rattle.std.specs.Prelude.{◌≡◌, ℕ, ◌+◌, ◌*◌, ◌≤◌, nat_eq, List, map, take, length, Option, Some, Contains}
use Rattle.std.specs.HashMap.{get, hash_map_len, spare}
use Rattle.std.specs.Option.{option_and_then}
use Rattle.nb_cache.specs.Frames.{Frames}
use Rattle.nb_cache.specs.declared.index.Index.{Index}

-- the key of the frame that holds a page
abbrev pub holder : Index → ℕ → Option ℕ
holder index page = option_and_then (λ key. key) (get nat_eq index.keys page)

-- how many more pages may be entered
abbrev pub left_in : Index → ℕ
left_in index = spare index.keys

-- how many pages it has memory for
abbrev pub room_of : Index → ℕ
room_of index = hash_map_len index.keys + spare index.keys

-- the pages in frames, each with the key of its frame
abbrev pub places : Frames → List (ℕ × ℕ)
places es = map (λ e. (e.1.page, e.0)) es

-- these pages are found in these frames, and no others
pub record Finds (index : Index) (held : List (ℕ × ℕ)) : Type 0 where
  pub only : (page key : ℕ) → holder index page ≡ Some key → Contains held (page, key)
  pub each : (page key : ℕ) → Contains held (page, key) → holder index page ≡ Some key

-- the pages in the first `held` frames are found, with memory for twice as many as there are frames
pub record IsIndexed (index : Index) (es : Frames) (held : ℕ) : Type 0 where
  pub finds : Finds index (places (take held es))
  pub room : 2 * length es ≤ room_of index
