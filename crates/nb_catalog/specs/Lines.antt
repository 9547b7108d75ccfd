-- Which file goes on from which, and the line of each.
use Rattle.std.specs.Prelude.{ℕ, zero, suc, ◌+◌, Bool, ◌&&◌, ◌==◌, List, [], ◌∷◌, ◌++◌, Option, Some, None, map, option_map}
use Rattle.std.specs.List.{slice_index_or, position, list_any}
use Rattle.nb_host.specs.Names.{same_name}
use Rattle.nb_level.specs.declared.head.LevelHead.{LevelHead}

-- a file goes on from this one: it is of the level after, and has its GUID and SCN as the previous ones, and its page size
abbrev pub is_parent : (child head : LevelHead) → Bool
is_parent child head = child.level == head.level + 1 && (same_name child.previous head.guid && (child.previous_scn == head.scn && child.page_size == head.page_size))

-- the place of the first file of the list that a file goes on from
abbrev pub parent : List LevelHead → (child : LevelHead) → Option ℕ
parent heads child = position (is_parent child) heads

-- that of each file
abbrev pub parents_of : List LevelHead → List (Option ℕ)
parents_of heads = map (parent heads) heads

-- The line of the file of that level in that place, by the parent of each: the places of the files from level 0 up to it. There is
-- none where a parent is missing.
unfoldable pub line_at : List (Option ℕ) → (level place : ℕ) → Option (List ℕ)
line_at parents zero place = Some (place ∷ [])
line_at parents (suc level) place = elim (slice_index_or parents place None) [
  | None ↦ None
  | Some above ↦ option_map (λ line. line ++ place ∷ []) (line_at parents level above)
]

-- a place is one of a line's
abbrev pub is_among : (place : ℕ) → (line : List ℕ) → Bool
is_among place line = list_any (λ p. p == place) line
