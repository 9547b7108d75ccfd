-- Which files of a catalogue the last restore points need.
use Rattle.std.specs.Prelude.{ℕ, ◌+◌, ◌<◌, Bool, ◌&&◌, ◌||◌, ◌==◌, not, nat_lt, List, [], ◌∷◌, Option, map, option_map, filter, count_by, is_some, unwrap_or, false}
use Rattle.std.specs.List.{AllByRecursion, list_any}
use Rattle.nb_level.specs.declared.head.LevelHead.{LevelHead}
use Rattle.nb_catalog.specs.Lines.{parents_of, line_at, is_among}
use Rattle.nb_catalog.specs.declared.entry.Entry.{Entry}

-- the files with their places, where the first of them has place n
unfoldable pub entries_from : (n : ℕ) → List LevelHead → List Entry
entries_from n [] = []
entries_from n (h ∷ hs) = record { place = n; level = h.level; scn = h.scn } ∷ entries_from (n + 1) hs

abbrev pub entries_of : List LevelHead → List Entry
entries_of heads = entries_from 0 heads

-- the line of a file, by the parent of each: the places of the files from level 0 up to it, and none where one is missing
abbrev pub line_by : List (Option ℕ) → Entry → Option (List ℕ)
line_by parents e = line_at parents e.level e.place

abbrev pub line : List LevelHead → Entry → Option (List ℕ)
line heads e = line_by (parents_of heads) e

-- a restore point is a file that has a line
abbrev pub is_point : List LevelHead → Entry → Bool
is_point heads e = is_some (line heads e)

abbrev pub points : List LevelHead → List Entry
points heads = filter (is_point heads) (entries_of heads)

-- the first comes after the second: by SCN, and then by place
abbrev pub is_newer : Entry → Entry → Bool
is_newer d e = nat_lt e.scn d.scn || (d.scn == e.scn && nat_lt e.place d.place)

-- so many of these, the newest: those that fewer come after
abbrev pub newest : (keep : ℕ) → List Entry → List Entry
newest keep es = filter (λ e. nat_lt (count_by (λ d. is_newer d e) es) keep) es

-- the last points
abbrev pub kept : List LevelHead → (keep : ℕ) → List Entry
kept heads keep = newest keep (points heads)

-- a place is in the line of a file
abbrev pub is_in_line : List (Option ℕ) → (place : ℕ) → Entry → Bool
is_in_line parents place e = unwrap_or (option_map (is_among place) (line_by parents e)) false

-- a file is in the line of one of these
abbrev pub is_in_lines : List (Option ℕ) → List Entry → Entry → Bool
is_in_lines parents es e = list_any (is_in_line parents e.place) es

-- a file is needed where it is in the line of a kept point
abbrev pub is_needed : List LevelHead → (keep : ℕ) → Entry → Bool
is_needed heads keep e = is_in_lines (parents_of heads) (kept heads keep) e

abbrev pub places : List Entry → List ℕ
places es = map (λ e. e.place) es

-- the places of the points that are not needed, and of the files without a line, rising
abbrev pub dropped : List LevelHead → (keep : ℕ) → List ℕ
dropped heads keep = places (filter (λ e. not (is_needed heads keep e)) (points heads))

abbrev pub orphans : List LevelHead → List ℕ
orphans heads = places (filter (λ e. not (is_point heads e)) (entries_of heads))

-- these are places of a list of that length
abbrev pub ArePlaces : (count : ℕ) → (places : List ℕ) → Type 0
ArePlaces count places = AllByRecursion (λ (place : ℕ). place < count) places

-- how many files are needed, and the places of the others
pub record Retention : Type 0 where
  pub kept : ℕ
  pub dropped : List ℕ
  pub orphans : List ℕ

abbrev pub plan_of : List LevelHead → (keep : ℕ) → Retention
plan_of heads keep = record { kept = count_by (is_needed heads keep) (entries_of heads); dropped = dropped heads keep; orphans = orphans heads }

-- each place is one of a list of that length
pub record IsWithin (count : ℕ) (plan : Retention) : Type 0 where
  pub dropped : ArePlaces count plan.dropped
  pub orphans : ArePlaces count plan.orphans
