-- What a plan promises.
use Rattle.std.specs.Prelude.{◌≡◌, ℕ, ◌≤◌, List, [], length, map, Some, Ok, Contains}
use Rattle.std.specs.List.{slice_index_or}
use Rattle.nb_host.specs.Files.{Files}
use Rattle.nb_model.specs.Restoring.{Link, verdict}
use Rattle.nb_level.specs.declared.head.LevelHead.{LevelHead}
use Rattle.nb_catalog.specs.declared.entry.Entry.{Entry}
use Rattle.nb_catalog.specs.Heads.{read_files}
use Rattle.nb_catalog.specs.NameLists.{AreDistinct}
use Rattle.nb_catalog.specs.Plans.{line, points, kept, Retention}

-- the names in these places
abbrev pub names_at : List (List ℕ) → (places : List ℕ) → List (List ℕ)
names_at names places = map (λ place. slice_index_or names place []) places

-- a file has a line, and the files of it, level 0 first and ten at most, are a chain that is accepted
pub record IsChained (files : Files) (names : List (List ℕ)) (heads : List LevelHead) (e : Entry) : Type 0 where
  pub chain : List ℕ
  pub is : line heads e ≡ Some chain
  pub links : List Link
  pub accepted : verdict files (names_at names chain) ≡ Ok links
  pub most : length chain ≤ 10

-- each kept point is a restore point, and no file of its line is dropped: a file that is dropped is in no kept line
pub record IsSafe (heads : List LevelHead) (keep : ℕ) (plan : Retention) : Type 0 where
  pub points : (e : Entry) → Contains (kept heads keep) e → Contains (points heads) e
  pub needed : (e : Entry) (chain : List ℕ) (place : ℕ) → Contains (kept heads keep) e → line heads e ≡ Some chain → Contains chain place → ¬ Contains plan.dropped place

-- no file of a kept point's line has a name that is dropped
abbrev pub KeepsFiles : (names : List (List ℕ)) (heads : List LevelHead) (keep : ℕ) (plan : Retention) → Type 0
KeepsFiles names heads keep plan = (e : Entry) (chain : List ℕ) (name : List ℕ) → Contains (kept heads keep) e → line heads e ≡ Some chain → Contains (names_at names chain) name → ¬ Contains (names_at names plan.dropped) name

-- The plan of these files that were read: the files of each kept point's line are a chain that is accepted, and none of them is dropped; nor is its
-- name, where no name stands twice.
pub record KeepsChains (files : Files) (names : List (List ℕ)) (keep : ℕ) (plan : Retention) : Type 0 where
  pub heads : List LevelHead
  pub read : read_files files names ≡ Ok heads
  pub chained : (e : Entry) → Contains (kept heads keep) e → IsChained files names heads e
  pub safe : IsSafe heads keep plan
  pub by_name : AreDistinct names → KeepsFiles names heads keep plan
