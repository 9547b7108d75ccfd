-- What is known of a fold before its file is made.
use Rattle.std.specs.Prelude.{◌≡◌, ◌≢◌, ◌+◌, ◌≤◌, ℕ, List, Ok}
use Rattle.std.specs.List.{AllByRecursion}
use Rattle.nb_host.specs.World.{World}
use Rattle.nb_model.specs.Levels.{Contents}
use Rattle.nb_level.specs.Heads.{head_of}
use Rattle.nb_gather.specs.Gathering.{LevelWriting}
use Rattle.nb_fold.specs.Fold.{fold_reads}
use Rattle.nb_fold.specs.Folding.{folded, pages_of_each}
use Rattle.nb_fold.specs.Most.{open_most}
use Rattle.nb_fold.specs.Merging.{IsReady, pages_left}
use Rattle.nb_fold.specs.Sources.{Held}
use Rattle.nb_fold.specs.Verdict.{fold_verdict}

-- the fold is accepted, its head is known, and the pages of its files are still to come
pub record IsPrepared (old new : World) (out : List ℕ) (names : List (List ℕ)) (sources : List Held) (file : LevelWriting) : Type 0 where
  pub files : List Contents
  pub accepted : fold_verdict old.files out names ≡ Ok files
  pub head : head_of file.head ≡ (folded files).head
  pub ready : IsReady new file sources (folded files).pages (new.reads + pages_left (pages_of_each files))
  pub opened : new.reads ≤ old.reads + (1 + open_most old.files names)
  pub reads : new.reads + pages_left (pages_of_each files) ≤ old.reads + fold_reads files
  pub apart : AllByRecursion (λ (name : List ℕ). name ≢ out) names
