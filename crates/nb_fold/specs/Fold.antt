-- Level files are folded into one.
use Rattle.std.specs.Prelude.{◌≡◌, ◌≢◌, ◌⊎◌, ◌+◌, ◌*◌, ◌≤◌, ℕ, List, [], ◌∷◌, length, Result, Ok, Err}
use Rattle.std.specs.List.{AllByRecursion}
use Rattle.nb_host.specs.Files.{File, Files}
use Rattle.nb_host.specs.World.{World}
use Rattle.nb_host.specs.Crash.{Leaves}
use Rattle.nb_host.specs.declared.faults.Fault.{Fault}
use Rattle.nb_host.specs.declared.faults.Fault.TheVariants.{Refused, Device, Memory}
use Rattle.nb_host.specs.declared.refusals.Refusal.{Refusal}
use Rattle.nb_change.specs.Changes.{Changes, Only}
use Rattle.nb_change.specs.Gave.{GaveNothing}
use Rattle.nb_page.specs.Quiet.{Quiet}
use Rattle.nb_model.specs.Levels.{Contents}
use Rattle.nb_level.specs.Heads.{head_of}
use Rattle.nb_gather.specs.Making.{IsKept, IsUnfinishedOr}
use Rattle.nb_fold.specs.declared.folded.Folded.{Folded}
use Rattle.nb_fold.specs.Folding.{folded, bytes_for}
use Rattle.nb_fold.specs.Verdict.{fold_verdict}

-- What stands of the file that is made: it is as it `was`; or, where nothing refuses the fold, it is unfinished or whole.
abbrev pub FoldLeft : (was : File → Type 0) (old : Files) (out : List ℕ) (names : List (List ℕ)) → Files → Type 0
FoldLeft was old out names files = was (files out) ⊎ ((cs : List Contents) × (fold_verdict old out names ≡ Ok cs) × IsUnfinishedOr (bytes_for (folded cs)) (files out))

-- each page is read twice at most, and of each file its head and its end
abbrev pub fold_reads : List Contents → ℕ
fold_reads [] = 1
fold_reads (c ∷ cs) = 2 * length c.pages + 4 + fold_reads cs

-- The files go on from one another, and the file that was made is the one that tells what they tell, for good. It is none of them.
pub record IsFolded (old new : World) (out : List ℕ) (names : List (List ℕ)) (made : Folded) : Type 0 where
  pub files : List Contents
  pub accepted : fold_verdict old.files out names ≡ Ok files
  pub head : head_of made.head ≡ (folded files).head
  pub pages : made.pages ≡ length (folded files).pages
  pub kept : IsKept new out (bytes_for (folded files))
  pub apart : AllByRecursion (λ (name : List ℕ). name ≢ out) names
  pub reads : new.reads ≤ old.reads + fold_reads files

-- a refused call, and one that wants memory, changes nothing
abbrev pub FoldAnswers : Result Folded Fault → (old new : World) (out : List ℕ) (names : List (List ℕ)) → Type 0
FoldAnswers (Ok made) old new out names = IsFolded old new out names made
FoldAnswers (Err (Refused refusal)) old new out names = Quiet old new × (fold_verdict old.files out names ≡ Err refusal)
FoldAnswers (Err Device) old new out names = Unit {0}
FoldAnswers (Err Memory) old new out names = Quiet old new

pub record Folds (result : Result Folded Fault) (old new : World) (out : List ℕ) (names : List (List ℕ)) : Type 0 where
  pub answer : FoldAnswers result old new out names
  -- At each moment a crash leaves the file so. No other file is touched, and nothing is said.
  pub left : Changes old new (Only out) (FoldLeft (Leaves old out) old.files out names)
  -- so it reads after the call, whatever is answered
  pub reads : FoldLeft (λ file. file ≡ old.files out) old.files out names new.files
  pub gave : GaveNothing old new
  -- where the fold is refused nothing changes, also where the device fails
  pub refused : (refusal : Refusal) → fold_verdict old.files out names ≡ Err refusal → Quiet old new
