-- Each of the files that are folded goes on from the one before it.
use Rattle.std.specs.Prelude.{◌≡◌, ℕ, ◌+◌, ◌≤◌, List, [], ◌∷◌, ◌++◌, length, Option, Some, None, Result, Ok, Err}
use Rattle.nb_host.specs.Files.{Files}
use Rattle.nb_host.specs.declared.faults.Fault.{Fault}
use Rattle.nb_host.specs.declared.faults.Fault.TheVariants.{Refused, Device, Memory}
use Rattle.nb_model.specs.Levels.{Contents}
use Rattle.nb_level.specs.Heads.{head_of}
use Rattle.nb_fold.specs.Sources.{Held, IsOpened, AreOpened, AreOfPages}
use Rattle.nb_fold.specs.Verdict.{file_after, chained}

-- the last of these files has the head of these contents; there is none where there are none
abbrev pub IsLast : List Held → Option Contents → Type 0
IsLast [] None = Unit {0}
IsLast [] (Some c) = ⊥
IsLast (s ∷ []) None = ⊥
IsLast (s ∷ []) (Some c) = head_of s.reader.head ≡ c.head
IsLast (s ∷ t ∷ ss) last = IsLast (t ∷ ss) last

-- one file more goes on from them
pub record IsAdded (files : Files) (name : List ℕ) (last : Option Contents) (old new : List Held) (before after : ℕ) : Type 0 where
  pub source : Held
  pub contents : Contents
  pub added : new ≡ old ++ source ∷ []
  pub accepted : file_after files last name ≡ Ok contents
  pub opened : IsOpened files name source contents
  pub reads : after ≤ before + length contents.pages + 4

abbrev pub AddSays : Files → (name : List ℕ) → Option Contents → (old new : List Held) (before after : ℕ) → Result (Unit {0}) Fault → Type 0
AddSays files name last old new before after (Ok done) = IsAdded files name last old new before after
AddSays files name last old new before after (Err (Refused refusal)) = file_after files last name ≡ Err refusal
AddSays files name last old new before after (Err Device) = Unit {0}
AddSays files name last old new before after (Err Memory) = Unit {0}

-- how many reads it takes until the first page of each waits
abbrev pub open_reads : List Contents → ℕ
open_reads [] = 0
open_reads (c ∷ cs) = length c.pages + 4 + open_reads cs

-- all of them go on from one another
pub record AreChained (files : Files) (names : List (List ℕ)) (before after : ℕ) (sources : List Held) : Type 0 where
  pub contents : List Contents
  pub accepted : chained files names ≡ Ok contents
  pub opened : AreOpened files names sources contents
  pub reads : after ≤ before + open_reads contents

-- the size of the pages of the first
abbrev pub first_size : List Held → ℕ
first_size [] = 0
first_size (s ∷ ss) = s.reader.head.page_size

-- all have pages of one size
abbrev pub AreAlike : List Held → Type 0
AreAlike sources = AreOfPages (first_size sources) sources
