-- What is answered of a chain of files.
use Rattle.std.specs.Prelude.{◌≡◌, ℕ, ◌+◌, ◌-◌, ◌≤◌, List, [], ◌∷◌, length, drop, Result, Ok, Err}
use Rattle.nb_host.specs.Files.{Files}
use Rattle.nb_host.specs.declared.faults.Fault.{Fault}
use Rattle.nb_host.specs.declared.faults.Fault.TheVariants.{Refused, Device, Memory}
use Rattle.nb_model.specs.Restoring.{Link, verdict, all_over, applied}
use Rattle.nb_chain.specs.declared.checking.Chain.{Chain}
use Rattle.nb_chain.specs.declared.first_file.First.{First}
use Rattle.nb_chain.specs.First.{FirstSays}

-- the chain is that of these links: page size, GUID and SCN are those of the last of them
abbrev pub IsLast : Chain → List Link → Type 0
IsLast chain [] = ⊥
IsLast chain (l ∷ []) = (chain.page_size ≡ l.size) × (chain.guid ≡ l.guid) × (chain.scn ≡ l.scn)
IsLast chain (l ∷ m ∷ ls) = IsLast chain (m ∷ ls)

-- so the first of the files was read
abbrev pub IsFirstOf : Files → (names : List (List ℕ)) → First → Type 0
IsFirstOf files [] first = ⊥
IsFirstOf files (name ∷ names) first = FirstSays (files name) name (Ok first)

-- how many reads level files take: one for each page, one for the end, and two for the start
abbrev pub level_reads : List Link → ℕ
level_reads [] = 0
level_reads (l ∷ ls) = length l.pages + 3 + level_reads ls

-- Of level 0 only the start is read, and from the end on the pages that the image drops, with the one before them.
abbrev pub most_reads : List Link → ℕ
most_reads links = 2 + level_reads (drop 1 links) + (length (all_over links []) - length (applied links))

-- the files are a chain of these links, and the chain is theirs
pub record IsChain (files : Files) (names : List (List ℕ)) (before after : ℕ) (chain : Chain) : Type 0 where
  pub links : List Link
  pub accepted : verdict files names ≡ Ok links
  pub last : IsLast chain links
  pub count : chain.count ≡ length (applied links)
  pub reads : after ≤ before + most_reads links

-- the verdict on a chain, with so many reads before and after
abbrev pub CheckSays : Files → (names : List (List ℕ)) (before after : ℕ) → Result Chain Fault → Type 0
CheckSays files names before after (Ok chain) = IsChain files names before after chain
CheckSays files names before after (Err (Refused refusal)) = verdict files names ≡ Err refusal
CheckSays files names before after (Err Device) = Unit {0}
CheckSays files names before after (Err Memory) = Unit {0}
