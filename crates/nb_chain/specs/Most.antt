-- How much is read of the files of a chain, whatever comes of it.
use Rattle.std.specs.Prelude.{ℕ, ◌+◌, ◌-◌, ◌*◌, ◌/◌, ◌≤◌, List, [], ◌∷◌, length, max, Some, None, true, false, Result, Ok, Err}
use Rattle.nb_fields.specs.Bytes.{number_in}
use Rattle.nb_host.specs.Files.{File, Files}
use Rattle.nb_host.specs.declared.faults.Fault.{Fault}
use Rattle.nb_host.specs.declared.faults.Fault.TheVariants.{Refused, Device, Memory}
use Rattle.nb_host.specs.declared.refusals.Refusal.{Refusal}
use Rattle.nb_level.specs.Reading.{Reading}
use Rattle.nb_model.specs.Levels.{begins_level}
use Rattle.nb_model.specs.Restoring.{Link, verdict, all_over, applied}

-- how many pages a level file has room for, by the page size in its head
abbrev pub level_room : File → ℕ
level_room None = 0
level_room (Some bytes) = length bytes / number_in 40 4 bytes

-- How many reads a level file takes at most, up to its end or its first broken place: one for its head, one for each page, and one where no
-- further page follows.
abbrev pub level_most : File → ℕ
level_most file = 2 + level_room file

-- those of files after the first, whose start is read before, once for each
abbrev pub levels_most : Files → (names : List (List ℕ)) → ℕ
levels_most files [] = 0
levels_most files (name ∷ names) = 1 + level_most (files name) + levels_most files names

-- those of the first file: its start alone, and all of it where it is a level file
abbrev pub first_most : File → ℕ
first_most None = 1
first_most (Some bytes) = elim (begins_level bytes) [ true ↦ 1 + level_most (Some bytes) | false ↦ 1 ]

-- those of the files of a chain, each of them once
abbrev pub chain_most : Files → (names : List (List ℕ)) → ℕ
chain_most files [] = 0
chain_most files (name ∷ names) = first_most (files name) + levels_most files names

-- How many pages of an accepted chain are read from the end on: those of zeros that its image drops, and the one before them.
abbrev pub end_most : Result (List Link) Refusal → ℕ
end_most (Ok links) = length (all_over links []) - length (applied links) + 1
end_most (Err refusal) = 0

-- how many reads a check of a chain takes at most, whatever it answers
abbrev pub check_most : Files → (names : List (List ℕ)) → ℕ
check_most files names = chain_most files names + end_most (verdict files names)

-- So many pages were read from where the reader stood, which the file has room for, and once more at most.
pub record ReadsRoom (bytes : List ℕ) (r : Reading) (before after : ℕ) : Type 0 where
  pub count : ℕ
  pub reads : after ≤ before + count + 1
  pub room : 1 ≤ r.head.page_size → r.place.at + count * r.head.page_size ≤ max r.place.at (length bytes)

-- a call that refuses reads so often at most
abbrev pub RefusedReads : {T : Type 0} → Result T Fault → (before most after : ℕ) → Type 0
RefusedReads (Ok value) before most after = Unit {0}
RefusedReads (Err (Refused refusal)) before most after = after ≤ before + most
RefusedReads (Err Device) before most after = Unit {0}
RefusedReads (Err Memory) before most after = Unit {0}
