-- How many reads a file takes.
use Rattle.std.specs.Prelude.{ℕ, ◌+◌, List, length, sum_by, true, false, Some, None, Ok, Err}
use Rattle.nb_host.specs.Files.{File, Files, bytes_of}
use Rattle.nb_model.specs.Levels.{begins_level, read_level}
use Rattle.nb_chain.specs.Most.{level_most}

-- how many reads a file takes: one for its first bytes; of a level file one more, one for each page and one for the end; and of another one
unfoldable pub reads_of : File → ℕ
reads_of None = 0
reads_of (Some bytes) = elim (read_level bytes) [ Err at ↦ 2 | Ok c ↦ length c.pages + 3 ]

-- so of all these files
abbrev pub all_reads : Files → (names : List (List ℕ)) → ℕ
all_reads files names = sum_by (λ name. reads_of (files name)) names

-- How many it takes at most, whatever comes of it: one for its first bytes; of a level file those up to its end or its first broken place;
-- and of another one for its header.
abbrev pub file_most : File → ℕ
file_most file = 1 + elim (begins_level (bytes_of file)) [ true ↦ level_most file | false ↦ 1 ]

-- so of all these files
abbrev pub files_most : Files → (names : List (List ℕ)) → ℕ
files_most files names = sum_by (λ name. file_most (files name)) names
