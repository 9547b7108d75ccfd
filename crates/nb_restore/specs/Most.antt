-- How much a restore reads, whatever comes of it.
use Rattle.std.specs.Prelude.{ℕ, ◌+◌, ◌/◌, List, [], ◌∷◌, length, drop, Result, Ok, Err}
use Rattle.nb_host.specs.Files.{Files, bytes_of}
use Rattle.nb_host.specs.declared.refusals.Refusal.{Refusal}
use Rattle.nb_model.specs.Restoring.{Link, verdict}
use Rattle.nb_chain.specs.Most.{check_most}

-- how long the pieces are in which level 0 is copied, in bytes: a page at least, and less than 1 MiB
abbrev pub piece_length : ℕ
piece_length = 262144

-- how many pieces so many bytes are at most
abbrev pub pieces_in : (len : ℕ) → ℕ
pieces_in len = len / piece_length + 1

-- how many reads the pages of level files take: one for each page, and one where no further page follows
abbrev pub pages_most : List Link → ℕ
pages_most [] = 0
pages_most (l ∷ ls) = length l.pages + 1 + pages_most ls

-- those that make an accepted chain ready to be copied: page 0 of level 0, and the head of each level file
abbrev pub ready_most : (names : List (List ℕ)) → Result (List Link) Refusal → ℕ
ready_most names (Ok links) = length names
ready_most names (Err refusal) = 0

-- those that copy it: level 0 by pieces, and each level file page by page
abbrev pub copy_most : Files → (names : List (List ℕ)) → Result (List Link) Refusal → ℕ
copy_most files [] links = 0
copy_most files (name ∷ names) (Ok links) = pieces_in (length (bytes_of (files name))) + pages_most (drop 1 links)
copy_most files (name ∷ names) (Err refusal) = 0

-- How many reads a restore makes at most: one for the name of the target, those of a check, and those of the copy. So level 0 is read
-- once, but for its start and for the pages of zeros at its end, and each level file twice.
abbrev pub restore_most : Files → (names : List (List ℕ)) → ℕ
restore_most files names = 1 + check_most files names + ready_most names (verdict files names) + copy_most files names (verdict files names)
