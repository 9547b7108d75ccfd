-- How much a fold reads, whatever comes of it.
use Rattle.std.specs.Prelude.{ℕ, ◌+◌, List, [], ◌∷◌, true, false, Result, Ok, Err}
use Rattle.nb_host.specs.Files.{Files}
use Rattle.nb_host.specs.declared.refusals.Refusal.{Refusal}
use Rattle.nb_page.specs.Free.{is_free_name}
use Rattle.nb_model.specs.Levels.{Contents}
use Rattle.nb_chain.specs.Most.{level_most}
use Rattle.nb_fold.specs.Folding.{pages_of_each}
use Rattle.nb_fold.specs.Merging.{pages_left}
use Rattle.nb_fold.specs.Verdict.{chained}

-- those until the first page of each file waits: to its end or to its first broken place, and then its head and its first page once more
abbrev pub open_most : Files → (names : List (List ℕ)) → ℕ
open_most files [] = 0
open_most files (name ∷ names) = level_most (files name) + 2 + open_most files names

-- those that then read the files on to their ends, side by side, where they go on from one another
abbrev pub read_on_most : Result (List Contents) Refusal → ℕ
read_on_most (Ok cs) = pages_left (pages_of_each cs)
read_on_most (Err refusal) = 0

-- How many reads a fold makes at most: one for the name of the file that is made, and where that is free those of the files. So each of them is
-- read twice at most.
abbrev pub fold_most : Files → (out : List ℕ) → (names : List (List ℕ)) → ℕ
fold_most files out names = 1 + elim (is_free_name files out) [ true ↦ open_most files names + read_on_most (chained files names) | false ↦ 0 ]
