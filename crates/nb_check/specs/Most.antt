-- How much a check reads, whatever comes of it.
use Rattle.std.specs.Prelude.{ℕ, ◌+◌, ◌*◌, length}
use Rattle.nb_model.specs.Chains.{Catalogue, found_pages}
use Rattle.nb_model.specs.Image.{Image}
use Rattle.nb_model.specs.Leaks.{reached}

-- how many reads the walk over the chains takes at most: one for each of their pages, and one more for each page of the catalogue
abbrev pub chains_most : Image → ℕ
chains_most image = length (found_pages Catalogue image) + length (reached image)

-- How many reads a check makes at most: one for each page, and three, and those of the walk over the chains. A chain that is broken has none of
-- the pages of these: the walk ends there after as many pages as the database has.
abbrev pub check_most : (count : ℕ) → Image → ℕ
check_most count image = 2 * count + 3 + chains_most image
