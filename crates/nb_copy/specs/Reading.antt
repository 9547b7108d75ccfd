-- How many pages the copy of a level reads.
use Rattle.std.specs.Prelude.{ℕ, zero, suc, ◌+◌, ◌%◌, Bool, true, false, ◌&&◌, ◌||◌, ◌==◌, nat_lt, length, Option, Some, None}
use Rattle.nb_fields.specs.Places.{entries_in, is_scn_place}
use Rattle.nb_model.specs.Account.{Ask}
use Rattle.nb_model.specs.Image.{Image, image_size}
use Rattle.nb_model.specs.Forms.{has_entry, scn_entry}
use Rattle.nb_copy.specs.declared.file_copy.FileCopy.{FileCopy}
use Rattle.nb_copy.specs.declared.file_copy.FileCopy.TheVariants.{Pages, Level}

-- the SCN entry of that page is above the SCN
unfoldable pub is_above : Image → (scn page : ℕ) → Bool
is_above image scn page = has_entry image page && nat_lt scn (scn_entry image page)

-- The turn of that page reads an SCN page: that of page 1 the first, and each other SCN page is read in its own.
unfoldable pub loads_entries : (size page : ℕ) → Bool
loads_entries size page = page == 1 || page % entries_in size == 0

-- one where it holds
abbrev pub one_if : Bool → ℕ
one_if true = 1
one_if false = 0

-- How many pages the turn of a page reads at most: page 0; or the SCN page, where it reads one, and the page itself, where its entry is above
-- the SCN of the earlier backup.
unfoldable pub reads_at : Image → (scn page : ℕ) → ℕ
reads_at image scn zero = 1
reads_at image scn (suc k) = one_if (loads_entries (image_size image) (suc k)) + one_if (is_above image scn (suc k))

-- the sum of what the numbers below that one have
unfoldable pub sum_below : (n : ℕ) → (ℕ → ℕ) → ℕ
sum_below zero f = 0
sum_below (suc k) f = sum_below k f + f k

-- how many pages of an image have an entry above that SCN, and how many are SCN pages
abbrev pub pages_above : Image → (scn : ℕ) → ℕ
pages_above image scn = sum_below (length image) (λ p. one_if (is_above image scn p))

abbrev pub scn_pages : Image → ℕ
scn_pages image = sum_below (length image) (λ p. one_if (is_scn_place (image_size image) p))

-- The SCN of the backup that a copier goes on from; level 0 goes on from none. Likewise where that is asked.
abbrev pub earlier_scn : FileCopy → Option ℕ
earlier_scn (Pages copy) = None
earlier_scn (Level copy) = Some copy.file.head.previous_scn

abbrev pub scn_below : (level scn : ℕ) → Option ℕ
scn_below zero scn = None
scn_below (suc below) scn = Some scn

abbrev pub asked_scn : Ask → Option ℕ
asked_scn ask = scn_below ask.level ask.previous_scn

-- how many pages the turn of a page reads at most, in a backup since that SCN; one since none reads each page in its turn
abbrev pub page_reads : Option ℕ → Image → (page : ℕ) → ℕ
page_reads None frozen page = 1
page_reads (Some scn) frozen page = reads_at frozen scn page
