-- How many reads the opening of a database makes.
use Rattle.std.specs.Prelude.{ℕ, zero, suc, ◌+◌, ◌-◌, ◌/◌, List, length}
use Rattle.nb_fields.specs.Header.{size_of}
use Rattle.nb_fields.specs.Places.{slots_in}
use Rattle.nb_host.specs.Files.{File, bytes_of}
use Rattle.nb_model.specs.Image.{image_in}
use Rattle.nb_base.specs.Open.{Held}

-- of the allocation pages of the difference file, up to the first that isn't full; in the normal state none is read
abbrev pub table_reads : (state size : ℕ) (entries : List ℕ) → ℕ
table_reads zero size entries = 0
table_reads (suc k) size entries = length entries / slots_in size + 1

-- how many pages of zeros stand at the end of a main file
abbrev pub zero_pages : File → ℕ
zero_pages file = length (bytes_of file) / size_of (bytes_of file) - length (image_in (bytes_of file))

-- The header, the allocation pages, and the pages of zeros at the end of the main file with the last page before them.
abbrev pub opening_reads : File → Held → ℕ
opening_reads file held = 1 + table_reads held.state held.page_size held.entries + zero_pages file + 1
