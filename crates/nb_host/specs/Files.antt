-- Files by their names, and the bytes of one.
use Rattle.std.specs.Prelude.{ℕ, ◌+◌, ◌-◌, Bool, ◌||◌, ◌==◌, List, [], ◌++◌, length, take, drop, replicate, Option, None, Some, if◌then◌else◌}
use Rattle.nb_host.specs.Names.{same_name}

-- a file's bytes, or none where there is no such file
abbrev pub File : Type 0
File = Option (List ℕ)

-- the file of each name
abbrev pub Files : Type 0
Files = List ℕ → File

-- the same files, but for this one under that name
unfoldable pub with_file : Files → List ℕ → File → Files
with_file files name file m = if same_name m name then file else files m

-- the bytes of a file, none where it is not there
abbrev pub bytes_of : File → List ℕ
bytes_of None = []
bytes_of (Some bytes) = bytes

-- one of the six page sizes
abbrev pub is_page_size : ℕ → Bool
is_page_size n = n == 1024 || n == 2048 || n == 4096 || n == 8192 || n == 16384 || n == 32768

-- the bytes with zeros after, up to this length
unfoldable pub padded : List ℕ → ℕ → List ℕ
padded bytes len = bytes ++ replicate (len - length bytes) 0

-- the bytes with these at that place, and zeros between where they ended before it
unfoldable pub put_at : List ℕ → ℕ → List ℕ → List ℕ
put_at bytes at page = take at (padded bytes at) ++ (page ++ drop (at + length page) bytes)

-- the file with a page at that place
abbrev pub with_page : File → ℕ → List ℕ → File
with_page file at page = Some (put_at (bytes_of file) at page)

-- the file with bytes at its end
abbrev pub with_bytes : File → List ℕ → File
with_bytes file bytes = Some (bytes_of file ++ bytes)
