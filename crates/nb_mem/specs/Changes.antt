-- What a change of one file does to it, and to what a crash leaves of it.
use Rattle.std.specs.Prelude.{◌≡◌, ◌⊎◌, [], length, Some, None}
use Rattle.nb_host.specs.Files.{File, bytes_of, with_page, with_bytes}
use Rattle.nb_host.specs.Crash.{PageLeft, AppendLeft}
use Rattle.nb_mem.specs.declared.entry.Change.{Change}
use Rattle.nb_mem.specs.declared.entry.Change.TheVariants.{Placed, Made, Removed, Paged, Appended, Synced}

-- the file as it reads then
abbrev pub file_after : Change → File → File
file_after (Placed bytes) file = Some bytes
file_after Made file = Some []
file_after Removed file = None
file_after (Paged at page) file = with_page file at page
file_after (Appended bytes) file = with_bytes file bytes
file_after Synced file = file

-- What a crash then leaves of the file as it was made since: it read as `file`, and a crash left what has `now`.
abbrev pub NowAfter : Change → (file : File) (now : File → Type 0) → File → Type 0
NowAfter (Placed bytes) file now left = left ≡ Some bytes
NowAfter Made file now left = left ≡ Some []
NowAfter Removed file now left = left ≡ None
NowAfter (Paged at page) file now left = (before : File) × now before × PageLeft at page before left
NowAfter (Appended bytes) file now left = (before : File) × now before × AppendLeft (length (bytes_of file)) bytes before left
NowAfter Synced file now left = left ≡ file

-- what a crash then leaves of it as it was before it was last made or removed
abbrev pub BackAfter : Change → (back now : File → Type 0) → File → Type 0
BackAfter (Placed bytes) back now left = ⊥
BackAfter Made back now left = back left ⊎ now left
BackAfter Removed back now left = back left ⊎ now left
BackAfter (Paged at page) back now left = back left
BackAfter (Appended bytes) back now left = back left
BackAfter Synced back now left = ⊥
