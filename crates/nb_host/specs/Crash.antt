-- What a crash leaves.
--
-- A page write is whole. Until a sync of a file, each of its page writes is kept or lost by itself, pages past the synced
-- length are missing or zeros, and appended bytes are as they were written, or zeros, or cut off. A file that was made or
-- removed since its last sync may be there as before or as now. So of each name there are two sets of outcomes, and
-- what a crash leaves of all files is any choice of one outcome for each.
use Rattle.std.specs.Prelude.{◌≡◌, ◌⊎◌, ℕ, ◌+◌, ◌*◌, ◌<◌, ◌≤◌, List, ◌++◌, length, replicate, Some, slice_index}
use Rattle.nb_host.specs.Files.{File, Files, bytes_of, with_page}
use Rattle.nb_host.specs.World.{World}

-- a crash now may leave this of a file
abbrev pub Leaves : World → List ℕ → File → Type 0
Leaves w name file = w.back name file ⊎ w.now name file

-- a crash now may leave these files
abbrev pub LeavesAll : World → Files → Type 0
LeavesAll w files = (name : List ℕ) → Leaves w name (files name)

-- Where a crash would have left `before`, and then a page is written, it leaves `left`: the page is lost, or there,
-- or the file only grew by pages of zeros, up to the page's end at most.
abbrev pub PageLeft : (at : ℕ) (page : List ℕ) (before left : File) → Type 0
PageLeft at page before left =
    (left ≡ before)
    ⊎ (left ≡ with_page before at page)
    ⊎ ((k : ℕ) × (length (bytes_of before) + k * length page ≤ at + length page) × (left ≡ Some (bytes_of before ++ replicate (k * length page) 0)))

-- each byte is as it was written or zero, and there may be fewer of them
pub record IsTornFrom (bytes torn : List ℕ) : Type 0 where
  pub no_longer : length torn ≤ length bytes
  pub each : (i : ℕ) → i < length torn → (slice_index torn i ≡ slice_index bytes i) ⊎ (slice_index torn i ≡ 0)

-- Where a crash would have left `before`, and then bytes are appended at the length `len`, it leaves `left`:
-- the bytes are lost, or torn. After a file that ended earlier there is nothing.
abbrev pub AppendLeft : (len : ℕ) (bytes : List ℕ) (before left : File) → Type 0
AppendLeft len bytes before left =
    (left ≡ before)
    ⊎ ((torn : List ℕ) × IsTornFrom bytes torn × (length (bytes_of before) ≡ len) × (left ≡ Some (bytes_of before ++ torn)))

-- a crash leaves this of the file and nothing else
pub record IsDurable (w : World) (name : List ℕ) (file : File) : Type 0 where
  pub none_back : (c : File) → w.back name c → c ≡ file
  pub only : (c : File) → w.now name c → c ≡ file

-- between two moments a crash gained no outcome for these names
pub record Untouched (old new : World) (names : List ℕ → Type 0) : Type 0 where
  pub back : (m : List ℕ) (c : File) → names m → new.back m c → old.back m c
  pub now : (m : List ℕ) (c : File) → names m → new.now m c → old.now m c
