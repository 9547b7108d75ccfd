-- What an answer of a reader says of the file, of the reader and of the host.
use Rattle.std.specs.Prelude.{◌≡◌, ℕ, ◌+◌, ◌<◌, ◌≤◌, Bool, true, false, ◌==◌, nat_lt, drop, IsTrue, List, [], ◌∷◌, Some, None, Result, Ok, Err}
use Rattle.nb_fields.specs.Bytes.{number_in, part}
use Rattle.nb_fields.specs.Places.{most_pages}
use Rattle.nb_host.specs.Files.{File, bytes_of}
use Rattle.nb_host.specs.World.{World}
use Rattle.nb_host.specs.declared.faults.Fault.{Fault}
use Rattle.nb_host.specs.declared.faults.Fault.TheVariants.{Refused, Device, Memory}
use Rattle.nb_host.specs.declared.refusals.Refusal.TheVariants.{BadLevel, NoFile}
use Rattle.nb_model.specs.Levels.{with_head, behind, read_level}
use Rattle.nb_level.specs.Heads.{head_of}
use Rattle.nb_level.specs.Reading.{Reading, still_to_come}
use Rattle.nb_level.specs.declared.item.Item.{Item}
use Rattle.nb_level.specs.declared.item.Item.TheVariants.{PageAt, End}

-- the next page is the first of those that were still to come; or none was, after so many; or the first broken place
abbrev pub NextSays : (tells : Bool) (file : File) (old new : Reading) (page : List ℕ) → Result Item Fault → Type 0
NextSays tells file old new page (Ok (PageAt number)) = IsTrue tells → still_to_come (bytes_of file) old ≡ behind ((number, page) ∷ []) (still_to_come (bytes_of file) new)
NextSays tells file old new page (Ok (End count)) = (count ≡ old.place.count) × (new ≡ old) × (IsTrue tells → still_to_come (bytes_of file) old ≡ Ok [])
NextSays tells file old new page (Err (Refused (BadLevel name at))) = (name ≡ old.name) × (new ≡ old) × (IsTrue tells → still_to_come (bytes_of file) old ≡ Err at)
NextSays tells file old new page (Err (Refused refusal)) = ⊥
NextSays tells file old new page (Err Device) = new ≡ old
NextSays tells file old new page (Err Memory) = ⊥

-- what stands before the next page: its number, or that and how many pages its run has, or within a run nothing
abbrev pub lead_of : Reading → ℕ
lead_of r = elim (r.version == 101) [ true ↦ 4 | false ↦ elim (nat_lt 0 r.place.left) [ true ↦ 0 | false ↦ 8 ] ]

-- the number that is due: the next one of the run, or the one that stands there
abbrev pub number_due : Reading → (rest : List ℕ) → ℕ
number_due r rest = elim (nat_lt 0 r.place.left) [ true ↦ r.place.least | false ↦ number_in 0 4 rest ]

-- The page is the one that stands there in the file, whatever follows it, and so is its number. The reader then stands after it.
pub record IsThere (bytes : List ℕ) (lead due : ℕ) (old new : Reading) (n : ℕ) (given : List ℕ) : Type 0 where
  pub number : n ≡ due
  pub page : given ≡ part lead old.head.page_size (drop old.place.at bytes)
  pub stands : new.place.at ≡ old.place.at + lead + old.head.page_size

abbrev pub GivesAt : (tells : Bool) (file : File) (lead due : ℕ) (old new : Reading) (page : List ℕ) → Result Item Fault → Type 0
GivesAt tells file lead due old new page (Ok (PageAt number)) = IsTrue tells → IsThere (bytes_of file) lead due old new number page
GivesAt tells file lead due old new page (Ok (End count)) = Unit {0}
GivesAt tells file lead due old new page (Err fault) = Unit {0}

-- numbers rise, and are those of pages of a database, whether the host tells its files or not
abbrev pub Rises : (old new : Reading) → Result Item Fault → Type 0
Rises old new (Ok (PageAt number)) = (old.place.least ≤ number) × (number < most_pages) × (new.place.least ≡ number + 1)
Rises old new (Ok (End count)) = Unit {0}
Rises old new (Err fault) = Unit {0}

-- what the file holds is the head and what is still to come; or its first broken place; or there is no such file
abbrev pub StartSays : (tells : Bool) (file : File) (name : List ℕ) → Result Reading Fault → Type 0
StartSays tells file name (Ok reader) = (reader.name ≡ name) × (IsTrue tells → (bytes : List ℕ) × (file ≡ Some bytes) × (read_level bytes ≡ with_head reader.version (head_of reader.head) (still_to_come bytes reader)))
StartSays tells file name (Err (Refused (BadLevel broken at))) = (broken ≡ name) × (IsTrue tells → (bytes : List ℕ) × (file ≡ Some bytes) × (read_level bytes ≡ Err at))
StartSays tells file name (Err (Refused (NoFile missing))) = (missing ≡ name) × (IsTrue tells → file ≡ None)
StartSays tells file name (Err (Refused refusal)) = ⊥
StartSays tells file name (Err Device) = Unit {0}
StartSays tells file name (Err Memory) = Unit {0}

-- the same of a file that is there
abbrev pub OpenSays : (tells : Bool) (file : File) (name : List ℕ) → Result Reading Fault → Type 0
OpenSays tells file name (Ok reader) = (reader.name ≡ name) × (IsTrue tells → read_level (bytes_of file) ≡ with_head reader.version (head_of reader.head) (still_to_come (bytes_of file) reader))
OpenSays tells file name (Err (Refused (BadLevel broken at))) = (broken ≡ name) × (IsTrue tells → read_level (bytes_of file) ≡ Err at)
OpenSays tells file name (Err (Refused refusal)) = ⊥
OpenSays tells file name (Err Device) = Unit {0}
OpenSays tells file name (Err Memory) = Unit {0}

-- at most one read, and nothing said or given
pub record ReadsOnce (tells : Bool) (old new : World) : Type 0 where
  pub said : new.said ≡ old.said
  pub guids : new.guids ≡ old.guids
  pub times : new.times ≡ old.times
  pub reads : IsTrue tells → new.reads ≤ old.reads + 1
