-- Opening a database: what its main file says first, and what is read of both files.
use Rattle.std.specs.Prelude.{◌≡◌, ℕ, ◌*◌, ◌/◌, ◌%◌, ◌<◌, ◌≤◌, List, [], ◌∷◌, length, Some, None, Result, Ok, Err, not, ◌||◌, ◌==◌, nat_lt, min}
use Rattle.nb_fields.specs.Header.{state_of, size_of}
use Rattle.nb_fields.specs.Places.{most_pages}
use Rattle.nb_fields.specs.States.{normal_state, applying_state}
use Rattle.nb_host.specs.Files.{File}
use Rattle.nb_host.specs.declared.faults.Fault.{Fault}
use Rattle.nb_host.specs.declared.faults.Fault.TheVariants.{Refused, Device, Memory}
use Rattle.nb_host.specs.declared.refusals.Refusal.TheVariants.{NoFile, NotDatabase, Unfinished}
use Rattle.nb_delta.specs.Known.{Known}
use Rattle.nb_delta.specs.Attaching.{Attaches as AttachesDelta}
use Rattle.nb_model.specs.Causes.{Cause, first_cause, when, not_database}
use Rattle.nb_base.specs.declared.attach.Start.{Start}

-- a file of so many bytes after a header isn't 5 to 1,048,576 whole pages
abbrev pub length_cause : (len size : ℕ) → Cause
length_cause len size = first_cause (
    when (not (len % size == 0) || nat_lt (len / size) 5) (NotDatabase (min (len / size) most_pages))
    ∷ when (nat_lt most_pages (len / size)) (NotDatabase most_pages)
    ∷ [])

-- a main file of these bytes isn't opened: it is no database, or a merge into it was not finished
abbrev pub start_cause : List ℕ → Cause
start_cause bytes = first_cause (not_database bytes ∷ when (state_of bytes == applying_state) Unfinished ∷ [])

-- why the main file of that name isn't opened
abbrev pub main_cause : (name : List ℕ) → File → Cause
main_cause name None = Some (NoFile name)
main_cause name (Some bytes) = start_cause bytes

-- what was read of the start of a main file agrees with its bytes
pub record IsStart (bytes : List ℕ) (start : Start) : Type 0 where
  pub formed : not_database bytes ≡ None
  pub state : start.state ≡ state_of bytes
  pub opened : start.state ≤ 2
  pub page_size : start.page_size ≡ size_of bytes
  pub pages : length bytes ≡ start.pages * start.page_size

-- no file was looked at, and there are no entries
abbrev pub IsBlank : Result Known Fault → Type 0
IsBlank (Ok known) = known.entries ≡ []
IsBlank (Err (Refused refusal)) = ⊥
IsBlank (Err Device) = ⊥
IsBlank (Err Memory) = Unit {0}

-- The difference file that goes with a state. In the normal state none is looked at.
pub record AttachesFor (state size : ℕ) (name : List ℕ) (file : File) (result : Result Known Fault) : Type 0 where
  pub normal : state ≡ normal_state → IsBlank result
  pub other : 0 < state → AttachesDelta size name file result
