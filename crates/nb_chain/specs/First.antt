-- What is answered of the first file of a chain.
use Rattle.std.specs.Prelude.{◌≡◌, ℕ, ◌*◌, ◌/◌, ◌%◌, List, length, take, Some, None, Result, Ok, Err, Bool, not, ◌||◌, ◌==◌, nat_lt}
use Rattle.nb_fields.specs.Places.{most_pages}
use Rattle.nb_host.specs.Files.{File}
use Rattle.nb_host.specs.declared.faults.Fault.{Fault}
use Rattle.nb_host.specs.declared.faults.Fault.TheVariants.{Refused, Device, Memory}
use Rattle.nb_host.specs.declared.refusals.Refusal.{Refusal}
use Rattle.nb_host.specs.declared.refusals.Refusal.TheVariants.{NoFile}
use Rattle.nb_page.specs.Header.{header_in}
use Rattle.nb_model.specs.Restoring.{whole_link, first_link}
use Rattle.nb_chain.specs.declared.first_file.First.{First}
use Rattle.nb_chain.specs.declared.start.Start.{Start}

-- what a file begins with
abbrev pub StartSays : File → (name first : List ℕ) → Result Start Fault → Type 0
StartSays file name first (Ok start) = (bytes : List ℕ) × (file ≡ Some bytes) × (start.length ≡ length bytes) × (take start.got first ≡ take 64 bytes)
StartSays file name first (Err (Refused refusal)) = (file ≡ None) × (refusal ≡ NoFile name)
StartSays file name first (Err Device) = Unit {0}
StartSays file name first (Err Memory) = ⊥

-- so many bytes are no number of whole pages that a database may have
abbrev pub is_bad_count : (len size : ℕ) → Bool
is_bad_count len size = not (len % size == 0) || (nat_lt (len / size) 5 || nat_lt most_pages (len / size))

-- whole pages are the first file of a chain: this is their header, and so many they are
pub record IsFirst (name bytes : List ℕ) (first : First) : Type 0 where
  pub accepted : first_link name bytes ≡ Ok (whole_link bytes)
  pub header : first.header ≡ header_in bytes
  pub pages : length bytes ≡ first.pages * first.header.page_size

-- why a file isn't the first of a chain
abbrev pub FirstRefused : File → (name : List ℕ) → Refusal → Type 0
FirstRefused None name refusal = refusal ≡ NoFile name
FirstRefused (Some bytes) name refusal = first_link name bytes ≡ Err refusal

-- it isn't, whatever is answered
abbrev pub IsRefused : (name bytes : List ℕ) → Result First Fault → Type 0
IsRefused name bytes (Ok first) = ⊥
IsRefused name bytes (Err (Refused refusal)) = first_link name bytes ≡ Err refusal
IsRefused name bytes (Err Device) = Unit {0}
IsRefused name bytes (Err Memory) = Unit {0}

abbrev pub FirstSays : File → (name : List ℕ) → Result First Fault → Type 0
FirstSays file name (Ok first) = (bytes : List ℕ) × (file ≡ Some bytes) × IsFirst name bytes first
FirstSays file name (Err (Refused refusal)) = FirstRefused file name refusal
FirstSays file name (Err Device) = Unit {0}
FirstSays file name (Err Memory) = Unit {0}
