-- How a difference file is attached, and why it isn't.
use Rattle.std.specs.Prelude.{◌≡◌, ℕ, List, None, Some, Result, Ok, Err}
use Rattle.nb_host.specs.Files.{File}
use Rattle.nb_host.specs.declared.faults.Fault.{Fault}
use Rattle.nb_host.specs.declared.faults.Fault.TheVariants.{Refused, Device, Memory}
use Rattle.nb_host.specs.declared.refusals.Refusal.TheVariants.{NoFile}
use Rattle.nb_fields.specs.Table.{table_of}
use Rattle.nb_delta.specs.Known.{Known}
use Rattle.nb_delta.specs.Reading.{NamesBroken}
use Rattle.nb_delta.specs.Slots.{HasTable}

-- the object is that of the file with this name, and no entry waits
pub record IsFor (known : Known) (file : List ℕ) (size : ℕ) : Type 0 where
  pub name : known.name ≡ file
  pub page_size : known.page_size ≡ size
  pub none_waits : known.drafted ≡ 0

-- The entries are those of the file's table. It is refused where there is no file, and where its form is broken at a page.
abbrev pub Attaches : (size : ℕ) → (name : List ℕ) → File → Result Known Fault → Type 0
Attaches size name file (Ok known) = HasTable size file known.entries
Attaches size name None (Err (Refused refusal)) = refusal ≡ NoFile name
Attaches size name (Some bytes) (Err (Refused refusal)) = NamesBroken (table_of size bytes) refusal
Attaches size name file (Err Device) = Unit {0}
Attaches size name file (Err Memory) = Unit {0}
