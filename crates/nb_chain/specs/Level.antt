-- What is answered of a level file.
use Rattle.std.specs.Prelude.{◌≡◌, ℕ, ◌+◌, ◌≤◌, List, length, Some, None, Result, Ok, Err}
use Rattle.nb_host.specs.Files.{File, bytes_of}
use Rattle.nb_host.specs.declared.faults.Fault.{Fault}
use Rattle.nb_host.specs.declared.faults.Fault.TheVariants.{Refused, Device, Memory}
use Rattle.nb_host.specs.declared.refusals.Refusal.{Refusal}
use Rattle.nb_host.specs.declared.refusals.Refusal.TheVariants.{NoFile, BadLevel}
use Rattle.nb_model.specs.Image.{Numbered}
use Rattle.nb_model.specs.Levels.{Contents, read_level}
use Rattle.nb_level.specs.Heads.{head_of}
use Rattle.nb_level.specs.Reading.{Reading, still_to_come}
use Rattle.nb_level.specs.declared.head.LevelHead.{LevelHead}
use Rattle.nb_chain.specs.declared.overlay.Mark.{Mark}
use Rattle.nb_chain.specs.Overlay.{all_noted}

-- the pages that were still to come of a level file were noted, or the first broken place was met
abbrev pub PagesSay : File → Reading → (old new : List Mark) (before after : ℕ) → Result Unit Fault → Type 0
PagesSay file r old new before after (Ok done) =
    (pages : List Numbered) × (still_to_come (bytes_of file) r ≡ Ok pages) × (new ≡ all_noted pages old) × (after ≤ before + length pages + 1)
PagesSay file r old new before after (Err (Refused refusal)) = (at : ℕ) × (still_to_come (bytes_of file) r ≡ Err at) × (refusal ≡ BadLevel r.name at)
PagesSay file r old new before after (Err Device) = Unit {0}
PagesSay file r old new before after (Err Memory) = Unit {0}

-- the pages that were still to come of a level file were read to its end, or the first broken place was met
abbrev pub EndSays : File → Reading → (before after : ℕ) → Result Unit Fault → Type 0
EndSays file r before after (Ok done) = (pages : List Numbered) × (still_to_come (bytes_of file) r ≡ Ok pages) × (after ≤ before + length pages + 1)
EndSays file r before after (Err (Refused refusal)) = (at : ℕ) × (still_to_come (bytes_of file) r ≡ Err at) × (refusal ≡ BadLevel r.name at)
EndSays file r before after (Err Device) = Unit {0}
EndSays file r before after (Err Memory) = Unit {0}

-- the whole of a level file was read, and its pages were noted
pub record IsRead (file : File) (old new : List Mark) (before after : ℕ) (head : LevelHead) : Type 0 where
  pub bytes : List ℕ
  pub there : file ≡ Some bytes
  pub contents : Contents
  pub read : read_level bytes ≡ Ok contents
  pub named : head_of head ≡ contents.head
  pub marks : new ≡ all_noted contents.pages old
  pub reads : after ≤ before + length contents.pages + 2

-- why a file isn't a level file
abbrev pub LevelRefused : File → (name : List ℕ) → Refusal → Type 0
LevelRefused None name refusal = refusal ≡ NoFile name
LevelRefused (Some bytes) name refusal = (at : ℕ) × (read_level bytes ≡ Err at) × (refusal ≡ BadLevel name at)

abbrev pub LevelSays : File → (name : List ℕ) (old new : List Mark) (before after : ℕ) → Result LevelHead Fault → Type 0
LevelSays file name old new before after (Ok head) = IsRead file old new before after head
LevelSays file name old new before after (Err (Refused refusal)) = LevelRefused file name refusal
LevelSays file name old new before after (Err Device) = Unit {0}
LevelSays file name old new before after (Err Memory) = Unit {0}

-- the file is a level file, and this is its head
pub record IsWhole (file : File) (before after : ℕ) (head : LevelHead) : Type 0 where
  pub bytes : List ℕ
  pub there : file ≡ Some bytes
  pub contents : Contents
  pub read : read_level bytes ≡ Ok contents
  pub named : head_of head ≡ contents.head
  pub reads : after ≤ before + length contents.pages + 2

abbrev pub WholeSays : File → (name : List ℕ) (before after : ℕ) → Result LevelHead Fault → Type 0
WholeSays file name before after (Ok head) = IsWhole file before after head
WholeSays file name before after (Err (Refused refusal)) = LevelRefused file name refusal
WholeSays file name before after (Err Device) = Unit {0}
WholeSays file name before after (Err Memory) = Unit {0}
