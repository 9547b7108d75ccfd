-- What is answered of a file after another, and of all files after the first.
use Rattle.std.specs.Prelude.{◌≡◌, ℕ, ◌+◌, ◌-◌, ◌≤◌, List, [], ◌∷◌, length, Some, None, Result, Ok, Err}
use Rattle.nb_host.specs.Files.{File, Files}
use Rattle.nb_host.specs.declared.faults.Fault.{Fault}
use Rattle.nb_host.specs.declared.faults.Fault.TheVariants.{Refused, Device, Memory}
use Rattle.nb_host.specs.declared.refusals.Refusal.{Refusal}
use Rattle.nb_host.specs.declared.refusals.Refusal.TheVariants.{NoFile}
use Rattle.nb_page.specs.declared.header.Header.{Header}
use Rattle.nb_model.specs.Restoring.{Link, next_link, next_links}
use Rattle.nb_chain.specs.declared.tip.Tip.{Tip}
use Rattle.nb_chain.specs.declared.overlay.Mark.{Mark}
use Rattle.nb_chain.specs.Overlay.{all_noted, links_noted}
use Rattle.nb_chain.specs.Chain.{level_reads}

-- what the next file goes on from
abbrev pub tip_link : Tip → Link
tip_link tip = record { guid = tip.guid; scn = tip.scn; size = tip.page_size; pages = [] }

-- the fields of a header, as what the next file goes on from
abbrev pub header_link : Header → Link
header_link header = record { guid = header.guid; scn = header.scn - 1; size = header.page_size; pages = [] }

-- a file goes on from the one before it
pub record IsNext (file : File) (k : ℕ) (last : Tip) (name : List ℕ) (old new : List Mark) (before after : ℕ) (tip : Tip) : Type 0 where
  pub bytes : List ℕ
  pub there : file ≡ Some bytes
  pub link : Link
  pub accepted : next_link k (tip_link last) name bytes ≡ Ok link
  pub next : tip_link tip ≡ record link { pages = [] }
  pub marks : new ≡ all_noted link.pages old
  pub reads : after ≤ before + length link.pages + 3

abbrev pub NextRefused : File → (k : ℕ) → Tip → (name : List ℕ) → Refusal → Type 0
NextRefused None k last name refusal = refusal ≡ NoFile name
NextRefused (Some bytes) k last name refusal = next_link k (tip_link last) name bytes ≡ Err refusal

abbrev pub NextSays : File → (k : ℕ) → Tip → (name : List ℕ) (old new : List Mark) (before after : ℕ) → Result Tip Fault → Type 0
NextSays file k last name old new before after (Ok tip) = IsNext file k last name old new before after tip
NextSays file k last name old new before after (Err (Refused refusal)) = NextRefused file k last name refusal
NextSays file k last name old new before after (Err Device) = Unit {0}
NextSays file k last name old new before after (Err Memory) = Unit {0}

-- the last of these links, after one
abbrev pub last_of : Link → List Link → Link
last_of l [] = l
last_of l (m ∷ ls) = last_of m ls

-- the files after the first go on from one another
pub record AreNext (files : Files) (first : Tip) (names : List (List ℕ)) (old new : List Mark) (before after : ℕ) (tip : Tip) : Type 0 where
  pub links : List Link
  pub accepted : next_links files 1 (tip_link first) names ≡ Ok links
  pub next : tip_link tip ≡ record (last_of (tip_link first) links) { pages = [] }
  pub marks : new ≡ links_noted links old
  pub reads : after ≤ before + level_reads links

abbrev pub LevelsSay : Files → Tip → (names : List (List ℕ)) (old new : List Mark) (before after : ℕ) → Result Tip Fault → Type 0
LevelsSay files first names old new before after (Ok tip) = AreNext files first names old new before after tip
LevelsSay files first names old new before after (Err (Refused refusal)) = next_links files 1 (tip_link first) names ≡ Err refusal
LevelsSay files first names old new before after (Err Device) = Unit {0}
LevelsSay files first names old new before after (Err Memory) = Unit {0}
