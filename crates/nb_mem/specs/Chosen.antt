-- What a crash leaves, by choices: each is yes or no, by a number.
use Rattle.std.specs.Prelude.{ℕ, ◌+◌, ◌-◌, ◌*◌, ◌/◌, ◌%◌, Bool, true, false, ◌||◌, ◌==◌, nat_le, List, [], ◌∷◌, ◌++◌, length, take, replicate, None, Some}
use Rattle.std.specs.List.{position}
use Rattle.nb_host.specs.Names.{same_name}
use Rattle.nb_host.specs.Files.{File, bytes_of, with_page, with_bytes}
use Rattle.nb_mem.specs.declared.choices.Choices.{Choices}
use Rattle.nb_mem.specs.declared.entry.Change.{Change}
use Rattle.nb_mem.specs.declared.entry.Change.TheVariants.{Placed, Made, Removed, Paged, Appended, Synced}
use Rattle.nb_mem.specs.declared.entry.Entry.{Entry}
use Rattle.nb_mem.specs.declared.entry.Entry.TheVariants.{Changed, Said, Asked}
use Rattle.nb_mem.specs.declared.outcome.Outcome.{Outcome}
use Rattle.nb_mem.specs.Changes.{file_after}
use Rattle.nb_mem.specs.Histories.{files_of}
use Rattle.nb_mem.specs.Outcomes.{placed}

-- Before the first choice. Pick 1 says yes each time; any other says its bits, the lowest first, then no, and begins again.
abbrev pub begun : ℕ → Choices
begun pick = record { pick = pick; rest = pick }

-- the next choice
abbrev pub is_yes : Choices → Bool
is_yes c = c.pick == 1 || c.rest % 2 == 1

-- and the choices after it
unfoldable pub behind : Choices → Choices
behind c = elim (c.pick == 1) [
  | true ↦ c
  | false ↦ elim (c.rest == 0) [ true ↦ record { pick = c.pick; rest = c.pick } | false ↦ record { pick = c.pick; rest = c.rest / 2 } ]
]

-- the file grown by whole pages of zeros, up to the end of the page at that place
abbrev pub grown : (at : ℕ) (page : List ℕ) → File → File
grown at page before = Some (bytes_of before ++ replicate ((at + length page - length (bytes_of before)) / length page * length page) 0)

-- A page was written: yes keeps it. No loses it, and past the end the file then grows or not.
unfoldable pub page_by : Choices → (at : ℕ) (page : List ℕ) → File → File × Choices
page_by c at page before = elim (is_yes c) [
  | true ↦ (with_page before at page, behind c)
  | false ↦ elim (nat_le (length (bytes_of before)) at) [
    | false ↦ (before, behind c)
    | true ↦ elim (is_yes (behind c)) [ true ↦ (grown at page before, behind (behind c)) | false ↦ (before, behind (behind c)) ]
  ]
]

-- the first half of the bytes, and zeros in the place of the second or nothing
unfoldable pub torn_by : Bool → List ℕ → List ℕ
torn_by zeros bytes = elim zeros [
  | true ↦ take (length bytes / 2) bytes ++ replicate (length bytes - length bytes / 2) 0
  | false ↦ take (length bytes / 2) bytes
]

-- Bytes were appended at that length: no loses them. Yes keeps them, and then whole or torn.
unfoldable pub bytes_by : Choices → (len : ℕ) (bytes : List ℕ) → File → File × Choices
bytes_by c len bytes before = elim (length (bytes_of before) == len) [
  | false ↦ (before, c)
  | true ↦ elim (is_yes c) [
    | false ↦ (before, behind c)
    | true ↦ elim (is_yes (behind c)) [
      | true ↦ (with_bytes before bytes, behind (behind c))
      | false ↦ (with_bytes before (torn_by (is_yes (behind (behind c))) bytes), behind (behind (behind c)))
    ]
  ]
]

-- the file and nothing else
abbrev pub settled : File → Outcome
settled file = record { left = file; is_back = false }

-- The file was made or removed: yes leaves it so, and no as it was.
unfoldable pub anew_by : Choices → (file : File) → Outcome → Outcome
anew_by c file o = elim (is_yes c) [ true ↦ settled file | false ↦ record { left = o.left; is_back = true } ]

-- The outcome after a change of the file, which had the length `len` before and reads as `file` after. Where it is settled, the
-- choices begin again as they were at first.
unfoldable pub outcome_after : (first : Choices) → Change → (len : ℕ) (file : File) → Outcome → Choices → Outcome
outcome_after first (Placed bytes) len file o c = settled file
outcome_after first Made len file o c = anew_by c file o
outcome_after first Removed len file o c = anew_by c file o
outcome_after first (Paged at page) len file o c = elim o.is_back [ true ↦ o | false ↦ settled (page_by c at page o.left).0 ]
outcome_after first (Appended bytes) len file o c = elim o.is_back [ true ↦ o | false ↦ settled (bytes_by c len bytes o.left).0 ]
outcome_after first Synced len file o c = settled file

unfoldable pub choices_after : (first : Choices) → Change → (len : ℕ) → Outcome → Choices → Choices
choices_after first (Placed bytes) len o c = first
choices_after first Made len o c = behind c
choices_after first Removed len o c = behind c
choices_after first (Paged at page) len o c = elim o.is_back [ true ↦ c | false ↦ (page_by c at page o.left).1 ]
choices_after first (Appended bytes) len o c = elim o.is_back [ true ↦ c | false ↦ (bytes_by c len bytes o.left).1 ]
choices_after first Synced len o c = first

-- what a crash after these calls leaves of a file, by choices, and the choices that are then left
unfoldable pub outcome_by : Choices → List Entry → List ℕ → Outcome × Choices
outcome_by first [] n = (settled None, first)
outcome_by first (Changed m change ∷ es) n =
    let before : Outcome × Choices = outcome_by first es n in
    elim (same_name n m) [
      | false ↦ before
      | true ↦ (
        outcome_after first change (length (bytes_of (files_of es n))) (file_after change (files_of es n)) before.0 before.1,
        choices_after first change (length (bytes_of (files_of es n))) before.0 before.1,
      )
    ]
outcome_by first (Said bytes ∷ es) n = outcome_by first es n
outcome_by first (Asked question ∷ es) n = outcome_by first es n

abbrev pub left_by : Choices → List Entry → List ℕ → File
left_by first es n = (outcome_by first es n).0.left

-- the names, and this one after them where it is new
unfoldable pub with_name : List ℕ → List (List ℕ) → List (List ℕ)
with_name n ns = elim (position (λ m. same_name n m) ns) [ None ↦ ns ++ n ∷ [] | Some at ↦ ns ]

-- the names of the files that these calls changed, in the order of their first changes
abbrev pub names_of : List Entry → List (List ℕ)
names_of [] = []
names_of (Changed n change ∷ es) = with_name n (names_of es)
names_of (Said bytes ∷ es) = names_of es
names_of (Asked question ∷ es) = names_of es

-- what a crash leaves of these names is placed, one after another, by choices, after what was placed before
abbrev pub placed_all : (es : List Entry) → List (List ℕ) → (left : List Entry) → Choices → List Entry × Choices
placed_all es [] left c = (left, c)
placed_all es (n ∷ ns) left c = placed_all es ns (placed n (left_by c es n) left) (outcome_by c es n).1

-- what a pick leaves after these calls, as a history of its own
abbrev pub picked : (pick : ℕ) → List Entry → List Entry
picked pick es = (placed_all es (names_of es) [] (begun pick)).0
