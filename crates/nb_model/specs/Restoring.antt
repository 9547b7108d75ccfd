-- Chains of level files: which are accepted, and the image that one gives.
use Rattle.std.specs.Prelude.{ℕ, ◌+◌, ◌-◌, ◌/◌, ◌%◌, List, [], ◌∷◌, length, Some, None, Result, Ok, Err, Bool, true, false, ◌||◌, ◌==◌, not, nat_lt}
use Rattle.nb_fields.specs.Bytes.{number_in}
use Rattle.nb_fields.specs.Header.{is_header, signature, state_of, size_of, scn_of, guid_of}
use Rattle.nb_fields.specs.Places.{most_pages}
use Rattle.nb_fields.specs.States.{stalled_state}
use Rattle.nb_host.specs.Files.{Files}
use Rattle.nb_host.specs.Names.{same_name}
use Rattle.nb_host.specs.declared.refusals.Refusal.{Refusal}
use Rattle.nb_host.specs.declared.refusals.Refusal.TheVariants.{NoFile, BadLevel, ChainLevel, ChainGuid, ChainSize, ChainScn}
use Rattle.nb_model.specs.Image.{Image, Numbered, cut, trimmed, overwritten}
use Rattle.nb_model.specs.Causes.{Cause, first_cause, when}
use Rattle.nb_model.specs.Levels.{Contents, numbered_from, read_level, begins_level}

-- one file of a chain: its GUID and SCN, its page size, and its pages with their numbers
pub record Link : Type 0 where
  pub guid : List ℕ
  pub scn : ℕ
  pub size : ℕ
  pub pages : List Numbered

-- whole pages taken as level 0; its SCN is that of the backup, one below the header's
abbrev pub whole_link : List ℕ → Link
whole_link bytes = record {
  guid = guid_of bytes;
  scn = scn_of bytes - 1;
  size = size_of bytes;
  pages = numbered_from 0 (cut (size_of bytes) (length bytes / size_of bytes) bytes);
}

abbrev pub level_link : Contents → Link
level_link c = record { guid = c.head.guid; scn = c.head.scn; size = c.head.size; pages = c.pages }

-- no number of whole pages that a database may have
abbrev pub is_bad_length : List ℕ → Bool
is_bad_length bytes = not (length bytes % size_of bytes == 0) || (nat_lt (length bytes / size_of bytes) 5 || nat_lt most_pages (length bytes / size_of bytes))

-- whole pages are no level 0
unfoldable pub not_whole : (name bytes : List ℕ) → Cause
not_whole name bytes = elim (is_header bytes) [
  | false ↦ Some (BadLevel name 0)
  | true ↦ first_cause (
      when (not (state_of bytes == stalled_state)) (BadLevel name 22)
      ∷ when (is_bad_length bytes) (BadLevel name (length bytes))
      ∷ [])
]

-- the file in place 0
unfoldable pub first_link : (name bytes : List ℕ) → Result Link Refusal
first_link name bytes = elim (begins_level bytes) [
  | true ↦ elim (read_level bytes) [ Err at ↦ Err (BadLevel name at) | Ok c ↦ Err (ChainLevel name c.head.level 0) ]
  | false ↦ elim (not_whole name bytes) [ Some refusal ↦ Err refusal | None ↦ Ok (whole_link bytes) ]
]

-- a level file doesn't go on from the file before it, as the file in place k
unfoldable pub not_behind : (k : ℕ) → Link → (name : List ℕ) → Contents → Cause
not_behind k last name c = first_cause (
    when (not (c.head.level == k)) (ChainLevel name c.head.level k)
    ∷ when (not (same_name c.head.previous last.guid)) (ChainGuid name c.head.previous last.guid)
    ∷ when (not (c.head.size == last.size)) (ChainSize name c.head.size last.size)
    ∷ when (not (c.head.previous_scn == last.scn)) (ChainScn name c.head.previous_scn last.scn)
    ∷ [])

-- the file in place k after another; whole pages are known by their signature
unfoldable pub next_link : (k : ℕ) → Link → (name bytes : List ℕ) → Result Link Refusal
next_link k last name bytes = elim (begins_level bytes) [
  | false ↦ elim (number_in 16 4 bytes == signature) [ true ↦ Err (ChainLevel name 0 k) | false ↦ Err (BadLevel name 0) ]
  | true ↦ elim (read_level bytes) [
    | Err at ↦ Err (BadLevel name at)
    | Ok c ↦ elim (not_behind k last name c) [ Some refusal ↦ Err refusal | None ↦ Ok (level_link c) ]
  ]
]

-- with one more link before
abbrev pub linked : Link → Result (List Link) Refusal → Result (List Link) Refusal
linked l (Ok ls) = Ok (l ∷ ls)
linked l (Err refusal) = Err refusal

-- the files in places k and on, after this one
unfoldable pub next_links : Files → (k : ℕ) → Link → (names : List (List ℕ)) → Result (List Link) Refusal
next_links files k last [] = Ok []
next_links files k last (name ∷ names) = elim (files name) [
  | None ↦ Err (NoFile name)
  | Some bytes ↦ elim (next_link k last name bytes) [ Err refusal ↦ Err refusal | Ok l ↦ linked l (next_links files (k + 1) l names) ]
]

-- the verdict on a chain: what its files hold, or the first refusal
unfoldable pub verdict : Files → (names : List (List ℕ)) → Result (List Link) Refusal
verdict files [] = Ok []
verdict files (name ∷ names) = elim (files name) [
  | None ↦ Err (NoFile name)
  | Some bytes ↦ elim (first_link name bytes) [ Err refusal ↦ Err refusal | Ok l ↦ linked l (next_links files 1 l names) ]
]

-- the pages of each file written over those of the files before
unfoldable pub all_over : List Link → Image → Image
all_over [] image = image
all_over (l ∷ ls) image = all_over ls (overwritten l.size l.pages image)

-- the image that a chain gives
unfoldable pub applied : List Link → Image
applied links = trimmed (all_over links [])
