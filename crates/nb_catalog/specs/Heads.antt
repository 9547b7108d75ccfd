-- What a catalogue keeps of a backup file.
use Rattle.std.specs.Prelude.{ℕ, ◌-◌, List, [], ◌∷◌, Some, None, Result, Ok, Err, true, false}
use Rattle.nb_fields.specs.Header.{size_of, scn_of, guid_of}
use Rattle.nb_host.specs.Files.{File, Files}
use Rattle.nb_host.specs.declared.refusals.Refusal.{Refusal}
use Rattle.nb_host.specs.declared.refusals.Refusal.TheVariants.{NoFile, BadLevel}
use Rattle.nb_model.specs.Levels.{Head, begins_level, read_level}
use Rattle.nb_model.specs.Restoring.{not_whole}
use Rattle.nb_model.specs.Stands.{nil}
use Rattle.nb_level.specs.declared.head.LevelHead.{LevelHead}
use Rattle.nb_catalog.specs.Answers.{with_first}

-- the head of a level file
abbrev pub level_head : Head → LevelHead
level_head h = record { level = h.level; guid = h.guid; previous = h.previous; page_size = h.size; scn = h.scn; previous_scn = h.previous_scn }

-- whole pages are level 0, which goes on from nothing; its SCN is that of the backup, one below the header's
abbrev pub whole_head : List ℕ → LevelHead
whole_head bytes = record { level = 0; guid = guid_of bytes; previous = nil; page_size = size_of bytes; scn = scn_of bytes - 1; previous_scn = 0 }

-- what a file is read as, or why it is refused: a file that begins as a level file is one of level 1 to 9, and any other level 0
unfoldable pub read_file : (name : List ℕ) → File → Result LevelHead Refusal
read_file name None = Err (NoFile name)
read_file name (Some bytes) = elim (begins_level bytes) [
  | true ↦ elim (read_level bytes) [ Err at ↦ Err (BadLevel name at) | Ok c ↦ Ok (level_head c.head) ]
  | false ↦ elim (not_whole name bytes) [ Some refusal ↦ Err refusal | None ↦ Ok (whole_head bytes) ]
]

-- the heads of the files in order, or the first refusal
unfoldable pub read_files : Files → (names : List (List ℕ)) → Result (List LevelHead) Refusal
read_files files [] = Ok []
read_files files (name ∷ names) = elim (read_file name (files name)) [ Err refusal ↦ Err refusal | Ok head ↦ with_first head (read_files files names) ]
