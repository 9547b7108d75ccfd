-- How much a merge in place reads, whatever comes of it.
use Rattle.std.specs.Prelude.{ℕ, ◌+◌, ◌-◌, List, length, ◌==◌, Bool, true, false, Result, Ok, Err}
use Rattle.nb_fields.specs.Header.{size_of, state_of}
use Rattle.nb_fields.specs.States.{applying_state}
use Rattle.nb_host.specs.Files.{Files, bytes_of}
use Rattle.nb_host.specs.declared.refusals.Refusal.{Refusal}
use Rattle.nb_chain.specs.Most.{level_most}
use Rattle.nb_model.specs.Image.{Page, Image, Numbered, trimmed, overwritten}
use Rattle.nb_model.specs.InPlace.{in_place}
use Rattle.nb_model.specs.Levels.{Contents}
use Rattle.nb_restore.specs.Most.{pieces_in}
use Rattle.nb_inplace.specs.Apply.{pages_of}

-- those that test the stamps of a standby of so many bytes: all of it by pieces, and none where a merge was begun
abbrev pub stamps_most : (is_begun : Bool) → (len : ℕ) → ℕ
stamps_most is_begun len = elim is_begun [ true ↦ 0 | false ↦ pieces_in len ]

-- the same of a standby of these bytes
abbrev pub standby_most : List ℕ → ℕ
standby_most bytes = stamps_most (state_of bytes == applying_state) (length bytes)

-- How many reads a merge that is refused makes at most: two of the standby's page 0, one for the head of the level file, those of the level file
-- up to its end or its first broken place, and the standby by pieces, once.
abbrev pub refused_most : Files → (standby name : List ℕ) → ℕ
refused_most files standby name = 3 + level_most (files name) + standby_most (bytes_of (files standby))

-- those that count the pages of an image from the end on: the pages of zeros that it drops, and the one before them
abbrev pub count_most : Image → ℕ
count_most image = length image - length (trimmed image) + 1

-- those that write these pages over a standby's: one for each, one where no further page follows, and those of the count
abbrev pub merge_most : (size : ℕ) → List Numbered → List Page → ℕ
merge_most size records pages = length records + 1 + count_most (overwritten size records pages)

-- the same of a standby of these bytes, where the merge is accepted
abbrev pub accepted_most : (bytes : List ℕ) → Result Contents Refusal → ℕ
accepted_most bytes (Ok c) = merge_most (size_of bytes) c.pages (pages_of bytes)
accepted_most bytes (Err refusal) = 0

-- How many reads a merge makes at most: those before it writes, and those while it writes. So the standby is read once, but for its page 0 and
-- for the pages of zeros at its end, and the level file twice.
abbrev pub apply_most : Files → (standby name : List ℕ) → ℕ
apply_most files standby name = refused_most files standby name + accepted_most (bytes_of (files standby)) (in_place files standby name)
