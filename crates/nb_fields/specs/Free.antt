-- A file whose name may be taken for a new file.
use Rattle.std.specs.Prelude.{ℕ, List, take, Option, None, Some, Bool, true, ◌&&◌, ◌||◌, ◌==◌}
use Rattle.nb_fields.specs.Bytes.{is_zeros}
use Rattle.nb_fields.specs.Header.{header_length, is_header, state_of, pending_of}
use Rattle.nb_fields.specs.States.{applying_state}

-- a restore was stopped here: a header in state 3 with a nil pending GUID
abbrev pub is_unfinished : List ℕ → Bool
is_unfinished bytes = is_header bytes && state_of bytes == applying_state && is_zeros (pending_of bytes)

-- There is no such file, or its first 64 bytes, or all of a shorter one, are zeros, or a restore was stopped.
-- This is what a creation, a copy or a restore leaves that was stopped.
unfoldable pub is_free_file : Option (List ℕ) → Bool
is_free_file None = true
is_free_file (Some bytes) = is_zeros (take header_length bytes) || is_unfinished bytes
