-- The tests of a copy that is to be fixed.
use Rattle.std.specs.Prelude.{◌≡◌, ℕ, List, [], ◌∷◌, take, Some, None, not, ◌==◌}
use Rattle.nb_fields.specs.Header.{size_of, state_of}
use Rattle.nb_fields.specs.States.{stalled_state}
use Rattle.nb_host.specs.Files.{File}
use Rattle.nb_host.specs.declared.refusals.Refusal.TheVariants.{NoFile, WrongState}
use Rattle.nb_model.specs.Causes.{Cause, first_cause, when, not_database}

-- why bytes can't be fixed, whatever stands beside them
abbrev pub copy_cause : List ℕ → Cause
copy_cause bytes = first_cause (not_database bytes ∷ when (not (state_of bytes == stalled_state)) (WrongState (state_of bytes)) ∷ [])

-- why a file can't be
abbrev pub file_cause : (name : List ℕ) → File → Cause
file_cause name None = Some (NoFile name)
file_cause name (Some bytes) = copy_cause bytes

-- the page size of these bytes, with their page 0 in front of what was read
abbrev pub IsPageOf : (bytes first : List ℕ) → (size : ℕ) → Type 0
IsPageOf bytes first size = (size ≡ size_of bytes) × (take size first ≡ take size bytes)
