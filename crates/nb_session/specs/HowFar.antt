-- How far events may have come, by how many of their steps were made, and by how much was said.
use Rattle.std.specs.Prelude.{ℕ, zero, suc, ◌-◌, List, [], ◌∷◌, length, take, Some, None, true, false, nat_le}
use Rattle.nb_model.specs.Lines.{line_text}
use Rattle.nb_model.specs.Run.{Event}
use Rattle.nb_model.specs.Steps.{steps_in, steps_of}

-- how many turns have begun once so many steps were made: those up to and with the one that makes the last of these
unfoldable pub begun_turns : List Event → (count : ℕ) → ℕ
begun_turns [] count = 0
begun_turns (e ∷ es) zero = 0
begun_turns (e ∷ es) (suc n) = suc (begun_turns es (suc n - length (steps_in e)))

-- how many turns may have begun once so many bytes of the output were said: those up to and with the first one that has a line of which a
-- byte wasn't said. After a turn that has no line the next one may begin.
unfoldable pub open_turns : List Event → (said : ℕ) → ℕ
open_turns [] said = 0
open_turns (e ∷ es) said = elim e.reply [
  | None ↦ suc (open_turns es said)
  | Some reply ↦ elim (nat_le (length (line_text e.session reply)) said) [
    | true ↦ suc (open_turns es (said - length (line_text e.session reply)))
    | false ↦ 1
  ]
]

-- how many steps may have been made then: a crash leaves no more of them
abbrev pub open_steps : List Event → (said : ℕ) → ℕ
open_steps events said = length (steps_of (take (open_turns events said) events))
