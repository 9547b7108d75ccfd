-- What a run says, the status that it ends with, and how much of it is acknowledged.
use Rattle.std.specs.Prelude.{ℕ, ◌+◌, ◌-◌, List, [], ◌∷◌, ◌++◌, length, Option, Some, None, option_map, true, false, max, nat_le}
use Rattle.nb_host.specs.declared.refusals.Refusal.TheVariants.{Usage}
use Rattle.nb_model.specs.declared.reply.Reply.{Reply}
use Rattle.nb_model.specs.declared.reply.Reply.TheVariants.{Refused}
use Rattle.nb_model.specs.Lines.{line_text}
use Rattle.nb_model.specs.Run.{Event, replies_of}

-- the lines of replies, in order
unfoldable pub text_of : List (ℕ × Reply) → List ℕ
text_of [] = []
text_of (r ∷ rs) = line_text r.0 r.1 ++ text_of rs

-- all that a run says
abbrev pub output : List Event → List ℕ
output events = text_of (replies_of events)

-- 0 where nothing was refused, 2 where the words named no job, and 1 for another refusal
abbrev pub status_after : Reply → ℕ
status_after (Refused Usage) = 2
status_after (Refused other) = 1
status_after other = 0

-- the exit status of a run that came to its end
unfoldable pub status_of : List (ℕ × Reply) → ℕ
status_of [] = 0
status_of (r ∷ rs) = max (status_after r.1) (status_of rs)

-- how many strokes stand up to the last turn whose whole line is among so many bytes of the output, if there is one
unfoldable pub acked_in : List Event → (said : ℕ) → Option ℕ
acked_in [] said = None
acked_in (e ∷ es) said = elim e.reply [
  | None ↦ option_map (λ n. length e.strokes + n) (acked_in es said)
  | Some reply ↦
      let line : ℕ = length (line_text e.session reply) in
      elim (nat_le line said) [
        | false ↦ None
        | true ↦ elim (acked_in es (said - line)) [ None ↦ Some (length e.strokes) | Some n ↦ Some (length e.strokes + n) ]
      ]
]

-- How many strokes are acknowledged once so many bytes of the output were said: after a crash these strokes at least stand.
unfoldable pub acked : List Event → (said : ℕ) → ℕ
acked events said = elim (acked_in events said) [ None ↦ 0 | Some n ↦ n ]
