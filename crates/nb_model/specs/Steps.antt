-- The steps of a run: its strokes, and the points at which all that was written is kept for good.
use Rattle.std.specs.Prelude.{◌≡◌, ℕ, zero, suc, ◌-◌, List, [], ◌∷◌, ◌++◌, length, take, Some, None, true, false, nat_le}
use Rattle.nb_model.specs.Lines.{line_text}
use Rattle.nb_model.specs.Account.{Base}
use Rattle.nb_model.specs.Image.{is_forced}
use Rattle.nb_model.specs.Strokes.{Stroke, page, on_base}
use Rattle.nb_model.specs.Run.{Event}
use Rattle.nb_model.specs.Trail.{Trail, settled, after_stroke}

pub data Step : Type 0 where
  makes : Stroke → Step
  settles : Step

-- one step later
unfoldable pub after_step : Step → Trail → Trail
after_step (makes s) t = after_stroke s t
after_step settles t = settled t.base

unfoldable pub after_steps : Trail → List Step → Trail
after_steps t [] = t
after_steps t (s ∷ ss) = after_steps (after_step s t) ss

-- the strokes among steps
unfoldable pub strokes_in : List Step → List Stroke
strokes_in [] = []
strokes_in (makes s ∷ ss) = s ∷ strokes_in ss
strokes_in (settles ∷ ss) = strokes_in ss

-- a page is written where forced writes are on
abbrev pub IsForcedAt : Base → Stroke → Type 0
IsForcedAt b (page p bytes) = is_forced b.image ≡ true
IsForcedAt b other = Unit {0}

-- so each of these strokes does that writes a page
abbrev pub AreForced : Base → List Stroke → Type 0
AreForced b [] = Unit {0}
AreForced b (s ∷ ss) = IsForcedAt b s × AreForced (on_base s b) ss

unfoldable pub made : List Stroke → List Step
made [] = []
made (s ∷ ss) = makes s ∷ made ss

-- the steps of a turn: its strokes, and then a settled point where it waits for all to be kept
abbrev pub steps_in : Event → List Step
steps_in e = made e.strokes ++ elim e.syncs [ true ↦ settles ∷ [] | false ↦ [] ]

unfoldable pub steps_of : List Event → List Step
steps_of [] = []
steps_of (e ∷ es) = steps_in e ++ steps_of es

-- how many turns are acknowledged once so many bytes of the output were said: those up to the last one whose whole line is among them
unfoldable pub acked_turns : List Event → (said : ℕ) → ℕ
acked_turns [] said = 0
acked_turns (e ∷ es) said = elim e.reply [
  | None ↦ elim (acked_turns es said) [ zero ↦ 0 | suc n ↦ suc (suc n) ]
  | Some reply ↦ elim (nat_le (length (line_text e.session reply)) said) [
    | true ↦ suc (acked_turns es (said - length (line_text e.session reply)))
    | false ↦ 0
  ]
]

-- how many steps are acknowledged then: after a crash these steps at least stand
abbrev pub acked_steps : List Event → (said : ℕ) → ℕ
acked_steps events said = length (steps_of (take (acked_turns events said) events))
