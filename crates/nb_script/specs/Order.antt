-- The order of turns: a line `schedule ..` or `seed ..`.
use Rattle.std.specs.Prelude.{ℕ, zero, suc, ◌==◌, List, [], ◌∷◌, length, Option, Some, None, if◌then◌else◌, option_map, codes}
use Rattle.nb_model.specs.Seeds.{seeded}
use Rattle.nb_script.specs.Words.{Bytes, ◌>>=◌, after, number_at, session_at, alone}

-- a session with a space before it
unfoldable pub spaced_session : Bytes → Option (ℕ × Bytes)
spaced_session bytes = after (codes " ") bytes >>= session_at

-- sessions to the end of the line: at least one, and at most so many
unfoldable pub sessions_at : ℕ → Bytes → Option (List ℕ)
sessions_at zero bytes = None
sessions_at (suc most) bytes = do
  session ← spaced_session bytes
  if length session.1 == 0 then Some (session.0 ∷ []) else option_map (λ others. session.0 ∷ others) (sessions_at most session.1)

-- `U` at the end of the line
unfoldable pub seed_at : Bytes → Option ℕ
seed_at bytes = number_at bytes >>= alone

-- the order that a line gives
unfoldable pub order_at : Bytes → Option (List ℕ)
order_at line = elim (after (codes "schedule") line) [
  | Some rest ↦ sessions_at 4096 rest
  | None ↦ option_map (seeded 4096) (after (codes "seed ") line >>= seed_at)
]
