-- Statements that check the database, and that give leaked pages back.
use Rattle.std.specs.Prelude.{ℕ, List, [], ◌∷◌, length, map, Option, Some, None}
use Rattle.nb_host.specs.declared.refusals.Refusal.TheVariants.{Unsound}
use Rattle.nb_model.specs.declared.reply.Reply.TheVariants.{Leaked, Freed}
use Rattle.nb_model.specs.Image.{Image}
use Rattle.nb_model.specs.Causes.{Cause, first_cause, read_only, broken_at}
use Rattle.nb_model.specs.Chains.{Chain, pages_of}
use Rattle.nb_model.specs.Forms.{Draft, drafted}
use Rattle.nb_model.specs.Rows.{chains}
use Rattle.nb_model.specs.Tables.{all_given}
use Rattle.nb_model.specs.Outcomes.{Seen, Outcome, says, unless}
use Rattle.nb_model.specs.Facts.{unsound}
use Rattle.nb_model.specs.Leaks.{leaked}

-- a fact is broken at a page
abbrev pub unsound_by : Option (ℕ × ℕ) → Cause
unsound_by None = None
unsound_by (Some broken) = Some (Unsound broken.0 broken.1)

-- one of these chains isn't of the form
abbrev pub chains_cause : Image → List Chain → Cause
chains_cause image cs = first_cause (map (λ c. broken_at (pages_of c image)) cs)

-- the inventories aren't sound; or a chain isn't of the form: the catalogue, the history, then the tables in the catalogue's order
abbrev pub check_cause : Image → Cause
check_cause image = first_cause (unsound_by (unsound image) ∷ chains_cause image (chains image) ∷ [])

abbrev pub reclaim_cause : Image → Cause
reclaim_cause image = first_cause (read_only image ∷ check_cause image ∷ [])

-- each leaked page is given back, one after the other
abbrev pub reclaimed : Image → Draft
reclaimed image = all_given (leaked image) (drafted image)

-- `check`: the leaked pages
unfoldable pub check_turn : Seen → Outcome
check_turn s = unless s (check_cause s.base.image) (says s (Leaked (leaked s.base.image)) [])

-- `reclaim`: how many there were
unfoldable pub reclaim_turn : Seen → Outcome
reclaim_turn s = unless s (reclaim_cause s.base.image) (says s (Freed (length (leaked s.base.image))) (reclaimed s.base.image).strokes)
