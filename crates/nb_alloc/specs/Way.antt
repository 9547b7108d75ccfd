-- Why a search for new pages doesn't come to a page.
use Rattle.std.specs.Prelude.{ℕ, [], ◌∷◌, ◌==◌}
use Rattle.nb_fields.specs.Places.{most_pages}
use Rattle.nb_host.specs.declared.refusals.Refusal.TheVariants.{Full}
use Rattle.nb_model.specs.Image.{Image}
use Rattle.nb_model.specs.Forms.{first_not}
use Rattle.nb_model.specs.Way.{next_place, needed_on}
use Rattle.nb_model.specs.Causes.{Cause, first_cause, when}
use Rattle.nb_alloc.specs.Find.{need_cause}

-- a page that it needs isn't of its kind, or no page is left
abbrev pub way_cause : (image : Image) (from made fresh : ℕ) → Cause
way_cause image from made fresh =
    first_cause (need_cause (first_not image (needed_on image from made fresh (next_place image from fresh))) ∷ when (next_place image from fresh == most_pages) (Full most_pages) ∷ [])
