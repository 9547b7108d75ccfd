-- What is seen while pages wait in the cache, and in which order they go out.
use Rattle.std.specs.Prelude.{ℕ, List, ◌++◌, true, false, ◌==◌}
use Rattle.nb_fields.specs.Places.{is_scn_place}
use Rattle.nb_fields.specs.States.{stalled_state}
use Rattle.nb_model.specs.Image.{Image, Numbered, image_size, image_state, overwritten}
use Rattle.nb_model.specs.Account.{Base}

-- The database of two files with each page that waits written over, and with the entries that the files' table still lacks. A
-- page waits below the length alone, and each number at most once.
unfoldable pub seen : Base → (waiting : List Numbered) → (drafted : List ℕ) → Base
seen b waiting drafted = record b { image = overwritten (image_size b.image) waiting b.image; diverted = b.diverted ++ drafted }

-- Waiting pages go out by rank, with a sync between two ranks: 0 for a page into its slot, 1 for an allocation page, 2 for an SCN
-- page of the main file, 3 for another page of it.
unfoldable pub rank_of : Image → (p : ℕ) → ℕ
rank_of image p = elim (image_state image == stalled_state) [ true ↦ 0 | false ↦ elim (is_scn_place (image_size image) p) [ true ↦ 2 | false ↦ 3 ] ]
