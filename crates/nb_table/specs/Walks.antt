-- What a walk over a chain comes by.
use Rattle.std.specs.Prelude.{ℕ, ◌+◌, ◌*◌, ◌<◌, ◌≤◌, List, length, min, Option, Some, None, Bool, ◌&&◌, ◌==◌}
use Rattle.nb_fields.specs.Places.{most_pages}
use Rattle.nb_host.specs.Names.{same_name}
use Rattle.nb_model.specs.Chains.{Chain, Catalogue, RowsFrom, Slot, Spot, is_used, key_of, table_of, first_such, free_spot}
use Rattle.nb_model.specs.Rows.{used}
use Rattle.nb_table.specs.declared.look.Sought.{Sought}
use Rattle.nb_table.specs.declared.look.Sought.TheVariants.{Table, Row}
use Rattle.nb_table.specs.declared.look.Place.{Place}
use Rattle.nb_table.specs.declared.look.Found.{Found}
use Rattle.nb_table.specs.declared.look.Walked.{Walked}

-- the chain that it goes along
abbrev pub chain_of : Sought → Chain
chain_of (Table name) = Catalogue
chain_of (Row first key) = RowsFrom first

-- a used slot holds what is looked for
abbrev pub has : Sought → Slot → Bool
has (Table name) slot = same_name (table_of slot) name
has (Row first key) slot = key_of slot == key

-- the slot holds what is looked for
abbrev pub is_sought : Sought → Slot → Bool
is_sought (Table name) slot = is_used slot && same_name (table_of slot) name
is_sought (Row first key) slot = is_used slot && key_of slot == key

-- a slot and its place, as the program and as the definitions have it
abbrev pub place_of : Spot → Place
place_of s = record { page = s.page; slot = s.slot }

abbrev pub found_of : Spot → Found
found_of s = record { place = place_of s; bytes = s.bytes }

abbrev pub spot_of : Found → Spot
spot_of f = record { page = f.place.page; slot = f.place.slot; bytes = f.bytes }

abbrev pub place_at : Option Spot → Option Place
place_at None = None
place_at (Some s) = Some (place_of s)

abbrev pub found_at : Option Spot → Option Found
found_at None = None
found_at (Some s) = Some (found_of s)

-- what a walk over these slots comes by
abbrev pub gathered : Sought → List Spot → Walked
gathered sought ss = record {
  found = found_at (first_such (λ s. is_sought sought s.bytes) ss);
  room = place_at (free_spot ss);
  used = min 12 (length (used ss));
}

-- The slot is in a page of that size, which isn't page 0.
pub record IsPlaced (page_size : ℕ) (place : Place) : Type 0 where
  pub low : 0 < place.page
  pub high : place.page < most_pages
  pub inside : 288 + 256 * place.slot ≤ page_size
