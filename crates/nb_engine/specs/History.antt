-- What a walk over the backup history comes by.
use Rattle.std.specs.Prelude.{ℕ, ◌+◌, ◌*◌, ◌<◌, ◌≤◌, List, Option, Some, None, Bool, false, nat_eq, ◌&&◌}
use Rattle.nb_fields.specs.Bytes.{number_in}
use Rattle.nb_fields.specs.Places.{most_pages}
use Rattle.nb_host.specs.Names.{same_name}
use Rattle.nb_model.specs.Chains.{Slot, Spot, is_used, level_in, scn_in, guid_in, file_in, last_such, free_spot}
use Rattle.nb_engine.specs.declared.rows.HistoryRow.{HistoryRow}
use Rattle.nb_engine.specs.declared.rows.Wanted.{Wanted}
use Rattle.nb_engine.specs.declared.rows.Wanted.TheVariants.{Level, Guid, Nothing}
use Rattle.nb_engine.specs.declared.walk.Room.{Room}
use Rattle.nb_engine.specs.declared.walk.Walked.{Walked}

-- what a used slot says
abbrev pub row_in : Slot → HistoryRow
row_in slot = record { time = number_in 8 8 slot; level = level_in slot; guid = guid_in slot; scn = scn_in slot; name = file_in slot }

-- the row of a slot, if there is one
abbrev pub row_at : Option Spot → Option HistoryRow
row_at None = None
row_at (Some s) = Some (row_in s.bytes)

-- the place of a slot, if there is one
abbrev pub room_at : Option Spot → Option Room
room_at None = None
room_at (Some s) = Some (record { page = s.page; slot = s.slot })

-- the row is one of those that are looked for
abbrev pub meets : Wanted → HistoryRow → Bool
meets (Level level) row = nat_eq row.level level
meets (Guid guid) row = same_name row.guid guid
meets Nothing row = false

-- what a walk over these slots comes by: the last row that is looked for, and the first free slot
abbrev pub gathered : Wanted → List Spot → Walked
gathered wanted ss = record { row = row_at (last_such (λ s. is_used s.bytes && meets wanted (row_in s.bytes)) ss); room = room_at (free_spot ss) }

-- The slot is in a page of that size, which isn't page 0.
pub record IsPlaced (page_size : ℕ) (room : Room) : Type 0 where
  pub low : 0 < room.page
  pub high : room.page < most_pages
  pub inside : 288 + 256 * room.slot ≤ page_size
