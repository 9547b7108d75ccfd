-- What a standby and its ship file are, or why nothing can be shipped.
use Rattle.std.specs.Prelude.{ℕ, List, Some, None, Result, Ok, Err, Bool, true, false, ◌||◌, ◌==◌}
use Rattle.nb_fields.specs.Header.{is_header, state_of, guid_of}
use Rattle.nb_fields.specs.States.{applying_state}
use Rattle.nb_host.specs.Files.{Files, bytes_of}
use Rattle.nb_host.specs.Names.{same_name}
use Rattle.nb_host.specs.declared.refusals.Refusal.{Refusal}
use Rattle.nb_host.specs.declared.refusals.Refusal.TheVariants.{FileExists, Unfinished, ChainGuid, Access}
use Rattle.nb_model.specs.Image.{image_in, is_read_only}
use Rattle.nb_model.specs.InPlace.{is_another, not_standby}
use Rattle.nb_model.specs.Levels.{Contents, Head, read_level}
use Rattle.nb_page.specs.Free.{is_free_name, has_delta}
use Rattle.nb_ship.specs.Names.{ship_of}
use Rattle.nb_ship.specs.declared.found.Found.{Found}
use Rattle.nb_ship.specs.declared.found.Found.TheVariants.{Nothing, Broken, Applied, Next, Pending}
use Rattle.nb_ship.specs.declared.found.Look.{Look}

-- A level file in the normal state: that of the backup that the standby has already, or one that goes on from it.
abbrev pub by_head : (guid name : List ℕ) → Head → Result Found Refusal
by_head guid name h = elim (same_name h.guid guid) [
  | true ↦ Ok Applied
  | false ↦ elim (same_name h.previous guid) [ true ↦ Ok (Next h.guid) | false ↦ Err (ChainGuid name h.previous guid) ]
]

-- What stands in the ship file of a standby with this GUID that is in the normal state: whether its name is free, whether it is foreign, and
-- what it reads as.
abbrev pub by_ship : (guid name : List ℕ) (free foreign : Bool) → Result Contents ℕ → Result Found Refusal
by_ship guid name true foreign read = Ok Nothing
by_ship guid name false true read = Err (FileExists name)
by_ship guid name false false (Err at) = Ok Broken
by_ship guid name false false (Ok c) = by_head guid name c.head

-- A merge was stopped: it is finished by the file that it was begun with alone.
abbrev pub by_pending : (standby : List ℕ) → Result Contents ℕ → Result Found Refusal
by_pending standby (Err at) = Err Unfinished
by_pending standby (Ok c) = elim (is_another standby c) [ true ↦ Err Unfinished | false ↦ Ok (Pending c.head.guid) ]

-- the file is a database, or a difference file stands beside it
unfoldable pub is_foreign : Files → (name : List ℕ) → Bool
is_foreign files name = is_header (bytes_of (files name)) || has_delta files name

-- what the file of that name reads as
abbrev pub read_in : Files → (name : List ℕ) → Result Contents ℕ
read_in files name = read_level (bytes_of (files name))

-- by the state and the access of the standby
abbrev pub by_standby : (begun read_only : Bool) (pending ship : Result Found Refusal) → Result Found Refusal
by_standby true read_only pending ship = pending
by_standby false false pending ship = Err (Access 0)
by_standby false true pending ship = ship

-- the ship file of a standby of these bytes
unfoldable pub found_in : Files → (standby bytes : List ℕ) → Result Found Refusal
found_in files standby bytes =
    let ship : List ℕ = ship_of standby in
    by_standby (state_of bytes == applying_state) (is_read_only (image_in bytes))
    (by_pending bytes (read_in files ship))
    (by_ship (guid_of bytes) ship (is_free_name files ship) (is_foreign files ship) (read_in files ship))

abbrev pub with_guid : (guid : List ℕ) → Result Found Refusal → Result Look Refusal
with_guid guid (Ok found) = Ok (record { guid = guid; found = found })
with_guid guid (Err refusal) = Err refusal

-- what a look finds, or the first refusal
unfoldable pub look_at : Files → (standby : List ℕ) → Result Look Refusal
look_at files standby = elim (not_standby standby (files standby)) [
  | Some refusal ↦ Err refusal
  | None ↦ let bytes : List ℕ = bytes_of (files standby) in with_guid (guid_of bytes) (found_in files standby bytes)
]
