-- The places of the system pages, for a page size.
use Rattle.std.specs.Prelude.{ℕ, zero, suc, ◌+◌, ◌-◌, ◌*◌, ◌/◌, ◌%◌, Bool, ◌&&◌, ◌||◌, ◌==◌, nat_lt, if◌then◌else◌}

-- how many pages a database has at most
abbrev pub most_pages : ℕ
most_pages = 1048576

-- one of the six page sizes
abbrev pub is_page_size : ℕ → Bool
is_page_size n = n == 1024 || n == 2048 || n == 4096 || n == 8192 || n == 16384 || n == 32768

-- where the bits of a page inventory page begin, and the entries of an SCN inventory page
abbrev pub bits_at : ℕ
bits_at = 32

abbrev pub entries_at : ℕ
entries_at = 32

-- how many entries an SCN inventory page has
abbrev pub entries_in : ℕ → ℕ
entries_in size = (size - entries_at) / 4

-- how many bits a page inventory page has
abbrev pub bits_in : ℕ → ℕ
bits_in size = 32 * entries_in size

-- how many entries an allocation page of a difference file has room for
abbrev pub slots_in : ℕ → ℕ
slots_in size = size / 4 - 1

-- where page inventory page k stands
abbrev pub inventory_place : ℕ → ℕ → ℕ
inventory_place size zero = 1
inventory_place size (suc k) = suc k * bits_in size - 1

-- where SCN inventory page k stands
abbrev pub scn_place : ℕ → ℕ → ℕ
scn_place size zero = 2
scn_place size (suc k) = suc k * entries_in size

-- a page inventory page stands there
unfoldable pub is_inventory_place : ℕ → ℕ → Bool
is_inventory_place size page = page == 1 || (page + 1) % bits_in size == 0

-- an SCN inventory page stands there
unfoldable pub is_scn_place : ℕ → ℕ → Bool
is_scn_place size page = page == 2 || (nat_lt 0 page && page % entries_in size == 0)

-- a page inventory page or an SCN inventory page stands there
unfoldable pub is_system_place : ℕ → ℕ → Bool
is_system_place size page = is_inventory_place size page || is_scn_place size page

-- how many of so many places from this one on are no system places
unfoldable pub plain_places : (size from n : ℕ) → ℕ
plain_places size from zero = 0
plain_places size from (suc n) = (if is_system_place size from then 0 else 1) + plain_places size (from + 1) n
