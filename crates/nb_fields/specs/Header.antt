-- The header: the head and the control block, which are the first 64 bytes of a database.
use Rattle.std.specs.Prelude.{ℕ, List, length, Bool, ◌&&◌, ◌||◌, ◌==◌, not, nat_le, nat_lt}
use Rattle.nb_fields.specs.Bytes.{number_in, part}
use Rattle.nb_fields.specs.Places.{is_page_size}
use Rattle.nb_fields.specs.States.{stalled_state}

-- how many bytes the head and the control block have
abbrev pub header_length : ℕ
header_length = 64

-- the bytes NBDB
abbrev pub signature : ℕ
signature = 1111769678

abbrev pub version : ℕ
version = 1

-- the first page of the catalogue, and that of the history
abbrev pub catalogue_page : ℕ
catalogue_page = 3

abbrev pub history_page : ℕ
history_page = 4

-- the fields of the control block
abbrev pub state_of : List ℕ → ℕ
state_of first = number_in 22 2 first

abbrev pub size_of : List ℕ → ℕ
size_of first = number_in 24 4 first

abbrev pub scn_of : List ℕ → ℕ
scn_of first = number_in 28 4 first

abbrev pub guid_of : List ℕ → List ℕ
guid_of first = part 32 16 first

abbrev pub pending_of : List ℕ → List ℕ
pending_of first = part 48 16 first

-- type 1, number 0, the signature and the version
unfoldable pub is_marked : List ℕ → Bool
is_marked first = number_in 0 1 first == 1 && number_in 12 4 first == 0 && number_in 16 4 first == signature && number_in 20 2 first == version

-- a state of 0 to 3, a page size, and an SCN, which in state 1 is not the last one
abbrev pub is_sound : (state size scn : ℕ) → Bool
is_sound state size scn = nat_le state 3 && is_page_size size && nat_le 1 scn && (not (state == stalled_state) || nat_lt scn 4294967295)

-- The first 64 bytes have the form of a header. Other bytes of them aren't tested.
unfoldable pub is_header : List ℕ → Bool
is_header first = nat_le header_length (length first) && (is_marked first && is_sound (state_of first) (size_of first) (scn_of first))
