-- What stands after the head of a page, by its kind.
use Rattle.std.specs.Prelude.{ℕ, zero, suc, ◌+◌, ◌-◌, ◌*◌, ◌/◌, ◌%◌, ◌^◌, List, [], ◌∷◌, ◌++◌, length, take, replicate, slice_index}
use Rattle.std.specs.Int.{bit_at}
use Rattle.nb_fields.specs.Bytes.{bytes_of, number_in, part}
use Rattle.nb_fields.specs.Places.{entries_in, bits_at, entries_at}
use Rattle.nb_fields.specs.Header.{signature, version, catalogue_page, history_page}

-- the control block of a header: bytes 16 to 63
unfoldable pub control_block : (size state scn : ℕ) (guid pending : List ℕ) → List ℕ
control_block size state scn guid pending =
    bytes_of 4 signature ++ (bytes_of 2 version ++ (bytes_of 2 state ++ (bytes_of 4 size ++ (bytes_of 4 scn ++ (guid ++ pending)))))

-- a header: its control block, then forced writes on and read-write, then the places of catalogue and history
unfoldable pub header_payload : (size state scn : ℕ) (guid pending : List ℕ) → List ℕ
header_payload size state scn guid pending =
    control_block size state scn guid pending ++ (1 ∷ (replicate 7 0 ++ (bytes_of 4 catalogue_page ++ bytes_of 4 history_page)))

-- so many bytes of bits, the first bits taken and the others free
unfoldable pub taken_bits : (bytes taken : ℕ) → List ℕ
taken_bits bytes taken = take bytes (replicate (taken / 8) 0 ++ ((256 - 2 ^ (taken % 8)) ∷ replicate bytes 255))

-- page inventory page k with its first bits taken
unfoldable pub inventory_payload : (size k taken : ℕ) → List ℕ
inventory_payload size k taken = bytes_of 4 k ++ (replicate 12 0 ++ taken_bits (size - bits_at) taken)

-- so many entries of one SCN
unfoldable pub same_entries : (scn n : ℕ) → List ℕ
same_entries scn zero = []
same_entries scn (suc n) = bytes_of 4 scn ++ same_entries scn n

-- SCN inventory page k with each entry the same
unfoldable pub scn_payload : (size k scn : ℕ) → List ℕ
scn_payload size k scn = bytes_of 4 k ++ (replicate 12 0 ++ same_entries scn (entries_in size))

-- a data page: the next page of its chain, its owner, and its slots
unfoldable pub data_payload : (next owner : ℕ) (slots : List ℕ) → List ℕ
data_payload next owner slots = bytes_of 4 next ++ (bytes_of 4 owner ++ (replicate 8 0 ++ slots))

-- a raw page with a text
unfoldable pub text_payload : (text : List ℕ) → List ℕ
text_payload text = bytes_of 2 (length text) ++ text

-- the text of a raw page
abbrev pub text_length : List ℕ → ℕ
text_length page = number_in 16 2 page

abbrev pub text_of : List ℕ → List ℕ
text_of page = part 18 (text_length page) page

-- bit i of a page inventory page: 1 means free
abbrev pub bit_of : List ℕ → ℕ → ℕ
bit_of page i = bit_at (slice_index page (bits_at + i / 8)) (i % 8)

-- entry i of an SCN inventory page
abbrev pub entry_of : List ℕ → ℕ → ℕ
entry_of page i = number_in (entries_at + 4 * i) 4 page
