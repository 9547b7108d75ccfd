-- One page: its head, and what stands after it.
use Rattle.std.specs.Prelude.{ℕ, ◌+◌, ◌-◌, ◌%◌, ◌^◌, List, ◌∷◌, ◌++◌, length, take}
use Rattle.nb_fields.specs.Bytes.{bytes_of, number_in, padded}

-- the fields of the head
abbrev pub kind_of : List ℕ → ℕ
kind_of page = number_in 0 1 page

abbrev pub generation_of : List ℕ → ℕ
generation_of page = number_in 4 4 page

abbrev pub stamp_of : List ℕ → ℕ
stamp_of page = number_in 8 4 page

abbrev pub number_of_page : List ℕ → ℕ
number_of_page page = number_in 12 4 page

-- the head, with flags and reserved bytes of zeros
unfoldable pub head_of : (kind generation scn number : ℕ) → List ℕ
head_of kind generation scn number = kind ∷ 0 ∷ 0 ∷ 0 ∷ (bytes_of 4 generation ++ (bytes_of 4 scn ++ bytes_of 4 number))

-- the page with that head and that payload, and zeros after
unfoldable pub page_of : (size kind generation scn number : ℕ) (payload : List ℕ) → List ℕ
page_of size kind generation scn number payload = head_of kind generation scn number ++ padded (size - 16) payload

-- the page with another payload
unfoldable pub with_payload : (page payload : List ℕ) → List ℕ
with_payload page payload = take 16 page ++ padded (length page - 16) payload

-- the page written over an old one: the generation rises by one
unfoldable pub stamped : (old : List ℕ) (kind : ℕ) (payload : List ℕ) (scn number : ℕ) → List ℕ
stamped old kind payload scn number = page_of (length old) kind ((generation_of old + 1) % 2 ^ 32) scn number payload
