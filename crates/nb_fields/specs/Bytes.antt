-- Numbers in the bytes of a page.
use Rattle.std.specs.Prelude.{◌≡◌, ℕ, zero, suc, ◌+◌, ◌-◌, ◌*◌, ◌/◌, ◌%◌, ◌≤◌, ◌⊎◌, List, [], ◌∷◌, ◌++◌, length, take, drop, replicate, Bool, ◌==◌}
use Rattle.std.specs.List.{list_all}

-- the number that bytes spell, the lowest byte first
unfoldable pub number_of : List ℕ → ℕ
number_of [] = 0
number_of (b ∷ bs) = b + 256 * number_of bs

-- the lowest w bytes of a number, the lowest first
unfoldable pub bytes_of : ℕ → ℕ → List ℕ
bytes_of zero v = []
bytes_of (suc w) v = v % 256 ∷ bytes_of w (v / 256)

-- the w bytes of a page from a place on
abbrev pub part : ℕ → ℕ → List ℕ → List ℕ
part at w page = take w (drop at page)

-- the number in the w bytes of a page from a place on
unfoldable pub number_in : ℕ → ℕ → List ℕ → ℕ
number_in at w page = number_of (part at w page)

-- the page with those bytes from a place on, and no other byte changed
abbrev pub with_part : ℕ → List ℕ → List ℕ → List ℕ
with_part at bytes page = take at page ++ (bytes ++ drop (at + length bytes) page)

-- two fields, each of a place and a width, share no byte
abbrev pub AreApart : ℕ → ℕ → ℕ → ℕ → Type 0
AreApart at w by v = (at + w ≤ by) ⊎ (by + v ≤ at)

-- a field is 1, 2, 4 or 8 bytes wide
abbrev pub IsWidth : ℕ → Type 0
IsWidth w = (w ≡ 1) ⊎ (w ≡ 2) ⊎ (w ≡ 4) ⊎ (w ≡ 8)

-- the bytes with zeros after, up to this length
unfoldable pub padded : ℕ → List ℕ → List ℕ
padded size bytes = bytes ++ replicate (size - length bytes) 0

-- all bytes are zeros
abbrev pub is_zeros : List ℕ → Bool
is_zeros bytes = list_all (λ b. b == 0) bytes
