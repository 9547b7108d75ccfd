-- Place and width of each field.
use Rattle.std.specs.Prelude.{ℕ, ◌+◌, ◌≤◌, List, [], ◌∷◌}
use Rattle.nb_fields.specs.Bytes.{AreApart}

-- this field shares no byte with any of those
abbrev pub IsApartFromAll : ℕ × ℕ → List (ℕ × ℕ) → Type 0
IsApartFromAll f [] = Unit {0}
IsApartFromAll f (g ∷ gs) = AreApart f.0 f.1 g.0 g.1 × IsApartFromAll f gs

-- no two of these fields share a byte
abbrev pub ShareNoByte : List (ℕ × ℕ) → Type 0
ShareNoByte [] = Unit {0}
ShareNoByte (f ∷ fs) = IsApartFromAll f fs × ShareNoByte fs

-- each of these fields ends at this place or before it
abbrev pub AllBefore : ℕ → List (ℕ × ℕ) → Type 0
AllBefore at [] = Unit {0}
AllBefore at (f ∷ fs) = (f.0 + f.1 ≤ at) × AllBefore at fs

-- where the last of these fields ends, and this place where there is none
abbrev pub end_of : ℕ → List (ℕ × ℕ) → ℕ
end_of at [] = at
end_of at (f ∷ fs) = end_of (f.0 + f.1) fs

-- where the slots of a data page begin, and how many bytes a slot has
abbrev pub slots_at : ℕ
slots_at = 32

abbrev pub slot_length : ℕ
slot_length = 256

-- the head of a page: type, flags, reserved, generation, SCN, number
abbrev pub head_layout : List (ℕ × ℕ)
head_layout = (0, 1) ∷ (1, 1) ∷ (2, 2) ∷ (4, 4) ∷ (8, 4) ∷ (12, 4) ∷ []

-- a header page after its head: signature, version, state, page size, SCN, GUID, pending GUID, forced writes,
-- access, catalogue, history
abbrev pub header_layout : List (ℕ × ℕ)
header_layout = (16, 4) ∷ (20, 2) ∷ (22, 2) ∷ (24, 4) ∷ (28, 4) ∷ (32, 16) ∷ (48, 16) ∷ (64, 1) ∷ (65, 1) ∷ (72, 4) ∷ (76, 4) ∷ []

-- an inventory page of either kind after its head: its number
abbrev pub numbered_layout : List (ℕ × ℕ)
numbered_layout = (16, 4) ∷ []

-- a raw page after its head: the text's length, the text
abbrev pub raw_layout : List (ℕ × ℕ)
raw_layout = (16, 2) ∷ (18, 200) ∷ []

-- a data page after its head: the next page, the owner
abbrev pub data_layout : List (ℕ × ℕ)
data_layout = (16, 4) ∷ (20, 4) ∷ []

-- a row's slot: used, the text's length, key, text
abbrev pub row_layout : List (ℕ × ℕ)
row_layout = (0, 1) ∷ (2, 2) ∷ (8, 8) ∷ (16, 200) ∷ []

-- a catalogue slot: used, the name's length, first page, name
abbrev pub catalogue_layout : List (ℕ × ℕ)
catalogue_layout = (0, 1) ∷ (2, 2) ∷ (4, 4) ∷ (16, 30) ∷ []

-- a history slot: used, level, the name's length, SCN, time, GUID, name
abbrev pub history_layout : List (ℕ × ℕ)
history_layout = (0, 1) ∷ (1, 1) ∷ (2, 2) ∷ (4, 4) ∷ (8, 8) ∷ (16, 16) ∷ (32, 100) ∷ []

-- an allocation page of a difference file: the count
abbrev pub allocation_layout : List (ℕ × ℕ)
allocation_layout = (0, 4) ∷ []

-- the head of a level file: signature, version, level, GUID, previous GUID, page size, SCN, previous SCN
abbrev pub level_layout : List (ℕ × ℕ)
level_layout = (0, 4) ∷ (4, 2) ∷ (6, 2) ∷ (8, 16) ∷ (24, 16) ∷ (40, 4) ∷ (44, 4) ∷ (48, 4) ∷ []
