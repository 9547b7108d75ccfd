-- What the level files of a chain say of each page of the database: nothing, that it is all zeros, or that it isn't.
use Rattle.std.specs.Prelude.{ℕ, zero, suc, ◌+◌, ◌-◌, ◌*◌, List, [], ◌∷◌, ◌++◌, length, replicate, slice_set, Bool, true, false, nat_lt}
use Rattle.std.specs.List.{slice_index_or}
use Rattle.nb_fields.specs.Bytes.{is_zeros, part}
use Rattle.nb_model.specs.Image.{Page, Numbered}
use Rattle.nb_model.specs.Restoring.{Link}
use Rattle.nb_chain.specs.declared.overlay.Mark.{Mark}
use Rattle.nb_chain.specs.declared.overlay.Mark.TheVariants.{Untouched, Zeros, Filled}

-- what is said of a page that a level file has
unfoldable pub mark_of : Page → Mark
mark_of page = elim (is_zeros page) [ true ↦ Zeros | false ↦ Filled ]

-- room for page n
abbrev pub grown : List Mark → ℕ → List Mark
grown marks n = marks ++ replicate (n + 1 - length marks) Untouched

-- with a page noted, over what was said of it before
unfoldable pub noted : List Mark → Numbered → List Mark
noted marks r = slice_set (grown marks r.0) r.0 (mark_of r.1)

-- with each of these pages noted, in order
unfoldable pub all_noted : List Numbered → List Mark → List Mark
all_noted [] marks = marks
all_noted (r ∷ rs) marks = all_noted rs (noted marks r)

-- with the pages of each of these files noted, in order
unfoldable pub links_noted : List Link → List Mark → List Mark
links_noted [] marks = marks
links_noted (l ∷ ls) marks = links_noted ls (all_noted l.pages marks)

-- a page is all zeros, by what is said of it, and where nothing is by what stood there before
abbrev pub is_blank_by : Mark → (before : Bool) → Bool
is_blank_by Untouched before = before
is_blank_by Zeros before = true
is_blank_by Filled before = false

-- Page p is all zeros, where level 0 is the first `pages` pages of these bytes. Past its end there are zeros.
unfoldable pub is_blank : (bytes : List ℕ) (size pages : ℕ) → List Mark → ℕ → Bool
is_blank bytes size pages marks p =
    is_blank_by (slice_index_or marks p Untouched) (elim (nat_lt p pages) [ true ↦ is_zeros (part (p * size) size bytes) | false ↦ true ])

-- how many of so many pages are left without the blank ones at their end
unfoldable pub without_blank : (ℕ → Bool) → ℕ → ℕ
without_blank blank zero = 0
without_blank blank (suc n) = elim (blank n) [ true ↦ without_blank blank n | false ↦ suc n ]
