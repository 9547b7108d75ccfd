-- Reading a level file from front to back: where a reader stands, what the next bytes say, and what is still to come.
use Rattle.std.specs.Prelude.{◌≡◌, ◌⊎◌, ℕ, ◌+◌, ◌*◌, ◌≤◌, IsTrue, List, [], ◌∷◌, length, drop, Option, Some, None, Result, Ok, Err, true, false, ◌&&◌, ◌||◌, ◌==◌, not, nat_le, nat_lt}
use Rattle.nb_fields.specs.Bytes.{number_in, part}
use Rattle.nb_model.specs.Image.{Numbered}
use Rattle.nb_model.specs.Levels.{Head, first_fault, ends_before, is_bad_number, is_first_page, end_mark, behind, pages_in, read_singles, read_runs, begins_level, head_in}
use Rattle.nb_fields.specs.Places.{is_page_size, most_pages}
use Rattle.nb_level.specs.Heads.{head_of}
use Rattle.nb_level.specs.declared.head.LevelHead.{LevelHead}
use Rattle.nb_level.specs.declared.place.Place.{Place}

-- a reader: the file, its version and head, and where the reader stands
pub record Reading : Type 0 where
  pub name : List ℕ
  pub version : ℕ
  pub head : LevelHead
  pub place : Place

-- what the next bytes say: that no page follows, or how many do together, and the first one's number; or the broken place
abbrev pub Step : Type 0
Step = Result (Option (ℕ × ℕ)) ℕ

-- the end mark, after so many pages, and what follows
unfoldable pub end_step : (at count : ℕ) (bytes : List ℕ) → Step
end_step at count bytes = elim (first_fault (
    (count == 0, at)
    ∷ ends_before 8 at bytes
    ∷ (not (number_in 4 4 bytes == count), at + 4)
    ∷ (nat_lt 8 (length bytes), at + 8)
    ∷ [])) [
      | Some place ↦ Err place
      | None ↦ Ok None
    ]

-- version 101: a page with its number
unfoldable pub single_step : Head → (at count least : ℕ) (bytes : List ℕ) → Step
single_step h at count least bytes = elim (nat_lt (length bytes) 4) [
  | true ↦ Err (at + length bytes)
  | false ↦ elim (number_in 0 4 bytes == end_mark) [
    | true ↦ end_step at count bytes
    | false ↦ elim (first_fault (
        (is_bad_number count least (number_in 0 4 bytes), at)
        ∷ ends_before (4 + h.size) at bytes
        ∷ (number_in 0 4 bytes == 0 && not (is_first_page h (part 4 h.size bytes)), at + 4)
        ∷ [])) [
          | Some place ↦ Err place
          | None ↦ Ok (Some (number_in 0 4 bytes, 1))
        ]
  ]
]

-- version 102: the first page of a run
unfoldable pub run_step : Head → (at count least barred : ℕ) (bytes : List ℕ) → Step
run_step h at count least barred bytes = elim (nat_lt (length bytes) 4) [
  | true ↦ Err (at + length bytes)
  | false ↦ elim (number_in 0 4 bytes == end_mark) [
    | true ↦ end_step at count bytes
    | false ↦
        let n : ℕ = number_in 0 4 bytes in
        let m : ℕ = number_in 4 4 bytes in
        elim (first_fault (
        (is_bad_number count least n || n == barred, at)
        ∷ ends_before 8 at bytes
        ∷ (m == 0 || (nat_lt 16 m || nat_lt most_pages (n + m)), at + 4)
        ∷ ends_before (8 + h.size) at bytes
        ∷ (n == 0 && not (is_first_page h (part 8 h.size bytes)), at + 8)
        ∷ [])) [
          | Some place ↦ Err place
          | None ↦ Ok (Some (n, m))
        ]
  ]
]

-- what is left of a run of which `left` pages are still to come, and of what stands after it
unfoldable pub read_rest : (fuel left : ℕ) → Head → (at count least barred : ℕ) (rest : List ℕ) → Result (List Numbered) ℕ
read_rest fuel left h at count least barred rest = elim (nat_lt (length rest) (left * h.size)) [
  | true ↦ Err (at + length rest)
  | false ↦ behind (pages_in h.size left least rest) (read_runs fuel h (at + left * h.size) (count + left) (least + left) barred (drop (left * h.size) rest))
]

-- the pages that are still to come, or the first broken place
unfoldable pub still_to_come : List ℕ → Reading → Result (List Numbered) ℕ
still_to_come bytes r =
    let p = r.place in
    elim (r.version == 101) [
      | true ↦ read_singles (length bytes) (head_of r.head) p.at p.count p.least (drop p.at bytes)
      | false ↦ read_rest (length bytes) p.left (head_of r.head) p.at p.count p.least p.barred (drop p.at bytes)
    ]

-- the first place that is broken in a head, where the file begins with these bytes
unfoldable pub head_fault : List ℕ → Option ℕ
head_fault bytes = first_fault (
    (not (begins_level bytes), 0)
    ∷ ends_before 52 0 bytes
    ∷ (not (number_in 4 2 bytes == 101 || number_in 4 2 bytes == 102), 4)
    ∷ (not (nat_le 1 (number_in 6 2 bytes) && nat_le (number_in 6 2 bytes) 9), 6)
    ∷ (not (is_page_size (number_in 40 4 bytes)), 40)
    ∷ (not (nat_lt (number_in 48 4 bytes) (number_in 44 4 bytes)), 44)
    ∷ [])

-- what holds of the fields of every reader
pub record IsReader (version : ℕ) (head : LevelHead) (place : Place) (buffer : ℕ) : Type 0 where
  pub known : (version ≡ 101) ⊎ (version ≡ 102)
  pub size : IsTrue (is_page_size head.page_size)
  pub room_101 : version ≡ 101 → buffer ≡ 4 + head.page_size
  pub room_102 : version ≡ 102 → buffer ≡ 8 + head.page_size
  pub single : version ≡ 101 → place.left ≡ 0
  pub within : place.least + place.left ≤ most_pages
  pub counted : place.count ≤ place.least
  pub reached : place.at ≤ 52 + 32776 * place.least

-- a reader after the head that a file begins with
pub record IsBegun (name first : List ℕ) (r : Reading) : Type 0 where
  pub file : r.name ≡ name
  pub version : r.version ≡ number_in 4 2 first
  pub head : head_of r.head ≡ head_in first
  pub place : r.place ≡ record { at = 52; count = 0; least = 0; barred = end_mark; left = 0 }

-- a reader stands after the head that these bytes begin with, and its pages have the size that stands there
pub record StandsFirst (bytes : List ℕ) (r : Reading) : Type 0 where
  pub place : r.place.at ≡ 52
  pub size : r.head.page_size ≡ number_in 40 4 bytes
