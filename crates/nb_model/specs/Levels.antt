-- Level files: the bytes of one, and what bytes hold.
--
-- A level of 1 to 9 is a head, pages with their numbers, and an end. In version 101 each page stands with its number. In version
-- 102 pages of consecutive numbers stand together in runs of at most 16.
use Rattle.std.specs.Prelude.{◌≡◌, ℕ, zero, suc, ◌+◌, ◌*◌, ◌^◌, ◌<◌, ◌≤◌, List, [], ◌∷◌, ◌++◌, length, take, drop, Option, Some, None, Result, Ok, Err, Bool, true, false, ◌&&◌, ◌||◌, ◌==◌, not, nat_le, nat_lt, IsTrue, codes}
use Rattle.nb_fields.specs.Bytes.{bytes_of, number_in, part}
use Rattle.nb_fields.specs.Places.{is_page_size, most_pages}
use Rattle.nb_fields.specs.Page.{stamp_of}
use Rattle.nb_fields.specs.Header.{is_header, state_of, size_of, scn_of, guid_of}
use Rattle.nb_fields.specs.States.{stalled_state}
use Rattle.nb_host.specs.Names.{same_name}
use Rattle.nb_model.specs.Image.{Page, Image, Numbered, image_size}
use Rattle.nb_model.specs.Account.{Ask, Kept}
use Rattle.nb_model.specs.Forms.{has_entry, scn_entry}

-- the head of a level file
pub record Head : Type 0 where
  pub level : ℕ
  pub guid : List ℕ
  pub previous : List ℕ
  pub size : ℕ
  pub scn : ℕ
  pub previous_scn : ℕ

-- the pages of an image in order
abbrev pub joined : List Page → List ℕ
joined [] = []
joined (p ∷ ps) = p ++ joined ps

-- those whose stamp is above the SCN, with their numbers; the first page of the list is number n
unfoldable pub taken_from : (n scn : ℕ) → Image → List Numbered
taken_from n scn [] = []
taken_from n scn (p ∷ ps) = elim (nat_lt scn (stamp_of p)) [ true ↦ (n, p) ∷ taken_from (n + 1) scn ps | false ↦ taken_from (n + 1) scn ps ]

-- the pages that were stamped since that SCN
abbrev pub taken : (scn : ℕ) → Image → List Numbered
taken scn image = taken_from 0 scn image

-- page p may have changed since that SCN: it has no SCN entry, or its entry, as it stands, is above
unfoldable pub may_have_changed : Image → (scn p : ℕ) → Bool
may_have_changed image scn p = not (has_entry image p) || nat_lt scn (scn_entry image p)

-- those that may have changed and whose stamp is above the SCN, with their numbers; the first page of the list is number n
unfoldable pub changed_from : (may : ℕ → Bool) (n scn : ℕ) → Image → List Numbered
changed_from may n scn [] = []
changed_from may n scn (p ∷ ps) = elim (may n && nat_lt scn (stamp_of p)) [ true ↦ (n, p) ∷ changed_from may (n + 1) scn ps | false ↦ changed_from may (n + 1) scn ps ]

-- The pages that a level since that SCN takes, whatever the SCN pages hold. Where no entry is below the stamp of its page these are all that were
-- stamped since.
abbrev pub changed : (scn : ℕ) → Image → List Numbered
changed scn image = changed_from (may_have_changed image scn) 0 scn image

-- all pages with their numbers
unfoldable pub numbered_from : (n : ℕ) → Image → List Numbered
numbered_from n [] = []
numbered_from n (p ∷ ps) = (n, p) ∷ numbered_from (n + 1) ps

-- the bytes that a level file begins with
abbrev pub level_signature : List ℕ
level_signature = codes "NBAK"

-- the 52 bytes of a head, and what stands after
unfoldable pub head_then : (version : ℕ) → Head → List ℕ → List ℕ
head_then version h behind =
    78 ∷ 66 ∷ 65 ∷ 75 ∷ (bytes_of 2 version ++ (bytes_of 2 h.level ++ (h.guid ++ (h.previous ++ (bytes_of 4 h.size ++ (bytes_of 4 h.scn ++ (bytes_of 4 h.previous_scn ++ behind)))))))

-- what stands where no page follows
abbrev pub end_mark : ℕ
end_mark = 4294967295

-- the end: the mark and the number of pages
unfoldable pub end_bytes : (count : ℕ) → List ℕ
end_bytes count = bytes_of 4 end_mark ++ bytes_of 4 count

-- version 101: number and page of each
unfoldable pub single_bytes : List Numbered → List ℕ
single_bytes [] = []
single_bytes (r ∷ rs) = bytes_of 4 r.0 ++ (r.1 ++ single_bytes rs)

-- a run: pages of consecutive numbers
pub record Stretch : Type 0 where
  pub first : ℕ
  pub pages : List Page

-- The runs of these pages, after a run that has begun. A page goes into it where its number is the next and it has fewer than 16.
unfoldable pub runs_behind : (first : ℕ) → List Page → List Numbered → List Stretch
runs_behind first pages [] = record { first = first; pages = pages } ∷ []
runs_behind first pages (r ∷ rs) = elim (r.0 == first + length pages && nat_lt (length pages) 16) [
  | true ↦ runs_behind first (pages ++ r.1 ∷ []) rs
  | false ↦ record { first = first; pages = pages } ∷ runs_behind r.0 (r.1 ∷ []) rs
]

-- each stretch of consecutive numbers is cut from its front into runs of 16, and what is left is its last run
unfoldable pub runs_of : List Numbered → List Stretch
runs_of [] = []
runs_of (r ∷ rs) = runs_behind r.0 (r.1 ∷ []) rs

-- version 102: first number, number of pages, and pages of each run
unfoldable pub run_bytes : List Stretch → List ℕ
run_bytes [] = []
run_bytes (s ∷ ss) = bytes_of 4 s.first ++ (bytes_of 4 (length s.pages) ++ (joined s.pages ++ run_bytes ss))

-- the pages in a version
unfoldable pub body_bytes : (version : ℕ) → List Numbered → List ℕ
body_bytes version rs = elim (version == 101) [ true ↦ single_bytes rs | false ↦ run_bytes (runs_of rs) ]

-- a level file of 1 to 9
unfoldable pub level_bytes : (version : ℕ) → Head → List Numbered → List ℕ
level_bytes version h rs = head_then version h (body_bytes version rs ++ end_bytes (length rs))

-- the head that the record of a backup gets
abbrev pub head_for : Kept → Ask → Head
head_for kept ask = record {
  level = ask.level;
  guid = kept.guid;
  previous = ask.previous;
  size = image_size kept.image;
  scn = kept.scn;
  previous_scn = ask.previous_scn;
}

-- the file of a backup: of level 0 and of a bare begin its pages
unfoldable pub file_for : (version : ℕ) → Kept → Option Ask → List ℕ
file_for version kept None = joined kept.image
file_for version kept (Some ask) = elim (ask.level == 0) [
  | true ↦ joined kept.image
  | false ↦ level_bytes version (head_for kept ask) (changed ask.previous_scn kept.image)
]

unfoldable pub file_of : (version : ℕ) → Kept → List ℕ
file_of version kept = file_for version kept kept.ask

-- how many pages it has
unfoldable pub count_in : Kept → Ask → ℕ
count_in kept ask = elim (ask.level == 0) [ true ↦ length kept.image | false ↦ length (changed ask.previous_scn kept.image) ]

-- Page 0 in a level file is a header in the stalled state, of the head's page size and GUID, with the SCN after the head's.
unfoldable pub is_first_page : Head → Page → Bool
is_first_page h p =
    is_header p && (state_of p == stalled_state && (size_of p == h.size && (same_name (guid_of p) h.guid && scn_of p == h.scn + 1)))

-- numbers rise from the least one on, and are those of pages of a database
abbrev pub AreRising : (least : ℕ) → List Numbered → Type 0
AreRising least [] = Unit {0}
AreRising least (r ∷ rs) = (least ≤ r.0) × (r.0 < most_pages) × AreRising (r.0 + 1) rs

-- each page is of that size
abbrev pub AreOfSize : (size : ℕ) → List Numbered → Type 0
AreOfSize size [] = Unit {0}
AreOfSize size (r ∷ rs) = (length r.1 ≡ size) × AreOfSize size rs

-- the head is of the form
pub record IsHead (h : Head) : Type 0 where
  pub level : IsTrue (nat_le 1 h.level && nat_le h.level 9)
  pub guid : length h.guid ≡ 16
  pub previous : length h.previous ≡ 16
  pub size : IsTrue (is_page_size h.size)
  pub scn : h.scn < 2 ^ 32
  pub later : h.previous_scn < h.scn

-- The grammar: bytes are a level file of that version with that head and these pages, of which page 0 is the first.
pub record IsLevel (bytes : List ℕ) (version : ℕ) (h : Head) (r : Numbered) (rs : List Numbered) : Type 0 where
  pub spelled : bytes ≡ level_bytes version h (r ∷ rs)
  pub known : IsTrue (version == 101 || version == 102)
  pub head : IsHead h
  pub first : r.0 ≡ 0
  pub header : IsTrue (is_first_page h r.1)
  pub rising : AreRising 1 rs
  pub sizes : AreOfSize h.size (r ∷ rs)

-- what a level file holds
pub record Contents : Type 0 where
  pub version : ℕ
  pub head : Head
  pub pages : List Numbered

-- a test that the bytes fail, and the place that is broken then
abbrev pub Test : Type 0
Test = Bool × ℕ

-- the place of the first test that fails
unfoldable pub first_fault : List Test → Option ℕ
first_fault [] = None
first_fault (t ∷ ts) = elim t.0 [ true ↦ Some t.1 | false ↦ first_fault ts ]

-- a field or a page of so many bytes isn't there whole: the file's end is broken
abbrev pub ends_before : (need at : ℕ) (rest : List ℕ) → Test
ends_before need at rest = (nat_lt (length rest) need, at + length rest)

-- with more pages before
abbrev pub behind : List Numbered → Result (List Numbered) ℕ → Result (List Numbered) ℕ
behind rs (Ok more) = Ok (rs ++ more)
behind rs (Err at) = Err at

-- The end mark stands at this place, after so many pages, and the rest begins with it.
unfoldable pub read_end : (at count : ℕ) (rest : List ℕ) → Result (List Numbered) ℕ
read_end at count rest = elim (first_fault (
    (count == 0, at)
    ∷ ends_before 8 at rest
    ∷ (not (number_in 4 4 rest == count), at + 4)
    ∷ (nat_lt 8 (length rest), at + 8)
    ∷ [])) [
      | Some place ↦ Err place
      | None ↦ Ok []
    ]

-- a page's number that may not stand after so many pages, where the least that may is `least`
abbrev pub is_bad_number : (count least n : ℕ) → Bool
is_bad_number count least n = (count == 0 && not (n == 0)) || (nat_lt n least || nat_le most_pages n)

-- Version 101 from this place on, after so many pages: the pages, or the first broken place. The least number that may come
-- is `least`. There are no more pages than `left`.
unfoldable pub read_singles : (left : ℕ) → Head → (at count least : ℕ) (rest : List ℕ) → Result (List Numbered) ℕ
read_singles zero h at count least rest = Err at
read_singles (suc left) h at count least rest = elim (nat_lt (length rest) 4) [
  | true ↦ Err (at + length rest)
  | false ↦ elim (number_in 0 4 rest == end_mark) [
    | true ↦ read_end at count rest
    | false ↦
        let n : ℕ = number_in 0 4 rest in
        elim (first_fault (
        (is_bad_number count least n, at)
        ∷ ends_before (4 + h.size) at rest
        ∷ (n == 0 && not (is_first_page h (part 4 h.size rest)), at + 4)
        ∷ [])) [
          | Some place ↦ Err place
          | None ↦ behind ((n, part 4 h.size rest) ∷ []) (read_singles left h (at + 4 + h.size) (count + 1) (n + 1) (drop (4 + h.size) rest))
        ]
  ]
]

-- so many pages, with numbers from n on
unfoldable pub pages_in : (size count n : ℕ) (rest : List ℕ) → List Numbered
pages_in size zero n rest = []
pages_in size (suc count) n rest = (n, take size rest) ∷ pages_in size count (n + 1) (drop size rest)

-- The number that may not begin the next run: the one after a run of fewer than 16 pages would belong into it. No page has
-- the number of the end mark.
abbrev pub barred_after : (n count : ℕ) → ℕ
barred_after n count = elim (nat_lt count 16) [ true ↦ n + count | false ↦ end_mark ]

-- version 102 from this place on, likewise; `barred` is a number that may not come
unfoldable pub read_runs : (left : ℕ) → Head → (at count least barred : ℕ) (rest : List ℕ) → Result (List Numbered) ℕ
read_runs zero h at count least barred rest = Err at
read_runs (suc left) h at count least barred rest = elim (nat_lt (length rest) 4) [
  | true ↦ Err (at + length rest)
  | false ↦ elim (number_in 0 4 rest == end_mark) [
    | true ↦ read_end at count rest
    | false ↦
        let n : ℕ = number_in 0 4 rest in
        let m : ℕ = number_in 4 4 rest in
        elim (first_fault (
        (is_bad_number count least n || n == barred, at)
        ∷ ends_before 8 at rest
        ∷ (m == 0 || (nat_lt 16 m || nat_lt most_pages (n + m)), at + 4)
        ∷ (n == 0 && nat_lt (length rest) (8 + h.size), at + length rest)
        ∷ (n == 0 && not (is_first_page h (part 8 h.size rest)), at + 8)
        ∷ ends_before (8 + m * h.size) at rest
        ∷ [])) [
          | Some place ↦ Err place
          | None ↦ behind (pages_in h.size m n (drop 8 rest)) (read_runs left h (at + 8 + m * h.size) (count + m) (n + m) (barred_after n m) (drop (8 + m * h.size) rest))
        ]
  ]
]

-- the head's fields
unfoldable pub head_in : List ℕ → Head
head_in bytes = record {
  level = number_in 6 2 bytes;
  guid = part 8 16 bytes;
  previous = part 24 16 bytes;
  size = number_in 40 4 bytes;
  scn = number_in 44 4 bytes;
  previous_scn = number_in 48 4 bytes;
}

abbrev pub with_head : (version : ℕ) → Head → Result (List Numbered) ℕ → Result Contents ℕ
with_head version h (Ok rs) = Ok (record { version = version; head = h; pages = rs })
with_head version h (Err at) = Err at

-- the pages after a head
unfoldable pub read_pages : (version : ℕ) → Head → (bytes : List ℕ) → Result (List Numbered) ℕ
read_pages version h bytes = elim (version == 101) [
  | true ↦ read_singles (length bytes) h 52 0 0 (drop 52 bytes)
  | false ↦ read_runs (length bytes) h 52 0 0 end_mark (drop 52 bytes)
]

unfoldable pub begins_level : List ℕ → Bool
begins_level bytes = same_name (take 4 bytes) level_signature

-- what the bytes of a level file of 1 to 9 hold, or the first broken place
unfoldable pub read_level : List ℕ → Result Contents ℕ
read_level bytes =
    let version : ℕ = number_in 4 2 bytes in
    let h : Head = head_in bytes in
    elim (first_fault (
    (not (begins_level bytes), 0)
    ∷ ends_before 52 0 bytes
    ∷ (not (version == 101 || version == 102), 4)
    ∷ (not (nat_le 1 h.level && nat_le h.level 9), 6)
    ∷ (not (is_page_size h.size), 40)
    ∷ (not (nat_lt h.previous_scn h.scn), 44)
    ∷ [])) [
      | Some place ↦ Err place
      | None ↦ with_head version h (read_pages version h bytes)
    ]
