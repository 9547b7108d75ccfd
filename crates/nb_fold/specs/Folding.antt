-- Level files that go on from one another, folded into one.
use Rattle.std.specs.Prelude.{ℕ, zero, suc, ◌+◌, ◌==◌, List, [], ◌∷◌, Option, Some, None, true, false}
use Rattle.nb_fields.specs.Places.{most_pages}
use Rattle.nb_model.specs.Image.{Page, Numbered}
use Rattle.nb_model.specs.Levels.{Head, Contents, level_bytes}

-- the page of that number
abbrev pub page_of : (n : ℕ) → List Numbered → Option Page
page_of n [] = None
page_of n (r ∷ rs) = elim (r.0 == n) [ true ↦ Some r.1 | false ↦ page_of n rs ]

-- that of the last of these files which has it
abbrev pub or_before : Option Page → (before : Option Page) → Option Page
or_before (Some page) before = Some page
or_before None before = before

abbrev pub last_page : (n : ℕ) → (files : List (List Numbered)) → Option Page
last_page n [] = None
last_page n (rs ∷ files) = or_before (last_page n files) (page_of n rs)

-- a page, where there is one, before others
abbrev pub with_number : (n : ℕ) → Option Page → List Numbered → List Numbered
with_number n (Some page) rs = (n, page) ∷ rs
with_number n None rs = rs

-- the same for so many numbers, from n on
unfoldable pub folded_from : (left n : ℕ) → (files : List (List Numbered)) → List Numbered
folded_from zero n files = []
folded_from (suc left) n files = with_number n (last_page n files) (folded_from left (n + 1) files)

-- for each number that a file has the page of the last file that has it, numbers rising
abbrev pub folded_pages : (files : List (List Numbered)) → List Numbered
folded_pages files = folded_from most_pages 0 files

-- the head of no file
abbrev pub no_head : Head
no_head = record { level = 0; guid = []; previous = []; size = 0; scn = 0; previous_scn = 0 }

-- the head of the first file
abbrev pub first_head : List Contents → Head
first_head [] = no_head
first_head (c ∷ cs) = c.head

-- the head of the last one
abbrev pub last_head : List Contents → Head
last_head [] = no_head
last_head (c ∷ []) = c.head
last_head (c ∷ d ∷ cs) = last_head (d ∷ cs)

-- of one file that tells what these tell: it goes on from what the first goes on from, and is of the backup of the last
abbrev pub folded_head : List Contents → Head
folded_head cs = record (first_head cs) { guid = (last_head cs).guid; scn = (last_head cs).scn }

-- the pages of each
abbrev pub pages_of_each : List Contents → List (List Numbered)
pages_of_each [] = []
pages_of_each (c ∷ cs) = c.pages ∷ pages_of_each cs

-- what it holds
unfoldable pub folded : List Contents → Contents
folded cs = record { version = 102; head = folded_head cs; pages = folded_pages (pages_of_each cs) }

-- its bytes
abbrev pub bytes_for : Contents → List ℕ
bytes_for c = level_bytes c.version c.head c.pages
