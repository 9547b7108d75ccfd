-- The files that are folded, while they are read side by side.
use Rattle.std.specs.Prelude.{◌≡◌, ℕ, ◌+◌, ◌-◌, ◌<◌, ◌≤◌, ◌==◌, List, [], ◌∷◌, Option, Some, None, Bool, true, false, Ok}
use Rattle.std.specs.List.{AllByRecursion}
use Rattle.nb_fields.specs.Places.{most_pages}
use Rattle.nb_host.specs.Files.{Files, bytes_of}
use Rattle.nb_model.specs.Image.{Page, Numbered}
use Rattle.nb_model.specs.Levels.{Contents, read_level}
use Rattle.nb_level.specs.Heads.{head_of}
use Rattle.nb_level.specs.Reading.{Reading, still_to_come}
use Rattle.nb_fold.specs.Folding.{or_before}

-- What a contract sees of a file that is read beside others: its reader, and the number of the page that waits, where one does, and that page.
pub record Held : Type 0 where
  pub reader : Reading
  pub waiting : Option ℕ
  pub page : Page

-- what holds of the fields of each
pub record IsSource (reader : Reading) (waiting : Option ℕ) (page : ℕ) : Type 0 where
  pub room : page ≡ reader.head.page_size
  pub below : (n : ℕ) → waiting ≡ Some n → n < most_pages
  pub behind : (n : ℕ) → waiting ≡ Some n → reader.place.least ≡ n + 1

-- these pages of the file are still to come, the one that waits among them
abbrev pub WaitsBy : (bytes : List ℕ) → Reading → Page → (waiting : Option ℕ) → List Numbered → Type 0
WaitsBy bytes reader page None rs = rs ≡ []
WaitsBy bytes reader page (Some n) rs = (more : List Numbered) × (rs ≡ (n, page) ∷ more) × (still_to_come bytes reader ≡ Ok more)

abbrev pub Waits : Files → Held → List Numbered → Type 0
Waits files source rs = WaitsBy (bytes_of (files source.reader.name)) source.reader source.page source.waiting rs

-- and these of each
abbrev pub AllWait : Files → List Held → List (List Numbered) → Type 0
AllWait files [] [] = Unit {0}
AllWait files [] (rs ∷ rss) = ⊥
AllWait files (s ∷ ss) [] = ⊥
AllWait files (s ∷ ss) (rs ∷ rss) = Waits files s rs × AllWait files ss rss

-- The file was read to its end, holds this, and all of its pages are still to come.
pub record IsOpened (files : Files) (name : List ℕ) (source : Held) (c : Contents) : Type 0 where
  pub bytes : List ℕ
  pub there : files name ≡ Some bytes
  pub read : read_level bytes ≡ Ok c
  pub named : source.reader.name ≡ name
  pub head : head_of source.reader.head ≡ c.head
  pub waits : Waits files source c.pages

abbrev pub AreOpened : Files → (names : List (List ℕ)) → List Held → List Contents → Type 0
AreOpened files [] [] [] = Unit {0}
AreOpened files [] [] (c ∷ cs) = ⊥
AreOpened files [] (s ∷ ss) cs = ⊥
AreOpened files (n ∷ ns) [] cs = ⊥
AreOpened files (n ∷ ns) (s ∷ ss) [] = ⊥
AreOpened files (n ∷ ns) (s ∷ ss) (c ∷ cs) = IsOpened files n s c × AreOpened files ns ss cs

-- how many numbers there are at most from the page on that waits
abbrev pub due_by : (waiting : Option ℕ) → ℕ
due_by None = 0
due_by (Some n) = most_pages - n

abbrev pub due : List Held → ℕ
due [] = 0
due (s ∷ ss) = due_by s.waiting + due ss

-- the page of that number waits
abbrev pub waits_at : (n : ℕ) → (waiting : Option ℕ) → Bool
waits_at n None = false
waits_at n (Some m) = m == n

-- so it does in one of them: the page in the last one where it does
abbrev pub waiting_page : (n : ℕ) → List Held → Option Page
waiting_page n [] = None
waiting_page n (s ∷ ss) = or_before (waiting_page n ss) (elim (waits_at n s.waiting) [ true ↦ Some s.page | false ↦ None ])

-- how many pages of that number wait in it, and in all
abbrev pub count_at : (n : ℕ) → (waiting : Option ℕ) → ℕ
count_at n waiting = elim (waits_at n waiting) [ true ↦ 1 | false ↦ 0 ]

abbrev pub counts_at : (n : ℕ) → List Held → ℕ
counts_at n [] = 0
counts_at n (s ∷ ss) = count_at n s.waiting + counts_at n ss

-- the pages of a file without that of a number, where it comes first, and so of each file
abbrev pub rest_after : (n : ℕ) → List Numbered → List Numbered
rest_after n [] = []
rest_after n (r ∷ rs) = elim (r.0 == n) [ true ↦ rs | false ↦ r ∷ rs ]

abbrev pub rests : (n : ℕ) → List (List Numbered) → List (List Numbered)
rests n [] = []
rests n (rs ∷ rss) = rest_after n rs ∷ rests n rss

-- none waits
abbrev pub AreAtEnd : List Held → Type 0
AreAtEnd = AllByRecursion (λ (s : Held). s.waiting ≡ None)

-- no page of a lower number waits
abbrev pub IsLeast : (n : ℕ) → List Held → Type 0
IsLeast n = AllByRecursion (λ (s : Held). (m : ℕ) → s.waiting ≡ Some m → n ≤ m)

-- each reads pages of that size
abbrev pub AreOfPages : (size : ℕ) → List Held → Type 0
AreOfPages size = AllByRecursion (λ (s : Held). s.reader.head.page_size ≡ size)
