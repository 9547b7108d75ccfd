-- The pages of a file before and after one of them was written.
use Rattle.std.specs.Prelude.{◌≡◌, ◌≢◌, ◌⊎◌, ℕ, ◌+◌, ◌*◌, ◌≤◌, List, length}
use Rattle.nb_fields.specs.Table.{page_in}

-- page i is this one, and every other as it was
pub record WithPage (size i : ℕ) (page b c : List ℕ) : Type 0 where
  pub here : page_in size c i ≡ page
  pub others : (j : ℕ) → j ≢ i → page_in size c j ≡ page_in size b j

-- every page as it was
abbrev pub SamePages : ℕ → List ℕ → List ℕ → Type 0
SamePages size b c = (j : ℕ) → page_in size c j ≡ page_in size b j

-- How long the file is after a write of page i: as long as it was, or longer by a page, or it ends with that page.
abbrev pub Grows : ℕ → ℕ → (before after : ℕ) → Type 0
Grows size i before after = (after ≡ before) ⊎ (before + size ≤ after) ⊎ (after ≡ i * size + size)

-- what a write of page i leaves: every page as it was, or that one new
pub record PageStep (size i : ℕ) (page b c : List ℕ) : Type 0 where
  pub pages : SamePages size b c ⊎ WithPage size i page b c
  pub longer : length b ≤ length c
  pub grows : Grows size i (length b) (length c)

-- a page that was written whole
pub record Put (size i : ℕ) (page b c : List ℕ) : Type 0 where
  pub pages : WithPage size i page b c
  pub longer : length b ≤ length c
  pub whole : (i + 1) * size ≤ length c
  pub grows : Grows size i (length b) (length c)
