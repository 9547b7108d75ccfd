-- Each level file has page 0.
use Rattle.std.proofs.Common.{◌≡◌, ℕ, List, [], ◌∷◌, ap, arith, Ok, Contains}
use Rattle.nb_inplace.proofs.Common.{Page, Numbered, Head, Contents, read_level, level_pages}
use Rattle.nb_model.proofs.LevelWalk.{FirstIsZero}

-- there is a page 0 among these
abbrev pub HasFirst : List Numbered → Type 0
HasFirst rs = (page : Page) × Contains rs (0, page)

first_is : (h : Head) (rs : List Numbered) → FirstIsZero h rs → HasFirst rs
first_is h [] first = absurd first
first_is h (r ∷ rs) first = (r.1, (0, omega arith, ap (λ (k : ℕ). (k, r.1)) first.0))

pub level_first : (bytes : List ℕ) (c : Contents) → read_level bytes ≡ Ok c → HasFirst c.pages
level_first bytes c e = first_is c.head c.pages (level_pages bytes c e).first
