-- A line of backups, each of which goes on from the one before, and what the files of such a line hold.
use Rattle.std.specs.Prelude.{◌+◌, length, ◌<◌, ◌≤◌, ◌||◌, ◌==◌, ℕ, IsTrue, ◌≡◌, List, [], ◌∷◌, ◌++◌, Some, true}
use Rattle.std.specs.List.{AllByRecursion}
use Rattle.nb_fields.specs.Bytes.{is_zeros}
use Rattle.nb_fields.specs.Places.{most_pages}
use Rattle.nb_host.specs.Files.{Files}
use Rattle.nb_model.specs.Image.{Image, image_size}
use Rattle.nb_model.specs.Account.{Ask, Kept}
use Rattle.nb_model.specs.Levels.{IsHead, head_for, file_of, joined, taken, numbered_from}
use Rattle.nb_model.specs.Follows.{Follows}
use Rattle.nb_model.specs.Sound.{IsOfSize, IsSoundImage}
use Rattle.nb_model.specs.Stands.{IsBegun}
use Rattle.nb_model.specs.Restoring.{Link}

-- q names r as the backup that it goes on from, and its image follows that of r
pub record IsNext (r q : Kept) : Type 0 where
  pub ask : Ask
  pub is : q.ask ≡ Some ask
  pub guid : ask.previous ≡ r.guid
  pub scn : ask.previous_scn ≡ r.scn
  pub follows : Follows r.image r.scn q.image

-- each of these goes on from the one before
abbrev pub IsLine : Kept → List Kept → Type 0
IsLine r [] = Unit {0}
IsLine r (q ∷ qs) = IsNext r q × IsLine q qs

-- the last of a line
abbrev pub last_in : Kept → List Kept → Kept
last_in r [] = r
last_in r (q ∷ qs) = last_in q qs

-- all pages are zeros
abbrev pub AreZeroPages : Image → Type 0
AreZeroPages = AllByRecursion (λ page. is_zeros page ≡ true)

-- what a file of the first backup holds, with these pages after its own
unfoldable pub first_file : Kept → (behind : Image) → Link
first_file r behind = record { guid = r.guid; scn = r.scn; size = image_size r.image; pages = numbered_from 0 (r.image ++ behind) }

-- what the files of the next backups hold: the pages since the backup before
unfoldable pub next_files : Kept → List Kept → List Link
next_files r [] = []
next_files r (q ∷ qs) = record { guid = q.guid; scn = q.scn; size = image_size q.image; pages = taken r.scn q.image } ∷ next_files q qs

-- The backup q of level k goes on from r, and its own file has that version.
pub record IsKeptNext (k version : ℕ) (r q : Kept) (ask : Ask) : Type 0 where
  pub known : IsTrue (version == 101 || version == 102)
  pub asked : q.ask ≡ Some ask
  pub level : ask.level ≡ k
  pub some : 1 ≤ k
  pub guid : ask.previous ≡ r.guid
  pub scn : ask.previous_scn ≡ r.scn
  pub later : r.scn < q.scn
  pub head : IsHead (head_for q ask)
  pub whole : IsSoundImage q.image
  pub begun : IsBegun q
  pub follows : Follows r.image r.scn q.image

-- the file of that name is the file of q, which goes on from r
pub record HoldsNext (files : Files) (k : ℕ) (r : Kept) (name : List ℕ) (q : Kept) : Type 0 where
  pub version : ℕ
  pub ask : Ask
  pub is : files name ≡ Some (file_of version q)
  pub next : IsKeptNext k version r q ask

-- the files of these names, in places k and on of a chain, are those of backups that go on from r
abbrev pub HoldLine : (files : Files) (k : ℕ) (r : Kept) (names : List (List ℕ)) → List Kept → Type 0
HoldLine files k r [] [] = Unit {0}
HoldLine files k r (name ∷ names) [] = ⊥
HoldLine files k r [] (q ∷ qs) = ⊥
HoldLine files k r (name ∷ names) (q ∷ qs) = HoldsNext files k r name q × HoldLine files (k + 1) q names qs

-- the file of that name is a copy of r, with pages of zeros after at most
pub record HoldsFirst (files : Files) (r : Kept) (zeros : Image) (name : List ℕ) : Type 0 where
  pub is : files name ≡ Some (joined (r.image ++ zeros))
  pub zero : AreZeroPages zeros
  pub sizes : IsOfSize (image_size r.image) zeros
  pub most : length (r.image ++ zeros) ≤ most_pages
  pub whole : IsSoundImage r.image
  pub begun : IsBegun r
