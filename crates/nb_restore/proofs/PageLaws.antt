-- A page of level 0, as it is read.
use Rattle.std.proofs.Common.{◌≡◌, ℕ, ◌*◌, ◌<◌, List, length, take, drop, ap, subst, ◌∙◌, Bool, true, false, Some}
use Rattle.nb_restore.proofs.Common.{File, bytes_of, ReadsPage, Page, page_at, joined, IsOfSize, page-joined}

module _ (size : ℕ) (ps : List Page) (number : ℕ) (below : number < length ps) (sizes : IsOfSize size ps) where
  -- the page that was read
  read_is : (file : File) (page : Page) → file ≡ Some (joined ps) → page ≡ take size (drop (number * size) (bytes_of file)) → page ≡ page_at ps number
  read_is file page there read = read ∙ ap (λ (f : File). take size (drop (number * size) (bytes_of f))) there ∙ page-joined size number ps sizes below

  pub read_whole : (file : File) (page after : Page) (b : Bool) → file ≡ Some (joined ps) → length page ≡ size → b ≡ true → ReadsPage file (number * length page) page after b → after ≡ page_at ps number
  read_whole file page after true there long all read = read_is file after there (subst (λ k. after ≡ take k (drop (number * k) (bytes_of file))) long read.1)
  read_whole file page after false there long all read = cc
