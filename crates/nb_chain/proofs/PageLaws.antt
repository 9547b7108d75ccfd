-- Reading the pages of a level file one by one.
use Rattle.std.proofs.Common.{◌≡◌, ℕ, ◌+◌, ◌≤◌, List, [], ◌∷◌, ◌++◌, length, refl, sym, ap, subst, ◌∙◌, arith, length-append, Bool, IsTrue, Ok}
use Rattle.nb_chain.proofs.Common.{File, bytes_of, Numbered, behind, Reading, still_to_come, Mark, noted, all_noted}
use Rattle.nb_level.specs.Answers.{NextSays}
use Rattle.nb_level.specs.declared.item.Item.{Item}
use Rattle.nb_level.specs.declared.item.Item.TheVariants.{PageAt}
use Rattle.nb_level.proofs.ReadingLaws.{behind-behind, behind-none}

-- one page more of those that were still to come
pub pages_more : (file : File) (first now next : Reading) (pages : List Numbered) (page : Numbered) → still_to_come (bytes_of file) first ≡ behind pages (still_to_come (bytes_of file) now)
    → still_to_come (bytes_of file) now ≡ behind (page ∷ []) (still_to_come (bytes_of file) next) → still_to_come (bytes_of file) first ≡ behind (pages ++ page ∷ []) (still_to_come (bytes_of file) next)
pages_more file first now next pages page so_far gives = so_far ∙ ap (behind pages) gives ∙ behind-behind pages (page ∷ []) (still_to_come (bytes_of file) next)

-- so far these pages were read, of those that were still to come, and noted
pub record SoFar (file : File) (first now : Reading) (old new : List Mark) (before after : ℕ) : Type 0 where
  pub pages : List Numbered
  pub left : still_to_come (bytes_of file) first ≡ behind pages (still_to_come (bytes_of file) now)
  pub marks : new ≡ all_noted pages old
  pub reads : after ≤ before + length pages

noted_none : (marks : List Mark) → all_noted [] marks ≡ marks
unfolding all_noted
noted_none marks = refl

noted_more : (rs : List Numbered) (r : Numbered) (marks : List Mark) → all_noted (rs ++ r ∷ []) marks ≡ noted (all_noted rs marks) r
unfolding all_noted
noted_more [] r marks = refl
noted_more (q ∷ rs) r marks = noted_more rs r (noted marks q)

pub so_far_none : (file : File) (r : Reading) (marks : List Mark) (reads : ℕ) → SoFar file r r marks marks reads reads
so_far_none file r marks reads = record { pages = []; left = sym (behind-none (still_to_come (bytes_of file) r)); marks = sym (noted_none marks); reads = omega arith }

module _ (file : File) (first now : Reading) (old new : List Mark) (before after : ℕ) (so_far : SoFar file first now old new before after) where
  -- one page more
  pub so_far_more : (next : Reading) (n : ℕ) (page : List ℕ) (after' : ℕ) (new' : List Mark) → still_to_come (bytes_of file) now ≡ behind ((n, page) ∷ []) (still_to_come (bytes_of file) next)
      → new' ≡ noted new (n, page) → after' ≤ after + 1 → SoFar file first next old new' before after'
  so_far_more next n page after' new' gives marks reads = record {
    pages = so_far.pages ++ (n, page) ∷ [];
    left = pages_more file first now next so_far.pages (n, page) so_far.left gives;
    marks = marks ∙ ap (λ (m : List Mark). noted m (n, page)) so_far.marks ∙ sym (noted_more so_far.pages (n, page) old);
    reads = omega (arith, so_far.reads, reads, length-append so_far.pages ((n, page) ∷ []));
  }

-- what the next page says of the file as it was
pub gives_there : (file file' : File) (now next : Reading) (item : Item) (page : List ℕ) (n : ℕ) (tells : Bool) → item ≡ PageAt n → IsTrue tells → NextSays tells file' now next page (Ok item) → file' ≡ file
    → still_to_come (bytes_of file) now ≡ behind ((n, page) ∷ []) (still_to_come (bytes_of file) next)
gives_there file file' now next item page n tells is told says same =
    subst (λ (f : File). still_to_come (bytes_of f) now ≡ behind ((n, page) ∷ []) (still_to_come (bytes_of f) next)) same
    (subst (λ (i : Item). NextSays tells file' now next page (Ok i)) is says told)
