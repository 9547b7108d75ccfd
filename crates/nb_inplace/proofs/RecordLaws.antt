-- The records of a level file are written, one after another.
use Rattle.std.proofs.Common.{◌≡◌, ℕ, suc, ◌+◌, ◌*◌, ◌<◌, ◌≤◌, List, [], ◌∷◌, ◌++◌, length, refl, sym, ap, subst, ◌∙◌, arith, append_assoc, Bool, IsTrue, Ok, Err, Result, max, Contains}
use Rattle.nb_inplace.proofs.Common.{append-nil, most_pages, File, bytes_of, World, IsStill, WritesPage, Fault, Refused, Device, Memory, BadLevel, Changes, Only, Moved, moved_begun, moved_still, moved_joined, Page, Numbered, behind, NextSays, Rises, Reading, still_to_come, Overwrites, overwrites_none, overwrites_joined, IsTaken, KeepsHalf, pages_with, ok_same, err_not_ok}
use Rattle.nb_host.specs.Moments.{IsTimely, Passes}
use Rattle.nb_change.proofs.CallLaws.{page_alone}
use Rattle.nb_level.specs.declared.item.Item.{Item}
use Rattle.nb_level.specs.declared.item.Item.TheVariants.{PageAt, End}
use Rattle.nb_chain.proofs.PageLaws.{gives_there}
use Rattle.nb_inplace.proofs.FileLaws.{keeps_record}

module _ (name : List ℕ) (size : ℕ) (records : List Numbered) where
  abbrev Kept : (old new : World) → Type 0
  Kept old new = Changes old new (Only name) (Moved old name (KeepsHalf size records))

  -- before the first call
  pub half_none : (old : World) → IsTimely old → Kept old old
  half_none old timely = moved_begun old (Only name) name (KeepsHalf size records) timely (λ b was image first half. half)

  -- one run of calls after another
  pub half_joined : (old mid new : World) → Kept old mid → Kept mid new → Kept old new
  half_joined old mid new first second =
      moved_joined old mid new name (KeepsHalf size records) (KeepsHalf size records) (KeepsHalf size records) first second (λ b c was by. by) (λ b c d was left one two image page half. two image page (one image page half))

  -- and then a call that changes no file
  pub half_still : (old mid new : World) → Kept old mid → IsTimely mid → IsStill mid new → new.said ≡ mid.said → Passes mid new → Kept old new
  half_still old mid new so_far timely still silent time = half_joined old mid new so_far (moved_still mid new (Only name) name (KeepsHalf size records) timely still silent time (λ b was image first half. half))

-- a record is written, also where that fails
pub half_record : {T E : Type 0} (name : List ℕ) (tells : Bool) (result : Result T E) (old new : World) (n : ℕ) (page : Page) (records : List Numbered) → IsTrue tells → 1 ≤ n → n < most_pages → 0 < length page → Contains records (n, page) → IsTimely old
    → WritesPage tells result old new name (n * length page) page → new.said ≡ old.said → Passes old new → Changes old new (Only name) (Moved old name (KeepsHalf (length page) records))
half_record name tells result old new n page records told some below wide there timely writes silent time =
    page_alone tells result old new name (n * length page) page (KeepsHalf (length page) records) told timely writes silent time (λ b c was next. keeps_record n page records b c some below wide there next)

-- how many pages the file has then
pages_more : (rs : List Numbered) (r : Numbered) (count : ℕ) → pages_with (rs ++ r ∷ []) count ≡ max (pages_with rs count) (r.0 + 1)
pages_more [] r count = refl
pages_more (q ∷ rs) r count = pages_more rs r (max count (q.0 + 1))

-- a page, and what is still to come after it
behind_ok : (r : Numbered) (rest : List Numbered) (more : Result (List Numbered) ℕ) → behind (r ∷ []) more ≡ Ok rest → (others : List Numbered) × (more ≡ Ok others) × (rest ≡ r ∷ others)
behind_ok r rest (Ok more) e = (more, refl, sym (ok_same (r ∷ more) rest (Ok (r ∷ more)) refl e))
behind_ok r rest (Err at) e = absurd (err_not_ok at rest (Err at) refl e)

within : (done more : List Numbered) (r : Numbered) → Contains (done ++ r ∷ more) r
within [] more r = (0, omega arith, refl)
within (x ∷ xs) more r = let found = within xs more r in (suc found.0, omega (arith, found.1), found.2)

-- The records that are written, those that are still to come, and how many pages the file has so far.
pub record SoFar (size : ℕ) (bytes : List ℕ) (reader : Reading) (records : List Numbered) (before after : File) (first last : Page) (start count : ℕ) : Type 0 where
  pub done : List Numbered
  pub rest : List Numbered
  pub all : records ≡ done ++ rest
  pub coming : still_to_come bytes reader ≡ Ok rest
  pub over : Overwrites size done before after first last
  pub counted : count ≡ pages_with done start

pub none_written : (size : ℕ) (bytes : List ℕ) (reader : Reading) (records : List Numbered) (file : File) (first : Page) (start : ℕ) → still_to_come bytes reader ≡ Ok records → SoFar size bytes reader records file file first first start start
none_written size bytes reader records file first start coming = record { done = []; rest = records; all = refl; coming = coming; over = overwrites_none size file first; counted = refl }

module _ (size : ℕ) (reader : Reading) (records : List Numbered) (tells : Bool) (told : IsTrue tells) (file now : File) (there : now ≡ file) (a b : File) (p q : Page) (start count : ℕ) (so_far : SoFar size (bytes_of file) reader records a b p q start count) where
  -- The next page that is read
  module _ (next : Reading) (item : Item) (n : ℕ) (page : Page) (is : item ≡ PageAt n) (says : NextSays tells now reader next page (Ok item)) where
    comes : (others : List Numbered) × (still_to_come (bytes_of file) next ≡ Ok others) × (so_far.rest ≡ (n, page) ∷ others)
    comes = behind_ok (n, page) so_far.rest (still_to_come (bytes_of file) next) (sym (gives_there file now reader next item page n tells is told says there) ∙ so_far.coming)

    -- is a record,
    pub is_record : Contains records (n, page)
    is_record = subst (λ (rs : List Numbered). Contains rs (n, page)) (sym (so_far.all ∙ ap (λ (rs : List Numbered). so_far.done ++ rs) comes.2)) (within so_far.done comes.0 (n, page))

    -- and is written.
    pub one_written : (r : Page) (read done : File) (more : ℕ) → read ≡ b → length page ≡ size → Overwrites (length page) ((n, page) ∷ []) read done q r → more ≡ max count (n + 1) → SoFar size (bytes_of file) next records a done p r start more
    one_written r read done more still long over counts = record {
      done = so_far.done ++ (n, page) ∷ [];
      rest = comes.0;
      all = so_far.all ∙ ap (λ (rs : List Numbered). so_far.done ++ rs) comes.2 ∙ sym (append_assoc so_far.done ((n, page) ∷ []) comes.0);
      coming = comes.1;
      over = overwrites_joined size so_far.done ((n, page) ∷ []) a b done p q r so_far.over
          (subst (λ (k : ℕ). Overwrites k ((n, page) ∷ []) b done q r) long (subst (λ (f : File). Overwrites (length page) ((n, page) ∷ []) f done q r) still over));
      counted = counts ∙ ap (λ (k : ℕ). max k (n + 1)) so_far.counted ∙ sym (pages_more so_far.done (n, page) start);
    }

  -- At the end all are.
  pub all_written : (next : Reading) (item : Item) (n : ℕ) (page : Page) (read : File) → item ≡ End n → NextSays tells now reader next page (Ok item) → read ≡ b → (count ≡ pages_with records start) × Overwrites size records a read p q
  all_written next item n page read is says still =
      let ends : NextSays tells now reader next page (Ok (End n)) = subst (λ (i : Item). NextSays tells now reader next page (Ok i)) is says in
      let none : so_far.rest ≡ [] = ok_same so_far.rest [] (still_to_come (bytes_of file) reader) so_far.coming (subst (λ (f : File). still_to_come (bytes_of f) reader ≡ Ok []) there (ends.2 told)) in
      let all : records ≡ so_far.done = so_far.all ∙ ap (λ (rs : List Numbered). so_far.done ++ rs) none ∙ append-nil so_far.done in (
        so_far.counted ∙ ap (λ (rs : List Numbered). pages_with rs start) (sym all),
        subst (λ (f : File). Overwrites size records a f p q) (sym still) (subst (λ (rs : List Numbered). Overwrites size rs a b p q) (sym all) so_far.over),
      )

  -- A reader that fails met a fault of the device.
  pub reader_stops : (T : Type 0) (P : T → Type 0) (next : Reading) (page : Page) (fault : Fault) → NextSays tells now reader next page (Err fault) → IsTaken (Err fault) P
  reader_stops T P next page (Refused (BadLevel name at)) says =
      absurd (err_not_ok at so_far.rest (still_to_come (bytes_of file) reader) (subst (λ (f : File). still_to_come (bytes_of f) reader ≡ Err at) there (says.2 told)) so_far.coming)
  reader_stops T P next page (Refused other) says = absurd says
  reader_stops T P next page Device says = tt
  reader_stops T P next page Memory says = absurd says

-- the number of a record is that of a page
pub number_low : (old new : Reading) (item : Item) (n : ℕ) → item ≡ PageAt n → Rises old new (Ok item) → n < most_pages
number_low old new item n is rises = (subst (λ (i : Item). Rises old new (Ok i)) is rises).1
