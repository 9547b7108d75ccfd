-- The pages of a level file, and of the level files, as far as they were written.
use Rattle.std.proofs.Common.{◌≡◌, ◌≢◌, ℕ, List, [], ◌∷◌, ◌++◌, length, refl, sym, ap, subst, ◌∙◌, arith, append_assoc, Bool, IsTrue, Result, Ok, Err}
use Rattle.nb_restore.proofs.Common.{append-nil, File, Files, bytes_of, Fault, Refused, Device, Memory, BadLevel, Page, Numbered, behind, Link, NextSays, Reading, still_to_come, IsDone, Overwrites, OverwritesAll, IsReady, AreReady, AreOfPages, ok_same, err_not_ok, nil_from_length}
use Rattle.std.specs.Iterator.{Yields}
use Rattle.std.specs.Vec.Iter.{into_iter_items, into_iter_len, into_iter_steps}
use Rattle.std.specs.declared.vec.IntoIter.{IntoIter}
use Rattle.nb_level.specs.declared.item.Item.{Item}
use Rattle.nb_level.specs.declared.item.Item.TheVariants.{PageAt, End}
use Rattle.nb_chain.proofs.PageLaws.{gives_there}
use Rattle.nb_restore.proofs.CopiedLaws.{overwrites_none, overwrites_joined, all_none, all_more}

-- whatever is to be done, a fault says the same of it
pub fails_alike : (S T : Type 0) (fault : Fault) (P Q : Type 0) → IsDone {T = S} (Err fault) P → IsDone {T = T} (Err fault) Q
fails_alike S T (Refused refusal) P Q p = p
fails_alike S T Device P Q p = p
fails_alike S T Memory P Q p = p

-- the pages of a level file that were written, and those that are still to come
pub record SoFar (size : ℕ) (bytes : List ℕ) (reader : Reading) (records : List Numbered) (before after : File) (first last : Page) : Type 0 where
  pub done : List Numbered
  pub rest : List Numbered
  pub all : records ≡ done ++ rest
  pub coming : still_to_come bytes reader ≡ Ok rest
  pub over : Overwrites size done before after first last

pub so_far_none : (size : ℕ) (bytes : List ℕ) (reader : Reading) (records : List Numbered) (file : File) (first : Page) → still_to_come bytes reader ≡ Ok records → SoFar size bytes reader records file file first first
so_far_none size bytes reader records file first coming = record { done = []; rest = records; all = refl; coming = coming; over = overwrites_none size file first }

behind_ok : (rs rest : List Numbered) (r : Result (List Numbered) ℕ) → behind rs r ≡ Ok rest → (more : List Numbered) × (r ≡ Ok more) × (rest ≡ rs ++ more)
behind_ok rs rest (Ok more) e = (more, refl, sym (ok_same (rs ++ more) rest (Ok (rs ++ more)) refl e))
behind_ok rs rest (Err at) e = absurd (err_not_ok at rest (Err at) refl e)

-- one page more of them
pub so_far_more : (size : ℕ) (bytes : List ℕ) (reader next : Reading) (records : List Numbered) (n : ℕ) (page : Page) (a b c : File) (p q r : Page) → SoFar size bytes reader records a b p q
    → still_to_come bytes reader ≡ behind ((n, page) ∷ []) (still_to_come bytes next) → Overwrites size ((n, page) ∷ []) b c q r → SoFar size bytes next records a c p r
so_far_more size bytes reader next records n page a b c p q r so_far gives more =
    let found = behind_ok ((n, page) ∷ []) so_far.rest (still_to_come bytes next) (sym gives ∙ so_far.coming) in
    record {
      done = so_far.done ++ (n, page) ∷ [];
      rest = found.0;
      all = so_far.all ∙ ap (λ (rs : List Numbered). so_far.done ++ rs) found.2 ∙ sym (append_assoc so_far.done ((n, page) ∷ []) found.0);
      coming = found.1;
      over = overwrites_joined size so_far.done ((n, page) ∷ []) a b c p q r so_far.over more;
    }

-- none is still to come
pub so_far_all : (size : ℕ) (bytes : List ℕ) (reader : Reading) (records : List Numbered) (a b : File) (p q : Page) → SoFar size bytes reader records a b p q → still_to_come bytes reader ≡ Ok [] → Overwrites size records a b p q
so_far_all size bytes reader records a b p q so_far none =
    let rest : so_far.rest ≡ [] = ok_same so_far.rest [] (still_to_come bytes reader) so_far.coming none in
    subst (λ (rs : List Numbered). Overwrites size rs a b p q) (sym (so_far.all ∙ ap (λ (rs : List Numbered). so_far.done ++ rs) rest ∙ append-nil so_far.done)) so_far.over

-- no place of the file is broken
pub so_far_broken : (size : ℕ) (bytes : List ℕ) (reader : Reading) (records : List Numbered) (at : ℕ) (a b : File) (p q : Page) → SoFar size bytes reader records a b p q → still_to_come bytes reader ≡ Err at → ⊥
so_far_broken size bytes reader records at a b p q so_far broken = err_not_ok at so_far.rest (still_to_come bytes reader) broken so_far.coming

module _ (size : ℕ) (reader : Reading) (records : List Numbered) (tells : Bool) (told : IsTrue tells) (file now : File) (there : now ≡ file) (a b : File) (p q : Page) (so_far : SoFar size (bytes_of file) reader records a b p q) where
  -- the next page is read, and written over
  pub so_far_next : (next : Reading) (item : Item) (n : ℕ) (page r : Page) (read done : File) → item ≡ PageAt n → NextSays tells now reader next page (Ok item) → read ≡ b → length page ≡ size → Overwrites (length page) ((n, page) ∷ []) read done q r
      → SoFar size (bytes_of file) next records a done p r
  so_far_next next item n page r read done is says still long over =
      so_far_more size (bytes_of file) reader next records n page a b done p q r so_far (gives_there file now reader next item page n tells is told says there)
      (subst (λ k. Overwrites k ((n, page) ∷ []) b done q r) long (subst (λ (f : File). Overwrites (length page) ((n, page) ∷ []) f done q r) still over))

  -- a reader that fails met a fault of the device
  pub so_far_fails : (T P : Type 0) (next : Reading) (page : Page) (fault : Fault) → NextSays tells now reader next page (Err fault) → IsDone {T = T} (Err fault) P
  so_far_fails T P next page (Refused (BadLevel name at)) says = so_far_broken size (bytes_of file) reader records at a b p q so_far (subst (λ (f : File). still_to_come (bytes_of f) reader ≡ Err at) there (says.2 told))
  so_far_fails T P next page (Refused other) says = says
  so_far_fails T P next page Device says = tt
  so_far_fails T P next page Memory says = says

  -- and at the end all pages were written
  pub so_far_ends : (next : Reading) (item : Item) (count : ℕ) (page : Page) (read : File) → item ≡ End count → NextSays tells now reader next page (Ok item) → read ≡ b → Overwrites size records a read p q
  so_far_ends next item count page read is says still =
      let ends : NextSays tells now reader next page (Ok (End count)) = subst (λ (i : Item). NextSays tells now reader next page (Ok i)) is says in
      subst (λ (f : File). Overwrites size records a f p q) (sym still)
      (so_far_all size (bytes_of file) reader records a b p q so_far (subst (λ (f : File). still_to_come (bytes_of f) reader ≡ Ok []) there (ends.2 told)))

-- the files that were written, and those that are still to come
pub record AllSoFar (files : Files) (target : List ℕ) (size : ℕ) (links : List Link) (more : List Reading) (before after : File) (first last : Page) : Type 0 where
  pub done : List Link
  pub rest : List Link
  pub all : links ≡ done ++ rest
  pub ready : AreReady files target size rest more
  pub over : OverwritesAll size done before after first last

pub all_so_far_none : (files : Files) (target : List ℕ) (size : ℕ) (links : List Link) (readers more : List Reading) (file : File) (first : Page) → readers ≡ [] ++ more → AreReady files target size links readers
    → AllSoFar files target size links more file file first first
all_so_far_none files target size links readers more file first same ready = record {
  done = [];
  rest = links;
  all = refl;
  ready = subst (λ (rs : List Reading). AreReady files target size links rs) same ready;
  over = all_none size file first;
}

-- the next of them
pub record NextReady (files : Files) (target : List ℕ) (size : ℕ) (rest : List Link) (reader : Reading) (more : List Reading) : Type 0 where
  pub link : Link
  pub others : List Link
  pub is : rest ≡ link ∷ others
  pub ready : IsReady files target size link reader
  pub behind : AreReady files target size others more

pub next_ready : (files : Files) (target : List ℕ) (size : ℕ) (rest : List Link) (reader : Reading) (more : List Reading) → AreReady files target size rest (reader ∷ more) → NextReady files target size rest reader more
next_ready files target size [] reader more ready = absurd ready
next_ready files target size (l ∷ ls) reader more ready = record { link = l; others = ls; is = refl; ready = ready.0; behind = ready.1 }

pub all_so_far_more : (files : Files) (target : List ℕ) (size : ℕ) (links : List Link) (reader : Reading) (more : List Reading) (a b c : File) (p q r : Page) (so_far : AllSoFar files target size links (reader ∷ more) a b p q)
    → Overwrites size (next_ready files target size so_far.rest reader more so_far.ready).link.pages b c q r → AllSoFar files target size links more a c p r
all_so_far_more files target size links reader more a b c p q r so_far over =
    let next = next_ready files target size so_far.rest reader more so_far.ready in
    record {
      done = so_far.done ++ next.link ∷ [];
      rest = next.others;
      all = so_far.all ∙ ap (λ (ls : List Link). so_far.done ++ ls) next.is ∙ sym (append_assoc so_far.done (next.link ∷ []) next.others);
      ready = next.behind;
      over = all_more size so_far.done next.link a b c p q r next.ready.sized so_far.over over;
    }

pub all_so_far_all : (files : Files) (target : List ℕ) (size : ℕ) (links : List Link) (a b : File) (p q : Page) → AllSoFar files target size links [] a b p q → OverwritesAll size links a b p q
all_so_far_all files target size links a b p q so_far = by so_far.rest so_far.all so_far.ready
  where
    by : (rest : List Link) → links ≡ so_far.done ++ rest → AreReady files target size rest [] → OverwritesAll size links a b p q
    by [] all ready = subst (λ (ls : List Link). OverwritesAll size ls a b p q) (sym (all ∙ append-nil so_far.done)) so_far.over
    by (l ∷ ls) all ready = absurd ready

module _ (files now : Files) (target : List ℕ) (size : ℕ) (links : List Link) (reader : Reading) (more : List Reading) (a b : File) (p q : Page)
    (so_far : AllSoFar files target size links (reader ∷ more) a b p q) (others : (m : List ℕ) → m ≢ target → now m ≡ files m) where
  abbrev next : NextReady files target size so_far.rest reader more
  next = next_ready files target size so_far.rest reader more so_far.ready

  coming : still_to_come (bytes_of (now reader.name)) reader ≡ Ok next.link.pages
  coming = ap (λ (f : File). still_to_come (bytes_of f) reader) (others reader.name next.ready.apart) ∙ next.ready.pages

  -- the pages of the next file are written
  pub all_so_far_next : (wide : ℕ) (c : File) (r : Page) → wide ≡ size → ((records : List Numbered) → reader.name ≢ target → still_to_come (bytes_of (now reader.name)) reader ≡ Ok records → Overwrites wide records b c q r)
      → AllSoFar files target size links more a c p r
  all_so_far_next wide c r long over =
      all_so_far_more files target size links reader more a b c p q r so_far (subst (λ k. Overwrites k next.link.pages b c q r) long (over next.link.pages next.ready.apart coming))

  -- or the device fails
  pub all_so_far_fails : (S T : Type 0) (P : List Numbered → Type 0) (Q : Type 0) (fault : Fault)
      → ((records : List Numbered) → reader.name ≢ target → still_to_come (bytes_of (now reader.name)) reader ≡ Ok records → IsDone {T = S} (Err fault) (P records)) → IsDone {T = T} (Err fault) Q
  all_so_far_fails S T P Q fault fails = fails_alike S T fault (P next.link.pages) Q (fails next.link.pages next.ready.apart coming)

-- the readers that were given are a front of all
pub taken_front : {X A : Type 0} (s : IntoIter X A) (xs : List X) (t : IntoIter X A) → Yields into_iter_steps s xs t → into_iter_items s ≡ xs ++ into_iter_items t
taken_front s [] t y = ap into_iter_items y
taken_front s (x ∷ xs) t y = y.1.0 ∙ ap (λ ys. x ∷ ys) (taken_front y.0 xs t y.2)

-- the next of them, and the end
pub next_taken : {X A : Type 0} (all : List X) (s : IntoIter X A) (xs : List X) (t : IntoIter X A) (x : X) (rest : List X) → into_iter_items s ≡ all → Yields into_iter_steps s xs t → into_iter_items t ≡ x ∷ rest → all ≡ xs ++ x ∷ rest
next_taken all s xs t x rest given y gives = sym given ∙ taken_front s xs t y ∙ ap (λ ys. xs ++ ys) gives

counted : {X A : Type 0} (s : IntoIter X A) (xs : List X) (t : IntoIter X A) → into_iter_len s ≡ length (into_iter_items s) → Yields into_iter_steps s xs t → into_iter_len t ≡ length (into_iter_items t)
counted s [] t long y = subst (λ i. into_iter_len i ≡ length (into_iter_items i)) y long
counted s (x ∷ xs) t long y = counted y.0 xs t (let one = ap length y.1.0 in let fewer = y.1.1 in omega (arith, one, fewer, long)) y.2

pub all_taken : {X A : Type 0} (all : List X) (s : IntoIter X A) (xs : List X) (t : IntoIter X A) → into_iter_items s ≡ all → into_iter_len s ≡ length all → Yields into_iter_steps s xs t → into_iter_len t ≡ 0 → all ≡ xs ++ []
all_taken all s xs t given long y none =
    sym given ∙ taken_front s xs t y ∙ ap (λ ys. xs ++ ys) (nil_from_length (into_iter_items t) (sym (counted s xs t (long ∙ ap length (sym given)) y) ∙ none))

-- a reader among readers of pages of that size
pub of_pages_at : (size : ℕ) (front : List Reading) (reader : Reading) (more all : List Reading) → all ≡ front ++ reader ∷ more → AreOfPages size all → reader.head.page_size ≡ size
of_pages_at size front reader more all is are = by front (subst (λ (rs : List Reading). AreOfPages size rs) is are)
  where
    by : (front : List Reading) → AreOfPages size (front ++ reader ∷ more) → reader.head.page_size ≡ size
    by [] h = h.0
    by (x ∷ xs) h = by xs h.1
