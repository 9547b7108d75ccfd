-- The level files of a chain are ready to be read again.
use Rattle.std.proofs.Common.{◌≡◌, ℕ, suc, ◌+◌, ◌<◌, List, [], ◌∷◌, ◌++◌, length, drop, get_or, refl, sym, ap, subst, ◌∙◌, arith, append_assoc, Bool, IsTrue, Ok, Err}
use Rattle.nb_restore.proofs.Common.{append-nil, drop-cons, File, Files, bytes_of, Fault, Refused, Device, Memory, Numbered, read_level, Link, StartSays, Reading, still_to_come, AreHeaded, IsSource, AreSources, IsReady, AreReady, AreOfPages, IsGiven, with_head-is, some_same}
use Rattle.nb_level.specs.Heads.{head_of}
use Rattle.nb_restore.proofs.HeadLaws.{level-headed}

-- a reader that has begun to read such a file
pub source_ready : (files : Files) (target name : List ℕ) (size : ℕ) (link : Link) (reader : Reading) (tells : Bool) → IsTrue tells → IsSource files target name size link → StartSays tells (files name) name (Ok reader) → IsReady files target size link reader
source_ready files target name size link reader tells told source says =
    let found = says.1 told in
    let bytes : found.0 ≡ source.bytes = some_same found.0 source.bytes (sym found.1 ∙ source.there) in
    let reads = with_head-is reader.version (head_of reader.head) (still_to_come found.0 reader) source.contents (sym found.2 ∙ ap read_level bytes ∙ source.read) in
    record {
      apart = λ same. source.apart (sym says.0 ∙ same);
      pages = ap (λ (n : List ℕ). still_to_come (bytes_of (files n)) reader) says.0 ∙ ap (λ (f : File). still_to_come (bytes_of f) reader) found.1 ∙ reads.0 ∙ ap Ok (sym source.pages);
      sized = source.sized;
      headed = subst (λ (rs : List Numbered). AreHeaded size rs) (sym source.pages) (subst (λ k. AreHeaded k source.contents.pages) source.same (level-headed source.bytes source.contents source.read));
    }

-- the readers that were begun, and the files that are still to come
pub record Started (files : Files) (target : List ℕ) (size : ℕ) (links : List Link) (more : List (List ℕ)) (readers : List Reading) : Type 0 where
  pub done : List Link
  pub rest : List Link
  pub all : links ≡ done ++ rest
  pub ready : AreReady files target size done readers
  pub coming : AreSources files target more size rest

pub started_none : (files : Files) (target : List ℕ) (size : ℕ) (links : List Link) (more : List (List ℕ)) (readers : List Reading) → readers ≡ [] → AreSources files target more size links → Started files target size links more readers
started_none files target size links more readers none sources = record { done = []; rest = links; all = refl; ready = subst (λ (rs : List Reading). AreReady files target size [] rs) (sym none) tt; coming = sources }

ready-append : (files : Files) (target : List ℕ) (size : ℕ) (ls : List Link) (rs : List Reading) (l : Link) (r : Reading) → AreReady files target size ls rs → IsReady files target size l r → AreReady files target size (ls ++ l ∷ []) (rs ++ r ∷ [])
ready-append files target size [] [] l r front one = (one, tt)
ready-append files target size [] (q ∷ rs) l r front one = absurd front
ready-append files target size (m ∷ ls) [] l r front one = absurd front
ready-append files target size (m ∷ ls) (q ∷ rs) l r front one = (front.0, ready-append files target size ls rs l r front.1 one)

-- the file that comes next
record NextSource (files : Files) (target name : List ℕ) (size : ℕ) (others : List (List ℕ)) (rest : List Link) : Type 0 where
  link : Link
  behind : List Link
  is : rest ≡ link ∷ behind
  source : IsSource files target name size link
  coming : AreSources files target others size behind

next_source : (files : Files) (target name : List ℕ) (size : ℕ) (others : List (List ℕ)) (rest : List Link) → AreSources files target (name ∷ others) size rest → NextSource files target name size others rest
next_source files target name size others [] sources = absurd sources
next_source files target name size others (l ∷ ls) sources = record { link = l; behind = ls; is = refl; source = sources.0; coming = sources.1 }

module _ (files now : Files) (target : List ℕ) (size : ℕ) (links : List Link) (name : List ℕ) (more others : List (List ℕ)) (readers : List Reading) (started : Started files target size links more readers)
    (left : more ≡ name ∷ others) (same : now ≡ files) where
  abbrev next : NextSource files target name size others started.rest
  next = next_source files target name size others started.rest (subst (λ (ns : List (List ℕ)). AreSources files target ns size started.rest) left started.coming)

  there : IsSource now target name size next.link
  there = subst (λ (f : Files). IsSource f target name size next.link) (sym same) next.source

  -- it is begun
  pub started_more : (reader : Reading) (all : List Reading) → all ≡ readers ++ reader ∷ [] → ((link : Link) → IsSource now target name size link → IsReady now target size link reader) → Started files target size links others all
  started_more reader all is begins = record {
    done = started.done ++ next.link ∷ [];
    rest = next.behind;
    all = started.all ∙ ap (λ (ls : List Link). started.done ++ ls) next.is ∙ sym (append_assoc started.done (next.link ∷ []) next.behind);
    ready = subst (λ (rs : List Reading). AreReady files target size (started.done ++ next.link ∷ []) rs) (sym is)
        (ready-append files target size started.done readers next.link reader started.ready (subst (λ (f : Files). IsReady f target size next.link reader) same (begins next.link there)));
    coming = next.coming;
  }

  -- or the device fails, or there is no memory
  pub started_fails : (S T : Type 0) (P : Link → S → Type 0) (Q : T → Type 0) (fault : Fault) → ((link : Link) → IsSource now target name size link → IsGiven {T = S} (Err fault) (P link)) → IsGiven {T = T} (Err fault) Q
  started_fails S T P Q (Refused refusal) fails = fails next.link there
  started_fails S T P Q Device fails = tt
  started_fails S T P Q Memory fails = tt

-- all were begun
pub started_all : (files : Files) (target : List ℕ) (size : ℕ) (links : List Link) (more : List (List ℕ)) (readers : List Reading) → more ≡ [] → Started files target size links more readers → AreReady files target size links readers
started_all files target size links more readers none started = by started.rest started.all (subst (λ (ns : List (List ℕ)). AreSources files target ns size started.rest) none started.coming)
  where
    by : (rest : List Link) → links ≡ started.done ++ rest → AreSources files target [] size rest → AreReady files target size links readers
    by [] all sources = subst (λ (ls : List Link). AreReady files target size ls readers) (sym (all ∙ append-nil started.done)) started.ready
    by (l ∷ ls) all sources = absurd sources

-- the name in place k, and those after it
pub names_from : (names : List (List ℕ)) (k : ℕ) (name : List ℕ) → k < length names → name ≡ get_or names k name → drop k names ≡ name ∷ drop (k + 1) names
names_from names k name inside is = drop-cons names k name inside ∙ ap (λ n. n ∷ drop (suc k) names) (sym is) ∙ ap (λ i. name ∷ drop i names) (let e : suc k ≡ k + 1 = omega arith in e)

-- one reader more of pages of that size
pub of_pages_more : (size : ℕ) (readers all : List Reading) (reader : Reading) → all ≡ readers ++ reader ∷ [] → AreOfPages size readers → reader.head.page_size ≡ size → AreOfPages size all
of_pages_more size readers all reader is front one = subst (λ (rs : List Reading). AreOfPages size rs) (sym is) (by readers front)
  where
    by : (rs : List Reading) → AreOfPages size rs → AreOfPages size (rs ++ reader ∷ [])
    by [] h = (one, tt)
    by (r ∷ rs) h = (h.0, by rs h.1)
