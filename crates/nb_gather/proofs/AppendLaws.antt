-- A level file goes on by a run that is appended.
use Rattle.std.proofs.Common.{◌≡◌, ◌≢◌, ◌⊎◌, inl, inr, ⊎_elim, ℕ, ◌+◌, ◌<◌, List, [], ◌∷◌, ◌++◌, length, take, refl, sym, ap, subst, ◌∙◌, arith, length-append, append_assoc, Some, Result, Ok, Err, MatchResult}
use Rattle.nb_gather.proofs.Common.{append-nil, File, Files, with_file, with_bytes, World, AppendLeft, IsTimely, Changes, ChangedLeft, Only, Remade, started, goes_on, with_file-same, with_file-other, LevelHead, head_of, TwoLeft, IsWhileAdding, AddsTwo, Stretch, head_then, joined, run_bytes, total, IsUnfinished, Waiting, Holds, IsHeaded, Reads, IsTornFile, level_front}
use Rattle.nb_fields.specs.Bytes.{bytes_of as number_bytes}
use Rattle.nb_host.specs.Files.{bytes_of}
use Rattle.nb_gather.proofs.TornLaws.{torn_of, torn_is, torn_self, torn_front, torn_longer, torn_more}
use Rattle.nb_gather.proofs.UnfinishedLaws.{AreFit}
use Rattle.nb_gather.proofs.NoLevelLaws.{head_more, no_backup}

-- bytes that were appended are lost or torn
pub append_torn : (bs as_ : List ℕ) (n : ℕ) (b c : File) → n ≡ length bs → IsTornFile bs b → AppendLeft n as_ b c → IsTornFile (bs ++ as_) c
append_torn bs as_ n b c long is (inl same) = record { torn = is.torn; there = same ∙ is.there; is = torn_is (bs ++ as_) is.torn (torn_longer bs as_ is.torn (torn_of bs is.torn is.is)) }
append_torn bs as_ n b c long is (inr (torn, more, whole, grown)) = record {
  torn = is.torn ++ torn;
  there = grown ∙ ap (λ (f : File). Some (bytes_of f ++ torn)) is.there;
  is = torn_is (bs ++ as_) (is.torn ++ torn) (torn_more bs as_ is.torn torn (sym (ap (λ (f : File). length (bytes_of f)) is.there) ∙ whole ∙ long) (torn_of bs is.torn is.is) (torn_of as_ torn more));
}

-- What reads after bytes that were appended, also where that fails, is what a crash may leave of them.
pub appended : {T E : Type 0} (result : Result T E) (old new : Files) (name bytes : List ℕ)
    → MatchResult result (λ x. new ≡ with_file old name (with_bytes (old name) bytes)) (λ e. (new ≡ old) ⊎ ((k : ℕ) × (new ≡ with_file old name (with_bytes (old name) (take k bytes)))))
    → AppendLeft (length (bytes_of (old name))) bytes (old name) (new name)
appended (Ok x) old new name bytes is = inr (bytes, torn_is bytes bytes (torn_self bytes), refl, ap (λ (f : Files). f name) is ∙ with_file-same old name _)
appended (Err e) old new name bytes is =
    ⊎_elim (λ same. inl (ap (λ (f : Files). f name) same)) (λ some. inr (take some.0 bytes, torn_is bytes (take some.0 bytes) (torn_front some.0 bytes), refl, ap (λ (f : Files). f name) some.1 ∙ with_file-same old name _)) is

-- a file that reads so
pub whole_torn : (bs : List ℕ) (c : File) → c ≡ Some bs → IsTornFile bs c
whole_torn bs c is = record { torn = bs; there = is; is = torn_is bs bs (torn_self bs) }

-- both of two pieces
pub two_torn : (bs first second : List ℕ) (n : ℕ) (b c : File) → n ≡ length bs → IsTornFile bs b → TwoLeft n first second b c → IsTornFile (bs ++ (first ++ second)) c
two_torn bs first second n b c long is (mid, one, two) =
    subst (λ (x : List ℕ). IsTornFile x c) (append_assoc bs first second)
    (append_torn (bs ++ first) second (n + length first) mid c (omega (arith, long, length-append bs first)) (append_torn bs first n b mid long is one) two)

module _ (name : List ℕ) where
  -- the other files read as they did
  pub two_others : {T E : Type 0} (result : Result T E) (old new : World) (first second : List ℕ) → AddsTwo result old new name first second → (m : List ℕ) → m ≢ name → new.files m ≡ old.files m
  two_others (Ok x) old new first second adds m other = ap (λ (f : Files). f m) adds.files ∙ with_file-other old.files name _ m other
  two_others (Err e) old new first second adds m other = ⊎_elim (λ same. ap (λ (f : Files). f m) same) (λ some. ap (λ (f : Files). f m) some.1 ∙ with_file-other old.files name _ m other) adds.files

  -- two pieces are appended, also where that fails
  pub two_alone : {T E : Type 0} (result : Result T E) (old new : World) (bs first second : List ℕ) (made : File → Type 0) → IsTimely old → Reads old name bs → AddsTwo result old new name first second → new.said ≡ old.said
      → ((c : File) → IsTornFile (bs ++ (first ++ second)) c → made c) → Changes old new (Only name) (Remade old name made)
  two_alone result old new bs first second made timely stands adds silent by = record {
    moments = goes_on old old new (ChangedLeft old (Only name) (Remade old name made)) (IsWhileAdding old name first second)
        (started old (ChangedLeft old (Only name) (Remade old name made)) timely (λ files said is. record { has = inl (is.left name); others = λ m other. is.left m; output = is.output })) adds.time
        (λ files said here. record {
          has = ⊎_elim (λ back. inl (inl back)) (λ now. inr (left (files name) now.0 now.1 now.2)) here.file;
          others = here.others;
          output = here.output;
        });
    now = λ files all. ⊎_elim (λ back. inl (inl (adds.left.back (files name) back))) (λ now. let from = adds.left.now (files name) now in inr (left (files name) from.0 from.1 from.2)) (all name);
    others = adds.left.others;
    others_read = two_others result old new first second adds;
    said = silent;
  }
    where
      left : (c b : File) → old.now name b → TwoLeft (length (bytes_of (old.files name))) first second b c → made c
      left c b now two = by c (two_torn bs first second (length (bytes_of (old.files name))) b c (ap (λ (f : File). length (bytes_of f)) stands.reads) (stands.torn b now) two)

  -- and where it doesn't, they stand there
  pub two_read : {T E : Type 0} (x : T) (old new : World) (bs first second : List ℕ) → Reads old name bs → AddsTwo {E = E} (Ok x) old new name first second → Reads new name (bs ++ (first ++ second))
  two_read x old new bs first second stands adds = record {
    reads = ap (λ (f : Files). f name) adds.files ∙ with_file-same old.files name _ ∙ ap (λ (f : File). with_bytes f (first ++ second)) stands.reads;
    torn = λ c now. let from = adds.left.now c now in two_torn bs first second (length (bytes_of (old.files name))) from.0 c (ap (λ (f : File). length (bytes_of f)) stands.reads) (stands.torn from.0 from.1) from.2;
  }

-- the bytes of runs with one more
runs_more : (ss : List Stretch) (s : Stretch) → run_bytes (ss ++ s ∷ []) ≡ run_bytes ss ++ ((number_bytes 4 s.first ++ number_bytes 4 (length s.pages)) ++ joined s.pages)
unfolding run_bytes number_bytes
runs_more [] s = ap (λ (x : List ℕ). (number_bytes 4 s.first ++ number_bytes 4 (length s.pages)) ++ x) (append-nil (joined s.pages))
runs_more (t ∷ ss) s =
    let more : List ℕ = (number_bytes 4 s.first ++ number_bytes 4 (length s.pages)) ++ joined s.pages in
    ap (λ (x : List ℕ). number_bytes 4 t.first ++ (number_bytes 4 (length t.pages) ++ x)) (ap (λ (x : List ℕ). joined t.pages ++ x) (runs_more ss s) ∙ sym (append_assoc (joined t.pages) (run_bytes ss) more))

pub front_more : (head : LevelHead) (ss : List Stretch) (s : Stretch) → level_front head ss ++ ((number_bytes 4 s.first ++ number_bytes 4 (length s.pages)) ++ joined s.pages) ≡ level_front head (ss ++ s ∷ [])
front_more head ss s = head_more 102 (head_of head) (run_bytes ss) _ ∙ ap (head_then 102 (head_of head)) (sym (runs_more ss s))

-- the run that waits is what is appended
held_pieces : (run : Waiting) (s : Stretch) → Holds run s → ((number_bytes 4 run.first ++ number_bytes 4 run.count) ++ run.bytes) ≡ ((number_bytes 4 s.first ++ number_bytes 4 (length s.pages)) ++ joined s.pages)
held_pieces run s holds =
    ap (λ n. (number_bytes 4 n ++ number_bytes 4 run.count) ++ run.bytes) holds.first ∙ ap (λ n. (number_bytes 4 s.first ++ number_bytes 4 n) ++ run.bytes) holds.count
    ∙ ap (λ (x : List ℕ). (number_bytes 4 s.first ++ number_bytes 4 (length s.pages)) ++ x) holds.bytes

pub held_front : (head : LevelHead) (ss : List Stretch) (run : Waiting) (s : Stretch) → Holds run s → level_front head ss ++ ((number_bytes 4 run.first ++ number_bytes 4 run.count) ++ run.bytes) ≡ level_front head (ss ++ s ∷ [])
held_front head ss run s holds = ap (λ (x : List ℕ). level_front head ss ++ x) (held_pieces run s holds) ∙ front_more head ss s

-- what is torn from a head and runs is unfinished
pub torn_unfinished : (head : LevelHead) (ss : List Stretch) (c : File) → IsHeaded (head_of head) → AreFit head.page_size ss → total ss < 4294967296 → IsTornFile (level_front head ss) c → IsUnfinished c
torn_unfinished head ss c is fit few torn = subst IsUnfinished (sym torn.there) (inr (no_backup (head_of head) is ss fit few torn.torn (torn_of (level_front head ss) torn.torn torn.is)))

module _ (name : List ℕ) (head : LevelHead) (ss : List Stretch) (run : Waiting) (s : Stretch) (holds : Holds run s) where
  -- the run that waits is appended
  pub run_read : {T E : Type 0} (x : T) (old new : World) → Reads old name (level_front head ss) → AddsTwo {E = E} (Ok x) old new name (number_bytes 4 run.first ++ number_bytes 4 run.count) run.bytes → Reads new name (level_front head (ss ++ s ∷ []))
  run_read x old new stands adds = subst (λ (b : List ℕ). Reads new name b) (held_front head ss run s holds) (two_read name x old new (level_front head ss) _ _ stands adds)

  pub run_left : {T E : Type 0} (result : Result T E) (old new : World) → IsTimely old → Reads old name (level_front head ss) → IsHeaded (head_of head) → AreFit head.page_size (ss ++ s ∷ []) → total (ss ++ s ∷ []) < 4294967296
      → AddsTwo result old new name (number_bytes 4 run.first ++ number_bytes 4 run.count) run.bytes → new.said ≡ old.said → Changes old new (Only name) (Remade old name IsUnfinished)
  run_left result old new timely stands is fit few adds silent =
      two_alone name result old new (level_front head ss) _ _ IsUnfinished timely stands adds silent
      (λ c torn. torn_unfinished head (ss ++ s ∷ []) c is fit few (subst (λ (b : List ℕ). IsTornFile b c) (held_front head ss run s holds) torn))

  -- and so the file reads, also where that fails
  pub run_reads : {T E : Type 0} (result : Result T E) (old new : World) → Reads old name (level_front head ss) → IsHeaded (head_of head) → AreFit head.page_size (ss ++ s ∷ []) → total (ss ++ s ∷ []) < 4294967296
      → AddsTwo result old new name (number_bytes 4 run.first ++ number_bytes 4 run.count) run.bytes → IsUnfinished (new.files name)
  run_reads result old new stands is fit few adds =
      torn_unfinished head (ss ++ s ∷ []) (new.files name) is fit few (subst (λ (b : List ℕ). IsTornFile b (new.files name)) (held_front head ss run s holds)
      (append_torn (level_front head ss) _ (length (bytes_of (old.files name))) (old.files name) (new.files name) (ap (λ (f : File). length (bytes_of f)) stands.reads) (whole_torn (level_front head ss) (old.files name) stands.reads)
      (appended result old.files new.files name _ adds.files)))
