-- The head of a level file is written.
use Rattle.std.proofs.Common.{◌≡◌, ℕ, ◌<◌, List, [], length, refl, sym, ap, subst, ◌∙◌, arith, Bool, IsTrue, Some, Result, Ok, Err, OnOk}
use Rattle.nb_gather.proofs.Common.{File, Files, with_bytes, World, AppendLeft, AppendsBytes, IsTimely, Passes, Changes, Only, Remade, bytes_others, remade_step, remade_begun, with_file-same, LevelHead, head_of, head_then, run_bytes, runs_of, LevelWriting, IsHeaded, Reads, IsTornFile, HasTaken, complete, incomplete, level_front, IsEmpty, IsMade, IsUnfinished, total}
use Rattle.nb_host.specs.Files.{bytes_of}
use Rattle.nb_gather.proofs.AppendLaws.{append_torn, appended, torn_unfinished}
use Rattle.nb_gather.proofs.UnfinishedLaws.{AreFit}

-- an empty file is torn from whatever is written into it
empty_torn : IsTornFile [] (Some [])
empty_torn = record { torn = []; there = refl; is = record { no_longer = omega arith; each = λ i low. absurd (omega (arith, low)) } }

-- the head alone
no_runs : (head : LevelHead) → level_front head (complete (runs_of [])) ≡ head_then 102 (head_of head) []
unfolding run_bytes runs_of complete
no_runs head = refl

no_fit : (head : LevelHead) → AreFit head.page_size (complete (runs_of []))
unfolding runs_of complete
no_fit head = tt

no_total : total (complete (runs_of [])) < 4294967296
unfolding runs_of complete
no_total = omega arith

-- what a crash leaves of the head
head_torn : (head : LevelHead) (n : ℕ) (b c : File) → n ≡ 0 → b ≡ Some [] → AppendLeft n (head_then 102 (head_of head) []) b c → IsTornFile (level_front head (complete (runs_of []))) c
head_torn head n b c none empty left =
    subst (λ (x : List ℕ). IsTornFile x c) (sym (no_runs head)) (append_torn [] (head_then 102 (head_of head) []) n b c none (subst (IsTornFile []) (sym empty) empty_torn) left)

module _ (head : LevelHead) (name : List ℕ) (tells : Bool) (old new : World) (told : IsTrue tells) (made : IsMade old name) where
  none : length (bytes_of (old.files name)) ≡ 0
  none = ap (λ (f : File). length (bytes_of f)) made.reads

  -- the head is written, also where that fails
  pub head_left : {T E : Type 0} (result : Result T E) → IsTimely old → IsHeaded (head_of head) → AppendsBytes tells result old new name (head_then 102 (head_of head) []) → new.said ≡ old.said → Passes old new
      → Changes old new (Only name) (Remade old name IsUnfinished)
  head_left result timely is appends silent time =
      remade_step old old new name IsUnfinished IsEmpty IsUnfinished (AppendLeft (length (bytes_of (old.files name))) (head_then 102 (head_of head) [])) (remade_begun old (Only name) name IsUnfinished timely) time appends.left
      (bytes_others tells result old new name (head_then 102 (head_of head) []) told appends) silent made.only (λ c unfinished. unfinished)
      (λ c d empty left. torn_unfinished head (complete (runs_of [])) d is (no_fit head) no_total (head_torn head _ c d none empty left))

  -- and so the file reads, also where that fails
  pub head_reads : {T E : Type 0} (result : Result T E) → IsHeaded (head_of head) → AppendsBytes tells result old new name (head_then 102 (head_of head) []) → IsUnfinished (new.files name)
  head_reads result is appends =
      torn_unfinished head (complete (runs_of [])) (new.files name) is (no_fit head) no_total
      (head_torn head _ (old.files name) (new.files name) none made.reads (appended result old.files new.files name (head_then 102 (head_of head) []) (appends.files told)))

  -- no page was taken
  pub head_taken : {T E : Type 0} (result : Result T E) (file : LevelWriting) → file.name ≡ name → file.head ≡ head → file.run.count ≡ 0 → file.written ≡ 0 → AppendsBytes tells result old new name (head_then 102 (head_of head) []) → OnOk result (HasTaken new file [])
  unfolding runs_of incomplete
  head_taken (Err e) file named headed no_run no_page appends = tt
  head_taken (Ok x) file named headed no_run no_page appends =
      let reads : new.files name ≡ Some (head_then 102 (head_of head) []) =
      ap (λ (f : Files). f name) (appends.files told) ∙ with_file-same old.files name _ ∙ ap (λ (f : File). with_bytes f (head_then 102 (head_of head) [])) made.reads in
      let stands : Reads new name (level_front head (complete (runs_of []))) = record {
        reads = reads ∙ ap Some (sym (no_runs head));
        torn = λ c now. let from = appends.left.now c now in head_torn head _ from.0 c none (made.only from.0 from.1) from.2;
      } in
      record {
        stands = subst (λ (n : List ℕ). Reads new n (level_front file.head (complete (runs_of [])))) (sym named) (subst (λ (h : LevelHead). Reads new name (level_front h (complete (runs_of [])))) (sym headed) stands);
        waits = no_run;
        counted = no_page;
      }
