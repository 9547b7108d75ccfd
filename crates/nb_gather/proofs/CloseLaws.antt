-- A level file is closed: its last run, and the end after a sync.
use Rattle.std.proofs.Common.{◌≡◌, ◌≢◌, inl, inr, ℕ, suc, ◌<◌, ◌≤◌, List, [], ◌∷◌, ◌++◌, length, refl, sym, ap, subst, ◌∙◌, arith, Bool, IsTrue, Some, Result, Ok, Err, OnOk}
use Rattle.nb_gather.proofs.Common.{leb_tells, append-nil, stamp_of, File, Files, with_bytes, World, AppendLeft, IsDurable, AppendsBytes, Syncs, IsTimely, Passes, Changes, Only, Remade, bytes_others, remade_step, remade_weaker, with_file-same, LevelHead, head_of, AddsTwo, Page, Numbered, Stretch, body_bytes, run_bytes, runs_of, end_bytes, level_bytes, taken_from, total, LevelWriting, Holds, Reads, HasTaken, MayHave, complete, incomplete, level_front, IsUnfinished, IsUnfinishedOr}
use Rattle.nb_fields.specs.Bytes.{bytes_of as number_bytes}
use Rattle.nb_host.specs.Files.{bytes_of}
use Rattle.nb_gather.proofs.AppendLaws.{appended, whole_torn, torn_unfinished, run_read, run_reads, run_left}
use Rattle.nb_gather.proofs.FitLaws.{RunsFit, runs_fit, complete_all, total_runs}
use Rattle.nb_gather.proofs.NoLevelLaws.{head_more, no_backup, end_torn}
use Rattle.nb_gather.proofs.QuietLaws.{renamed, sync_then}
use Rattle.nb_gather.proofs.TornLaws.{Torn, torn_self, torn_of}
use Rattle.nb_gather.proofs.UnfinishedLaws.{AreFit}
use Rattle.nb_gather.proofs.WaitingLaws.{none_waits, one_waits}

-- a page that is taken, and one that isn't
pub taken_one : (number scn : ℕ) (p : Page) → scn < stamp_of p → taken_from number scn (p ∷ []) ≡ (number, p) ∷ []
unfolding taken_from
taken_one number scn p above = elim (leb_tells (suc scn) (stamp_of p)) [ inl w ↦ rw (w.0, taken_from) refl | inr w ↦ absurd (omega (arith, w.1, above)) ]

pub taken_none : (number scn : ℕ) (p : Page) → stamp_of p ≤ scn → taken_from number scn (p ∷ []) ≡ []
unfolding taken_from
taken_none number scn p low = elim (leb_tells (suc scn) (stamp_of p)) [ inl w ↦ absurd (omega (arith, w.1, low)) | inr w ↦ rw (w.0, taken_from) refl ]

-- The last run is appended, where one waits.
module _ (old : World) (file : LevelWriting) (rs : List Numbered) (has : HasTaken old file rs) (may : MayHave file.head rs) where
  fit : RunsFit file.head rs
  fit = runs_fit file.head rs may

  -- none does
  pub all_there : file.run.count ≡ 0 → Reads old file.name (level_front file.head (runs_of rs))
  all_there none =
      let all : complete (runs_of rs) ≡ runs_of rs =
      sym (append-nil (complete (runs_of rs))) ∙ ap (λ (x : List Stretch). complete (runs_of rs) ++ x) (sym (none_waits file.run file.head rs fit has.waits none)) ∙ complete_all (runs_of rs) in
      subst (λ (ss : List Stretch). Reads old file.name (level_front file.head ss)) all has.stands

  -- until it is closed it reads as unfinished
  pub still_unfinished : IsUnfinished (old.files file.name)
  still_unfinished = torn_unfinished file.head (complete (runs_of rs)) (old.files file.name) may.formed fit.done fit.few_done (whole_torn (level_front file.head (complete (runs_of rs))) (old.files file.name) has.stands.reads)

  module _ (some : file.run.count ≢ 0) where
    last : (w : Stretch) × (incomplete (runs_of rs) ≡ w ∷ []) × Holds file.run w
    last = one_waits file.run file.head rs fit has.waits some

    all_runs : complete (runs_of rs) ++ last.0 ∷ [] ≡ runs_of rs
    all_runs = ap (λ (x : List Stretch). complete (runs_of rs) ++ x) (sym last.1) ∙ complete_all (runs_of rs)

    pub last_left : {T E : Type 0} (result : Result T E) (new : World) → IsTimely old → AddsTwo result old new file.name (number_bytes 4 file.run.first ++ number_bytes 4 file.run.count) file.run.bytes → new.said ≡ old.said
        → Changes old new (Only file.name) (Remade old file.name IsUnfinished)
    last_left result new timely adds silent =
        run_left file.name file.head (complete (runs_of rs)) file.run last.0 last.2 result old new timely has.stands may.formed (subst (AreFit file.head.page_size) (sym all_runs) fit.all)
        (subst (λ (ss : List Stretch). total ss < 4294967296) (sym all_runs) fit.few) adds silent

    pub last_reads : {T E : Type 0} (result : Result T E) (new : World) → AddsTwo result old new file.name (number_bytes 4 file.run.first ++ number_bytes 4 file.run.count) file.run.bytes → IsUnfinished (new.files file.name)
    last_reads result new adds =
        run_reads file.name file.head (complete (runs_of rs)) file.run last.0 last.2 result old new has.stands may.formed (subst (AreFit file.head.page_size) (sym all_runs) fit.all)
        (subst (λ (ss : List Stretch). total ss < 4294967296) (sym all_runs) fit.few) adds

    pub last_read : {T E : Type 0} (result : Result T E) (new : World) → AddsTwo result old new file.name (number_bytes 4 file.run.first ++ number_bytes 4 file.run.count) file.run.bytes → OnOk result (Reads new file.name (level_front file.head (runs_of rs)))
    last_read (Ok x) new adds = subst (λ (ss : List Stretch). Reads new file.name (level_front file.head ss)) all_runs (run_read file.name file.head (complete (runs_of rs)) file.run last.0 last.2 x old new has.stands adds)
    last_read (Err e) new adds = tt

-- The end after a sync.
module _ (name : List ℕ) (head : LevelHead) (rs : List Numbered) (may : MayHave head rs) where
  abbrev front : List ℕ
  front = level_front head (runs_of rs)

  abbrev whole : List ℕ
  whole = level_bytes 102 (head_of head) rs

  whole_is : whole ≡ front ++ end_bytes (length rs)
  unfolding level_bytes body_bytes
  whole_is = sym (head_more 102 (head_of head) (run_bytes (runs_of rs)) (end_bytes (length rs)))

  runs : RunsFit head rs
  runs = runs_fit head rs may

  front_unfinished : IsUnfinished (Some front)
  front_unfinished = inr (no_backup (head_of head) may.formed (runs_of rs) runs.all runs.few front (torn_self front))

  -- whatever a crash leaves of the end
  end_left : (n written : ℕ) (b c : File) → written ≡ length rs → b ≡ Some front → AppendLeft n (end_bytes written) b c → IsUnfinishedOr whole c
  end_left n written b c counted is (inl same) = inl (subst IsUnfinished (sym (same ∙ is)) front_unfinished)
  end_left n written b c counted is (inr (torn, from, long, grown)) =
      let total_is : written ≡ total (runs_of rs) = counted ∙ sym (total_runs rs) in
      let there : c ≡ Some (front ++ torn) = grown ∙ ap (λ (f : File). Some (bytes_of f ++ torn)) is in
      elim (end_torn (head_of head) may.formed (runs_of rs) runs.all runs.few torn (subst (λ k. Torn (end_bytes k) torn) total_is (torn_of (end_bytes written) torn from))) [
        | inl same ↦ inr (there ∙ ap (λ (x : List ℕ). Some (front ++ x)) (same ∙ ap end_bytes (total_runs rs)) ∙ ap Some (sym whole_is))
        | inr none ↦ inl (subst IsUnfinished (sym there) (inr none))
      ]

  -- the file reads as its front
  pub front_reads : (w : World) → Reads w name front → IsUnfinished (w.files name)
  front_reads w reads = subst IsUnfinished (sym reads.reads) front_unfinished

  pub more_than : (old new : World) → Changes old new (Only name) (Remade old name IsUnfinished) → Changes old new (Only name) (Remade old name (IsUnfinishedOr whole))
  more_than old new so_far = remade_weaker old new (Only name) name IsUnfinished (IsUnfinishedOr whole) so_far (λ c is. inl is)

  module _ {V G : Type 0} (tells : Bool) (value : V) (old mid there new : World) (told : IsTrue tells) (stands : Reads mid name front) (syncs : Syncs {E = G} tells (Ok value) mid there name) where
    pub end_written : {T E : Type 0} (result : Result T E) (written : ℕ) → written ≡ length rs → Changes old there (Only name) (Remade old name (IsUnfinishedOr whole)) → AppendsBytes tells result there new name (end_bytes written) → new.said ≡ there.said → Passes there new
        → Changes old new (Only name) (Remade old name (IsUnfinishedOr whole))
    end_written result written counted so_far appends silent time =
        remade_step old there new name (IsUnfinishedOr whole) (λ c. c ≡ Some front) (IsUnfinishedOr whole) (AppendLeft (length (bytes_of (there.files name))) (end_bytes written)) so_far time appends.left
        (bytes_others tells result there new name (end_bytes written) told appends) silent (subst (λ (f : File). IsDurable there name f) stands.reads (syncs.durable told)).only (λ c is. is) (λ c d is left. end_left _ written c d counted is left)

    -- and so the file reads, also where that fails
    pub end_or : {T E : Type 0} (result : Result T E) (written : ℕ) → written ≡ length rs → AppendsBytes tells result there new name (end_bytes written) → IsUnfinishedOr whole (new.files name)
    end_or result written counted appends =
        end_left _ written (there.files name) (new.files name) counted (ap (λ (f : Files). f name) syncs.still.files ∙ stands.reads) (appended result there.files new.files name (end_bytes written) (appends.files told))

    pub end_reads : {E : Type 0} (x : Unit {0}) (written : ℕ) → written ≡ length rs → AppendsBytes {E = E} tells (Ok x) there new name (end_bytes written) → new.files name ≡ Some whole
    end_reads x written counted appends =
        let before : there.files name ≡ Some front = ap (λ (f : Files). f name) syncs.still.files ∙ stands.reads in
        ap (λ (f : Files). f name) (appends.files told) ∙ with_file-same there.files name _ ∙ ap (λ (f : File). with_bytes f (end_bytes written)) before ∙ ap (λ n. Some (front ++ end_bytes n)) counted ∙ ap Some (sym whole_is)

-- So is a file of this name that goes by another term within.
module _ (name inner : List ℕ) (named : inner ≡ name) (head : LevelHead) (rs : List Numbered) (may : MayHave head rs) where
  abbrev closing : File → Type 0
  closing = IsUnfinishedOr (level_bytes 102 (head_of head) rs)

  -- the pages are kept
  pub synced_left : {T E : Type 0} (tells : Bool) (result : Result T E) (old mid there : World) → Changes old mid (Only name) (Remade old name IsUnfinished) → Syncs tells result mid there inner → there.said ≡ mid.said → Passes mid there
      → Changes old there (Only inner) (Remade old inner closing)
  synced_left tells result old mid there finished syncs silent time =
      sync_then inner closing tells result old mid there (more_than inner head rs may old mid (renamed old mid name inner IsUnfinished (sym named) finished)) syncs silent time

  -- and the end is written
  module _ {V G : Type 0} (tells : Bool) (value : V) (old mid there new : World) (told : IsTrue tells) (stands : Reads mid name (level_front head (runs_of rs))) (syncs : Syncs {E = G} tells (Ok value) mid there inner) (written : ℕ) (counted : written ≡ length rs) where
    stands_in : Reads mid inner (level_front head (runs_of rs))
    stands_in = subst (λ (n : List ℕ). Reads mid n (level_front head (runs_of rs))) (sym named) stands

    pub ended_left : {T E : Type 0} (result : Result T E) → Changes old mid (Only name) (Remade old name IsUnfinished) → there.said ≡ mid.said → Passes mid there → AppendsBytes tells result there new inner (end_bytes written) → new.said ≡ there.said → Passes there new
        → Changes old new (Only inner) (Remade old inner closing)
    ended_left result finished silent time appends then_silent then_time =
        end_written inner head rs may tells value old mid there new told stands_in syncs result written counted (synced_left tells (Ok value) old mid there finished syncs silent time) appends then_silent then_time

    pub ended_or : {T E : Type 0} (result : Result T E) → AppendsBytes tells result there new inner (end_bytes written) → closing (new.files inner)
    ended_or result appends = end_or inner head rs may tells value old mid there new told stands_in syncs result written counted appends

    pub ended_reads : {E : Type 0} (x : Unit {0}) → AppendsBytes {E = E} tells (Ok x) there new inner (end_bytes written) → new.files inner ≡ Some (level_bytes 102 (head_of head) rs)
    ended_reads x appends = end_reads inner head rs may tells value old mid there new told stands_in syncs x written counted appends
