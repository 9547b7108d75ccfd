-- The turns of a backup: the file alone is touched, and then the difference file of the database.
use Rattle.std.proofs.Common.{◌≡◌, ◌≢◌, ◌<◌, ◌⊎◌, inl, inr, ⊎_elim, ℕ, List, [], ◌∷◌, ◌++◌, length, drop, refl, sym, ap, subst, ◌∙◌, arith, length-append, drop_at, None, Some, Result, Ok, Err, OnOk, Option}
use Rattle.nb_copy.proofs.Common.{stalled_state, File, Files, with_file, World, Leaves, LeavesAll, IsStill, IsTimely, Passes, Fault, Device, Changes, Only, Reached, Remade, GaveNothing, left_before, still_alone, with_file-other, left_with, weakened, composed_within, Base, close_backup, backup_slot, put_slot, drafted, HasItsEntry, Image, file_of, count_in, Backing, Seen, next_time, delta_name, Stroke, Trail, StandsIn, StandsOn, after_stroke, OfFiles, Strikes, after_strokes, Held, IsOpen, name_of, open_beside, WhereEnded, unless_by, still_struck, unless_none, write_cause, Tries, sure_of, IsKept, IsUnfinishedOr, FileCopy, Pages, file_name, file_count, file_next, file_written, whole_file, whole_count, IsFileCopying, IsSameFile, Backed, IsBackingUp, OfBackup, GaveTimeAtMost, CloseLeft, Closes, BackupTurn, asked_scn, earlier_scn, page_reads, on_ok}
use Rattle.nb_change.proofs.SettledLaws.{durable_is, durable_other}
use Rattle.nb_change.proofs.ChangesLaws.{weaker_has}
use Rattle.nb_change.proofs.ReachedLaws.{reached_front, strokes_composed}
use Rattle.nb_base.proofs.TouchLaws.{narrowed, touched as touches_only}
use Rattle.nb_base.specs.Takes.{StrikesIn, StrikesOn}
use Rattle.nb_base.specs.Touches.{WrittenIn}
use Rattle.nb_alloc.proofs.WantLaws.{wanted_as, wanted_so}
use Rattle.nb_alloc.specs.Tries.{StopsShort, WhereMemory}
use Rattle.nb_copy.specs.Closing.{ClosesShort}
use Rattle.nb_state.specs.declared.turns.Progress.{Progress}
use Rattle.nb_state.specs.declared.turns.Progress.TheVariants.{More, Finished}
use Rattle.nb_engine.proofs.LinkLaws.{write_low}
use Rattle.nb_model.specs.Making.{kept_of}
use Rattle.nb_copy.proofs.LevelLaws.{below_all}
use Rattle.nb_copy.specs.declared.file_copy.FileCopy.TheVariants.{Level}
use Rattle.nb_alloc.proofs.ReadyLaws.{entry_ready}

-- the time that was given is the one that may have been given
first_time : List ℕ → ℕ
first_time [] = 0
first_time (x ∷ xs) = x

pub given_time : (old new : List ℕ) (given time : ℕ) → new ≡ old ++ given ∷ [] → (new ≡ old) ⊎ (new ≡ old ++ time ∷ []) → given ≡ time
unfolding first_time
given_time old new given time is =
    ⊎_elim (λ none. absurd (omega (arith, ap length (sym none ∙ is), length-append old (given ∷ []))))
    (λ one. ap first_time (sym (drop_at old (given ∷ []) (length old) refl) ∙ ap (drop (length old)) (sym is ∙ one) ∙ drop_at old (time ∷ []) (length old) refl))

-- the strokes of a close
abbrev pub row_strokes : Backing → (time : ℕ) → Image → List Stroke
row_strokes b time image = (put_slot b.page b.slot (backup_slot b.ask.level b.scn time b.guid b.name) (drafted image)).strokes

pub close_strokes : (s : Seen) (b : Backing) (base : Base) (time : ℕ) → base ≡ s.base → time ≡ next_time s.given → row_strokes b time base.image ≡ (close_backup s b).strokes
unfolding close_backup
close_strokes s b base time same at = ap (λ (x : Base). row_strokes b time x.image) same ∙ ap (λ (n : ℕ). row_strokes b n s.base.image) at

ended_ok : {T : Type 0} (result : Result T Fault) (P : Type 0) → WhereEnded result P → OnOk result P
ended_ok (Ok value) P is = is
ended_ok (Err fault) P is = tt

-- The close: the clock, and then the row.
module _ (old mid : World) (a : Held) (t : Trail) (is : IsOpen old a t) (timely : IsTimely old) (still : IsStill old mid) (silent : mid.said ≡ old.said) (passes : Passes old mid) (guids : mid.guids ≡ old.guids) where
  -- the clock touches no file
  waited : StrikesIn old mid a.files.state (name_of a) t []
  waited = still_alone old mid (WrittenIn a.files.state (name_of a)) (StandsIn (name_of a) t) timely still silent passes is.files.left

  -- the clock failed
  pub close_waits : (time : ℕ) (xs : List Stroke) → Closes (Err Device) old mid a a t time xs
  close_waits time xs = record {
    left = weaker_has old mid (WrittenIn a.files.state (name_of a)) _ _ waited (reached_front after_stroke (StandsIn (name_of a)) t [] xs);
    opened = tt;
    times = tt;
    guids = guids;
    sure = tt;
    stops = tt;
  }

  -- the row is written
  pub close_row : (result : Result (Unit {0}) Fault) (new : World) (b : Held) (time p : ℕ) (xs : List Stroke) → mid.times ≡ old.times ++ time ∷ [] → HasItsEntry t.base.image p → p < length t.base.image
      → Tries result mid new a b t (write_cause t.base.image p) xs → Closes result old new a b t time xs
  close_row result new b time p xs gave entry low tries = record {
    left = strokes_composed after_stroke (StandsIn (name_of a)) (WrittenIn a.files.state (name_of a)) old mid new t [] xs waited (subst (λ (ss : List Stroke). StrikesIn mid new a.files.state (name_of a) t ss) made tries.makes.left);
    opened = ended_ok result _ (subst (λ (ss : List Stroke). WhereEnded result (IsOpen new b (after_strokes t ss))) made tries.makes.opened);
    times = on_ok result (tries.makes.gave.times ∙ gave);
    guids = tries.makes.gave.guids ∙ guids;
    sure = sure_of result (write_cause t.base.image p) none tries.test;
    stops = wanted_so result (StopsShort mid new a b t (unless_by (write_cause t.base.image p) xs)) (StopsShort old new a b t xs) short tries.stops;
  }
    where
      none : write_cause t.base.image p ≡ None
      none = sym (write_low t.base.image p low) ∙ entry_ready t.base.image p entry

      made : unless_by (write_cause t.base.image p) xs ≡ xs
      made = unless_none (write_cause t.base.image p) xs none

      short : StopsShort mid new a b t (unless_by (write_cause t.base.image p) xs) → StopsShort old new a b t xs
      short stops = record {
        made = stops.made;
        next = stops.next;
        rest = stops.rest;
        whole = stops.whole ∙ made;
        left = still_struck old mid new a t stops.made is timely still silent passes stops.left;
        opened = stops.opened;
      }

-- The file of a backup of a database that is open.
module _ (old : World) (a : Held) (t : Trail) (is : IsOpen old a t) (name whole : List ℕ) (apart : OfFiles (name_of a) name → ⊥) (reads : Leaves old name (old.files name)) where
  -- what a crash leaves of the two files while the file alone is touched
  own : (P : File → File → Type 0) → ((files : Files) → LeavesAll old files → P (files (name_of a)) (files (delta_name (name_of a)))) → (files : Files) → ((m : List ℕ) → m ≢ name → Leaves old m (files m))
      → P (files (name_of a)) (files (delta_name (name_of a)))
  own P left files others =
      subst (λ (f : File). P f (files (delta_name (name_of a)))) (with_file-other files name (old.files name) (name_of a) (λ e. apart (inl (sym e))))
      (subst (P (with_file files name (old.files name) (name_of a))) (with_file-other files name (old.files name) (delta_name (name_of a)) (λ e. apart (inr (sym e))))
      (left (with_file files name (old.files name)) (left_with old name files (old.files name) others reads)))

  pub stands : (files : Files) → ((m : List ℕ) → m ≢ name → Leaves old m (files m)) → StandsIn (name_of a) t files
  stands = own (StandsOn (name_of a) t) is.files.left

  module _ (mid : World) (file : Changes old mid (Only name) (Remade old name (IsUnfinishedOr whole))) where
    -- the database stays open
    pub open_other : a.files.state ≡ stalled_state → IsOpen mid a t
    open_other stalled =
        open_beside old mid a t is (file.others_read (name_of a) (λ e. apart (inl (sym e)))) (file.others_read (delta_name (name_of a)) (λ e. apart (inr (sym e))))
        (λ P left files all. own P left files (λ m other. left_before old mid _ file.others m (files m) other (all m)))

    -- a turn that touched the file alone
    pub file_left : (xs : List Stroke) → Changes old mid (OfBackup name (name_of a)) (CloseLeft old name whole (name_of a) t xs)
    file_left xs =
        weakened old mid (Only name) (OfBackup name (name_of a)) (Remade old name (IsUnfinishedOr whole)) (CloseLeft old name whole (name_of a) t xs) file (λ m one. inl one)
        (λ files others has. inl (has, stands files others))

    -- and one that made strokes then
    pub close_left : (new : World) (xs : List Stroke) → IsKept mid name whole → StrikesOn mid new (Only (delta_name (name_of a))) (name_of a) t xs → Changes old new (OfBackup name (name_of a)) (CloseLeft old name whole (name_of a) t xs)
    close_left new xs kept struck =
        composed_within old mid new (Only name) (Only (delta_name (name_of a))) (OfBackup name (name_of a)) (Remade old name (IsUnfinishedOr whole)) (Reached after_stroke (StandsIn (name_of a)) t xs) (CloseLeft old name whole (name_of a) t xs) file struck
        (λ m one. inl one) (λ m one. inr one) (λ files others has. inl (has, stands files others)) (λ files others has. inr (durable_is mid name (Some whole) kept.durable (files name) (others name (λ e. apart (inr e))), has))

    -- the file stays
    pub kept_still : (new : World) (xs : List Stroke) → IsKept mid name whole → StrikesOn mid new (Only (delta_name (name_of a))) (name_of a) t xs → IsKept new name whole
    kept_still new xs kept struck = record {
      durable = durable_other mid new (Only (delta_name (name_of a))) _ name (Some whole) struck (λ e. apart (inr e)) kept.durable;
      reads = struck.others_read name (λ e. apart (inr e)) ∙ kept.reads;
    }

-- the file of a copier, by its name
file_named : (old mid : World) (f g : FileCopy) (name : List ℕ) (frozen : Image) → f ≡ g → file_name g ≡ name → Changes old mid (Only (file_name f)) (Remade old (file_name f) (IsUnfinishedOr (whole_file f frozen)))
    → Changes old mid (Only name) (Remade old name (IsUnfinishedOr (whole_file g frozen)))
file_named old mid f g name frozen same named changes =
    subst (λ (n : List ℕ). Changes old mid (Only n) (Remade old n (IsUnfinishedOr (whole_file g frozen)))) named
    (subst (λ (x : FileCopy). Changes old mid (Only (file_name x)) (Remade old (file_name x) (IsUnfinishedOr (whole_file x frozen)))) same changes)

kept_named : (w : World) (f g : FileCopy) (name : List ℕ) (frozen : Image) → f ≡ g → file_name g ≡ name → IsKept w (file_name f) (whole_file f frozen) → IsKept w name (whole_file g frozen)
kept_named w f g name frozen same named kept =
    subst (λ (n : List ℕ). IsKept w n (whole_file g frozen)) named (subst (λ (x : FileCopy). IsKept w (file_name x) (whole_file x frozen)) same kept)

-- the time is asked for after the turn of the file
asked_behind : (old mid new : World) (time : ℕ) → GaveNothing old mid → GaveTimeAtMost old new time → GaveTimeAtMost mid new time
asked_behind old mid new time gave given = subst (λ (ts : List ℕ). (new.times ≡ ts) ⊎ (new.times ≡ ts ++ time ∷ [])) (sym gave.times) given

pub asked_before : (old mid new : World) (time : ℕ) → GaveNothing old mid → GaveTimeAtMost mid new time → GaveTimeAtMost old new time
asked_before old mid new time gave given = subst (λ (ts : List ℕ). (new.times ≡ ts) ⊎ (new.times ≡ ts ++ time ∷ [])) gave.times given

-- where all pages were dealt with, all that the file has were taken
written_all : (w : World) (f : FileCopy) (frozen : Image) → IsFileCopying w f frozen → file_next f ≡ file_count f → file_written f ≡ whole_count f frozen
written_all w (Pages copy) frozen is all = all ∙ sym is.of.long
written_all w (Level copy) frozen is all =
    let next : copy.next ≡ length frozen = all ∙ sym is.of.long in
    let begun = is.begun (omega (arith, next, is.of.least)) in
    begun.has.counted ∙ ap length (below_all copy frozen is.of copy.next (omega (arith, next)))

-- A backup that goes on.
goes_further : (w : World) (copier later : Backed) (frozen : Image) (before : FileCopy) → before ≡ copier.file → later.backing ≡ copier.backing → IsSameFile before later.file frozen → file_name copier.file ≡ copier.backing.name
    → whole_file copier.file frozen ≡ file_of 102 (kept_of copier.backing frozen) → whole_count copier.file frozen ≡ count_in (kept_of copier.backing frozen) copier.backing.ask → IsFileCopying w later.file frozen → IsBackingUp w later frozen
goes_further w copier later frozen before filed backed same name whole count goes = record {
  name = same.name ∙ ap file_name filed ∙ name ∙ sym (ap (λ (b : Backing). b.name) backed);
  whole = same.whole ∙ ap (λ (f : FileCopy). whole_file f frozen) filed ∙ whole ∙ sym (ap (λ (b : Backing). file_of 102 (kept_of b frozen)) backed);
  count = same.pages ∙ ap (λ (f : FileCopy). whole_count f frozen) filed ∙ count ∙ sym (ap (λ (b : Backing). count_in (kept_of b frozen) b.ask) backed);
  goes = goes;
}

-- The file of a copier is the one that the model has.
pub its_goes : (w : World) (copier : Backed) (f : FileCopy) (frozen : Image) → f ≡ copier.file → IsBackingUp w copier frozen → IsFileCopying w f frozen
its_goes w copier f frozen filed backing = subst (λ (x : FileCopy). IsFileCopying w x frozen) (sym filed) backing.goes

pub its_reads : (copier : Backed) (f : FileCopy) (frozen : Image) → f ≡ copier.file → earlier_scn f ≡ asked_scn copier.backing.ask → page_reads (earlier_scn f) frozen (file_next f) ≡ page_reads (asked_scn copier.backing.ask) frozen (file_next copier.file)
its_reads copier f frozen filed asked =
    ap (λ (e : Option ℕ). page_reads e frozen (file_next f)) asked ∙ ap (λ (x : FileCopy). page_reads (asked_scn copier.backing.ask) frozen (file_next x)) filed

-- no page is left of the same file
pub its_end : (copier : Backed) (f : FileCopy) → f ≡ copier.file → file_next f ≡ file_count f → file_next copier.file ≡ file_count copier.file
its_end copier f filed all = subst (λ (x : FileCopy). file_next x ≡ file_count x) filed all

-- what a close leaves where memory ran out is what its turn leaves
closed_short : {P Q : Type 0} (fault : Fault) → WhereMemory {T = Unit {0}} (Err fault) P → (P → Q) → WhereMemory {T = Progress} (Err fault) Q
closed_short {P} {Q} fault is so = wanted_as (Unit {0}) Progress fault Q (wanted_so {T = Unit {0}} (Err fault) P Q so is)

-- A turn, after that of its file.
module _ (old mid : World) (a b : Held) (copier : Backed) (t : Trail) (is : IsOpen old a t) (stalled : a.files.state ≡ stalled_state) (apart : OfFiles (name_of a) copier.backing.name → ⊥) (reads : Leaves old copier.backing.name (old.files copier.backing.name)) (same : b ≡ a)
    (backing : IsBackingUp old copier t.base.frozen) (f : FileCopy) (filed : f ≡ copier.file)
    (touched : IsFileCopying old f t.base.frozen → Changes old mid (Only (file_name f)) (Remade old (file_name f) (IsUnfinishedOr (whole_file f t.base.frozen)))) (gave : GaveNothing old mid) where
  abbrev whole : List ℕ
  whole = whole_file copier.file t.base.frozen

  goes : IsFileCopying old f t.base.frozen
  goes = its_goes old copier f t.base.frozen filed backing

  file : Changes old mid (Only copier.backing.name) (Remade old copier.backing.name (IsUnfinishedOr whole))
  file = file_named old mid f copier.file copier.backing.name t.base.frozen filed backing.name (touched goes)

  pub mid_open : IsOpen mid b t
  mid_open = subst (λ (h : Held). IsOpen mid h t) (sym same) (open_other old a t is copier.backing.name whole apart reads mid file stalled)

  pub turn_failed : (later : Backed) (time : ℕ) (xs : List Stroke) → BackupTurn (Err Device) old mid a b copier later t time xs
  turn_failed later time xs = record { left = file_left old a t is copier.backing.name whole apart reads mid file xs; alone = λ some. file; answer = tt; guids = gave.guids; sure = tt; stops = tt }

  pub turn_more : (later : Backed) (time : ℕ) (xs : List Stroke) → later.backing ≡ copier.backing → IsSameFile f later.file t.base.frozen → (IsFileCopying old f t.base.frozen → IsFileCopying mid later.file t.base.frozen)
      → BackupTurn (Ok More) old mid a b copier later t time xs
  turn_more later time xs backed kept onward = record {
    left = file_left old a t is copier.backing.name whole apart reads mid file xs;
    alone = λ some. file;
    answer = record {
      left = file;
      same = same;
      opened = mid_open;
      gave = gave;
      goes = goes_further mid copier later t.base.frozen f filed backed kept backing.name backing.whole backing.count (onward goes);
    };
    guids = gave.guids;
    sure = tt;
    stops = tt;
  }

  -- The file is whole, and the backup is closed.
  module _ (s : Seen) (new : World) (d : Held) (later : Backed) (finished : IsFileCopying old f t.base.frozen → IsKept mid (file_name f) (whole_file f t.base.frozen)) (all : file_next f ≡ file_count f) (its : Backing) (backed : its ≡ copier.backing)
      (entry : HasItsEntry t.base.image copier.backing.page) (below : copier.backing.page < length t.base.image) (given : GaveTimeAtMost old new (next_time s.given)) where
    abbrev time : ℕ
    time = next_time s.given

    abbrev xs : List Stroke
    xs = (close_backup s copier.backing).strokes

    kept : IsKept mid copier.backing.name whole
    kept = kept_named mid f copier.file copier.backing.name t.base.frozen filed backing.name (finished goes)

    -- what the close does
    abbrev pub DoesClose : Result (Unit {0}) Fault → Type 0
    DoesClose result = IsOpen mid b t → HasItsEntry t.base.image its.page → its.page < length t.base.image → GaveTimeAtMost mid new time → Closes result mid new b d t time (close_backup s its).strokes

    closes : (result : Result (Unit {0}) Fault) → DoesClose result → Closes result mid new b d t time xs
    closes result does =
        subst (λ (x : Backing). Closes result mid new b d t time (close_backup s x).strokes) backed
        (does mid_open (subst (λ (x : Backing). HasItsEntry t.base.image x.page) (sym backed) entry) (subst (λ (x : Backing). x.page < length t.base.image) (sym backed) below) (asked_behind old mid new time gave given))

    -- in the stalled state strokes touch the difference file alone
    frozen_struck : (ys : List Stroke) → StrikesIn mid new b.files.state (name_of b) t ys → StrikesOn mid new (Only (delta_name (name_of a))) (name_of a) t ys
    frozen_struck ys struck = subst (λ (n : ℕ). StrikesIn mid new n (name_of a) t ys) stalled (subst (λ (h : Held). StrikesIn mid new h.files.state (name_of h) t ys) same struck)

    struck : (result : Result (Unit {0}) Fault) → DoesClose result → StrikesOn mid new (Only (delta_name (name_of a))) (name_of a) t xs
    struck result does = frozen_struck xs (closes result does).left

    -- and where memory runs out, a prefix of them does
    short : (result : Result (Unit {0}) Fault) → DoesClose result → StopsShort mid new b d t xs → ClosesShort old new a d copier t xs
    short result does stops =
        let narrow = narrowed mid new (OfFiles (name_of a)) (Only (delta_name (name_of a))) _ (subst (λ (h : Held). Strikes mid new (name_of h) t stops.made) same stops.left) (touches_only mid new (Only (delta_name (name_of a))) _ (struck result does)) in
        record {
          made = stops.made;
          next = stops.next;
          rest = stops.rest;
          whole = stops.whole;
          left = close_left old a t is copier.backing.name whole apart reads mid file new stops.made kept narrow;
          opened = stops.opened;
        }

    pub close_failed : (fault : Fault) → DoesClose (Err fault) → BackupTurn (Err fault) old new a d copier later t time xs
    close_failed fault does = record {
      left = close_left old a t is copier.backing.name whole apart reads mid file new xs kept (struck (Err fault) does);
      alone = λ some. absurd (omega (arith, some, its_end copier f filed all));
      answer = tt;
      guids = (closes (Err fault) does).guids ∙ gave.guids;
      sure = (closes (Err fault) does).sure;
      stops = closed_short fault (closes (Err fault) does).stops (short (Err fault) does);
    }

    pub close_finished : DoesClose (Ok tt) → file_written later.file ≡ file_written f → BackupTurn (Ok Finished) old new a d copier later t time xs
    close_finished does taken = record {
      left = close_left old a t is copier.backing.name whole apart reads mid file new xs kept (struck (Ok tt) does);
      alone = λ some. absurd (omega (arith, some, its_end copier f filed all));
      answer = record {
        kept = kept_still old a t is copier.backing.name whole apart reads mid file new xs kept (struck (Ok tt) does);
        opened = (closes (Ok tt) does).opened;
        times = (closes (Ok tt) does).times ∙ ap (λ (ts : List ℕ). ts ++ time ∷ []) gave.times;
        written = taken ∙ written_all old f t.base.frozen goes all ∙ ap (λ (x : FileCopy). whole_count x t.base.frozen) filed ∙ backing.count;
      };
      guids = (closes (Ok tt) does).guids ∙ gave.guids;
      sure = tt;
      stops = tt;
    }
