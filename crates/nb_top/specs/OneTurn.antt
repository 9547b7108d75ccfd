-- Jobs of one turn: what each asks for, does, and leaves half way, and what is promised of all of them.
--
-- Such a job opens no database. It may change one file, and no other: no difference file either. A job that only reads may change none. A new one is
-- a value of `OneTurn`, with what fits it, and a proof that its call serves it.
use Rattle.std.specs.Prelude.{◌≡◌, ◌≢◌, ◌⊎◌, ℕ, ◌≤◌, List, [], ◌∷◌, ◌++◌, length, Bool, true, false, Option, None, Some, Ok}
use Rattle.std.specs.List.{AllByRecursion, list_all}
use Rattle.nb_fields.specs.Free.{is_free_file}
use Rattle.nb_fields.specs.Header.{guid_of, state_of}
use Rattle.nb_fields.specs.States.{normal_state}
use Rattle.nb_host.specs.Files.{File, Files}
use Rattle.nb_host.specs.World.{World}
use Rattle.nb_host.specs.Crash.{Leaves, LeavesAll}
use Rattle.nb_host.specs.Moments.{AtEachMoment}
use Rattle.nb_change.specs.Changes.{Names, NoNames, Only, Other}
use Rattle.nb_change.specs.Gave.{GaveNothing}
use Rattle.nb_page.specs.Free.{is_free_name}
use Rattle.nb_model.specs.declared.job.Deed.{Deed}
use Rattle.nb_model.specs.declared.job.Deed.TheVariants.{Restore, Fixup, Apply, Fold, Plan}
use Rattle.nb_model.specs.Account.{Ask, Kept, Account, base_of}
use Rattle.nb_model.specs.Causes.{is_free_entry}
use Rattle.nb_model.specs.Image.{Image}
use Rattle.nb_model.specs.Jobs.{restore_turn, fixup_turn, apply_turn, account_behind}
use Rattle.nb_model.specs.Levels.{Contents, file_for}
use Rattle.nb_model.specs.Output.{output, status_of}
use Rattle.nb_model.specs.Owner.{entry_in}
use Rattle.nb_model.specs.Restoring.{Link, verdict}
use Rattle.nb_model.specs.Run.{Event, replies_of}
use Rattle.nb_model.specs.Stands.{IsKeptAs, IsSpan, nil}
use Rattle.nb_model.specs.Strokes.{fixed, as_standby}
use Rattle.nb_model.specs.Trail.{ShowsIn}
use Rattle.nb_model.specs.Words.{is_database, is_file}
use Rattle.nb_catalog.specs.Turns.{plan_turn}
use Rattle.nb_fold.specs.Folding.{bytes_for, first_head, folded, last_head}
use Rattle.nb_fold.specs.Verdict.{chained, fold_turn}
use Rattle.nb_gather.specs.Making.{IsUnfinished}
use Rattle.nb_fixup.specs.Fixup.{IsFixable, IsFixed}
use Rattle.nb_inplace.specs.Apply.{IsHalfIn, IsMergedTo}
use Rattle.nb_inplace.specs.Verdict.{IsMergeable}
use Rattle.nb_restore.specs.Kept.{AreKept, last_guid}
use Rattle.nb_restore.specs.Restore.{IsRestoredTo}
use Rattle.nb_session.specs.Stops.{IsSaid}
use Rattle.nb_ended.specs.Numbers.{number_of}
use Rattle.nb_ended.specs.declared.status.Status.{Status}
use Rattle.nb_ended.specs.declared.status.Status.TheVariants.{Device, Memory}
use Rattle.nb_top.specs.Standing.{HoldsKept, StandsFor}

-- A job of one turn.
pub record OneTurn : Type 1 where
  -- the file that it may change, and no other; none, where it only reads
  pub name : Option (List ℕ)
  -- what the account has to know of the files
  pub knows : Account → Type 0
  -- its turn
  pub turn : Account → Event
  -- what a crash may leave half way, while nothing is said
  pub half : Files → Type 0
  -- what stands once the turn has changed its file
  pub done : Files → Type 0
  -- where the files that it takes are of backups whose records are kept,
  pub takes : List Kept → Type 0
  -- this stands then
  pub gives : List Kept → Files → Type 0

-- the files that a job of that name may change
abbrev pub OfName : Option (List ℕ) → Names
OfName None = NoNames
OfName (Some name) = Only name

-- the account after a turn
abbrev pub behind : (name : Option (List ℕ)) → Event → Account → Account
behind None turn account = account
behind (Some name) turn account = account_behind name turn account

-- under the name stands the image that the begin of the backup of that GUID kept, but for what is done to it
pub record ShowsKept (kept : List Kept) (guid : List ℕ) (done : Image → Image) (name : List ℕ) (files : Files) : Type 0 where
  pub backup : Kept
  pub kept_as : IsKeptAs kept guid backup
  pub shows : ShowsIn name (base_of (done backup.image)) files

-- the level file is that of a kept backup, and the standby names one
pub record TakesKept (kept : List Kept) (bytes : List ℕ) (c : Contents) : Type 0 where
  pub backup : Kept
  pub kept_as : IsKeptAs kept c.head.guid backup
  pub restored : state_of bytes ≡ normal_state → guid_of bytes ≢ nil

-- A chain is restored: half way the name of the target is free, and then it is the database that the chain gives, as long as level 0 or the last
-- page of a level reaches. A chain of kept backups gives the image that the begin of its last one kept, in the normal state.
abbrev pub restoring : Files → (db : List ℕ) (names : List (List ℕ)) → OneTurn
restoring files db names = record {
  name = Some db;
  knows = λ account. is_free_name files db ≡ is_free_entry (account.entry db);
  turn = λ account. restore_turn files account db names;
  half = λ now. is_free_file (now db) ≡ true;
  done = λ now. (links : List Link) × (verdict files names ≡ Ok links) × IsRestoredTo db links now;
  takes = λ kept. (links : List Link) → verdict files names ≡ Ok links → AreKept kept links;
  gives = λ kept now. (links : List Link) → verdict files names ≡ Ok links → ShowsKept kept (last_guid links) fixed db now;
}

-- A copy is fixed: nothing stands between. A copy of a kept backup has the image that the begin of that backup kept, in the normal state.
abbrev pub fixing : Files → (db : List ℕ) → OneTurn
fixing files db = record {
  name = Some db;
  knows = λ account. account.entry db ≡ entry_in files db;
  turn = λ account. fixup_turn files db;
  half = λ now. ⊥;
  done = λ now. (bytes : List ℕ) × IsFixable files db bytes × IsFixed db bytes now;
  takes = λ kept. (bytes : List ℕ) → IsFixable files db bytes → (r : Kept) × IsKeptAs kept (guid_of bytes) r;
  gives = λ kept now. (bytes : List ℕ) → IsFixable files db bytes → ShowsKept kept (guid_of bytes) fixed db now;
}

-- A level file is merged into a standby: half way the standby is in the applying state, with the level file's GUID pending, and the same file
-- finishes it. Then it is as long as it was, or as the last page of the level file reaches. The level file of a kept backup gives the image that the begin of that backup kept, in the normal state, read-only and with nothing
-- pending. It is asked that the standby names the backup that it was restored from; of a merge that was begun the files tell that themselves.
abbrev pub merging : Files → (db name : List ℕ) → OneTurn
merging files db name = record {
  name = Some db;
  knows = λ account. account.entry db ≡ entry_in files db;
  turn = λ account. apply_turn files db name;
  half = λ now. (bytes : List ℕ) × (c : Contents) × IsMergeable files db name bytes c × IsHalfIn db bytes c now;
  done = λ now. (bytes : List ℕ) × (c : Contents) × IsMergeable files db name bytes c × IsMergedTo db bytes c now;
  takes = λ kept. (bytes : List ℕ) (c : Contents) → IsMergeable files db name bytes c → TakesKept kept bytes c;
  gives = λ kept now. (bytes : List ℕ) (c : Contents) → IsMergeable files db name bytes c → ShowsKept kept c.head.guid as_standby db now;
}

-- the files are level files of kept backups
abbrev pub AreOfKept : List Kept → List Contents → Type 0
AreOfKept kept cs = AllByRecursion (λ (c : Contents). (r : Kept) × IsKeptAs kept c.head.guid r) cs

-- so are those that are folded, and the first names the backup that it goes on from
pub record TakesFiles (kept : List Kept) (cs : List Contents) : Type 0 where
  pub of_kept : AreOfKept kept cs
  pub goes_on : (first_head cs).previous ≢ nil

-- under the name stands the level file of the kept backup of that GUID which goes on from an ancestor of it in one step
pub record HoldsSpan (kept : List Kept) (guid : List ℕ) (name : List ℕ) (files : Files) : Type 0 where
  pub backup : Kept
  pub kept_as : IsKeptAs kept guid backup
  pub ask : Ask
  pub span : IsSpan kept backup ask
  pub there : files name ≡ Some (file_for 102 backup (Some ask))

-- Level files are folded into one: half way the file that is made is unfinished, so that nothing takes it for a backup, and then it is the one that
-- tells what they tell. Files of kept backups give the file of the last one that goes on from what the first goes on from.
abbrev pub folding : Files → (out : List ℕ) (names : List (List ℕ)) → OneTurn
folding files out names = record {
  name = Some out;
  knows = λ account. is_free_name files out ≡ is_free_entry (account.entry out);
  turn = λ account. fold_turn files account out names;
  half = λ now. IsUnfinished (now out);
  done = λ now. (cs : List Contents) × (chained files names ≡ Ok cs) × (now out ≡ Some (bytes_for (folded cs)));
  takes = λ kept. (cs : List Contents) → chained files names ≡ Ok cs → TakesFiles kept cs;
  gives = λ kept now. (cs : List Contents) → chained files names ≡ Ok cs → HoldsSpan kept (last_head cs).guid out now;
}

-- Backup files are planned for: each is read, and nothing changes.
abbrev pub planning : Files → (keep : ℕ) (names : List (List ℕ)) → OneTurn
planning files keep names = record {
  name = None;
  knows = λ account. Unit {0};
  turn = λ account. plan_turn files names keep;
  half = λ now. ⊥;
  done = λ now. ⊥;
  takes = λ kept. Unit {0};
  gives = λ kept now. Unit {0};
}

-- the job
abbrev pub one_turn : Files → Deed → OneTurn
one_turn files (Restore db names) = restoring files db names
one_turn files (Fixup db) = fixing files db
one_turn files (Apply db name) = merging files db name
one_turn files (Fold out names) = folding files out names
one_turn files (Plan keep names) = planning files keep names

-- its names are those that words may give, or a list, and no more and no fewer
abbrev pub FitsDeed : Deed → Type 0
FitsDeed (Restore db names) = (is_database db ≡ true) × (1 ≤ length names) × (length names ≤ 10) × (list_all is_file names ≡ true)
FitsDeed (Fixup db) = is_database db ≡ true
FitsDeed (Apply db name) = (is_database db ≡ true) × (is_file name ≡ true)
FitsDeed (Fold out names) = (is_file out ≡ true) × (2 ≤ length names) × (length names ≤ 9) × (list_all is_file names ≡ true)
FitsDeed (Plan keep names) = length names ≤ 1000

-- a turn that makes no stroke and no file, as a refused one, or one that only tells something
abbrev pub leaves_all : Event → Bool
leaves_all turn = elim turn.made [ Some file ↦ false | None ↦ elim turn.strokes [ [] ↦ true | s ∷ ss ↦ false ] ]

-- what a file was before: one of the things that a crash would have left of it, or what it read as
abbrev pub Was : Type 1
Was = List ℕ → File → Type 0

-- what it read as
abbrev pub Read : Files → Was
Read files m file = file ≡ files m

-- the file of that name is as it was
abbrev pub IsAsWas : Was → (name : Option (List ℕ)) → Files → Type 0
IsAsWas was None files = Unit {0}
IsAsWas was (Some name) files = was name (files name)

-- the file of the job is as it was, or half way, or as its turn leaves it
abbrev pub IsOnItsWay : Was → OneTurn → Files → Type 0
IsOnItsWay was job files = (IsAsWas was job.name files ⊎ job.half files) ⊎ job.done files

-- So it is once so much of the reply was said: as the turn leaves it, where that is anything. Where the turn leaves all, it is as it was.
abbrev pub FileLeft : Was → OneTurn → Event → (part : List ℕ) → Files → Type 0
FileLeft was job turn part files = elim (leaves_all turn) as (λ none. Type 0) [
  | true ↦ IsAsWas was job.name files
  | false ↦ ((IsAsWas was job.name files ⊎ job.half files) × (part ≡ [])) ⊎ job.done files
]

-- At a moment of the job: a front of its reply was said, its file is as it was, or half way, with nothing said, or as the turn leaves it, and other
-- files are as they were.
pub record TurnLeft (was : Was) (old : World) (job : OneTurn) (turn : Event) (files : Files) (said : List ℕ) : Type 0 where
  pub out : IsSaid old (turn ∷ []) said
  pub own : FileLeft was job turn out.part files
  pub others : (m : List ℕ) → Other (OfName job.name) m → was m (files m)

-- its file is as the turn leaves it, and whatever a crash leaves of it
pub record IsDoneFor (w : World) (job : OneTurn) : Type 0 where
  pub now : job.done w.files
  pub left : (files : Files) → LeavesAll w files → job.done files

-- The job came to its end: its reply was said whole, the status is the one that it gives, and its file is as the turn leaves it, for good. A turn
-- that leaves all has changed no file.
pub record TurnEnded (status : Status) (old new : World) (job : OneTurn) (turn : Event) : Type 0 where
  pub said : new.said ≡ old.said ++ output (turn ∷ [])
  pub ended : number_of status ≡ status_of (replies_of (turn ∷ []))
  pub done : leaves_all turn ≡ false → IsDoneFor new job
  pub unchanged : leaves_all turn ≡ true → new.files ≡ old.files

-- Where the files stood for the account, files stand for accounts with the same records: at each moment of the job, and after it, however it ended;
-- and where it came to its end, for the account after its turn. Where it isn't refused, what it has done is what the begin of a backup kept.
pub record TurnStands (status : Status) (old new : World) (job : OneTurn) (turn : Event) (account : Account) : Type 0 where
  pub moments : AtEachMoment old new (λ files said. HoldsKept files account.kept)
  pub after : (later : Account) × StandsFor new later × (later.kept ≡ account.kept)
  pub ended : status ≢ Device → status ≢ Memory → StandsFor new (behind job.name turn account)
  pub gives : leaves_all turn ≡ false → (files : Files) → job.done files → job.gives account.kept files

-- What a run does of a job of one turn, where the account knows of the files what the job asks for: at each moment a crash leaves a front of it, and
-- so do the files as they read now, however it ended. Where the files stood for the account, and those that the job takes, if it isn't refused, are of
-- kept backups, they go on to stand.
pub record DoesTurn (status : Status) (old new : World) (job : OneTurn) (account : Account) : Type 0 where
  pub stops : AtEachMoment old new (TurnLeft (Leaves old) old job (job.turn account))
  pub reads : TurnLeft (Read old.files) old job (job.turn account) new.files new.said
  pub gave : GaveNothing old new
  pub ended : status ≢ Device → status ≢ Memory → TurnEnded status old new job (job.turn account)
  pub stands : StandsFor old account → (leaves_all (job.turn account) ≡ false → job.takes account.kept) → TurnStands status old new job (job.turn account) account
