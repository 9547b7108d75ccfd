-- The turns of a backup.
use Rattle.std.proofs.Common.{◌≡◌, ◌⊎◌, inl, inr, ⊎_elim, ℕ, zero, suc, ◌-◌, ◌<◌, List, [], ◌∷◌, ◌++◌, length, replicate, refl, sym, ap, subst, ◌∙◌, arith, Bool, Result, Ok, Err, IsErr, IfErr, Some, None, true, false, Contains}
use Rattle.nb_session.proofs.Common.{slice_index_or, append-nil, is_free_file, stalled_state, Files, is_delta, World, Leaves, Fault, Refused, Device, Memory, RunError, Refusal, Changes, Remade, weakened, reached_first, Reply, Level, Statement, BackupSince, Base, Room, room_in, close_backup, is_free_entry, Foretells, WasGiven, HasItsEntry, IsAt, IsGoing, IsMaking, Image, image_scn, file_of, count_in, MadeFile, kept_of, making, delta_name, Turn, Begins, Copies, ClosesBackup, Ends, Backing, Given, Seen, Outcome, DoesNothing, next_guid, next_time, without_guid, without_time, Now, Event, base_now, outcome, is_sync, event_of, Stroke, base_after, Trail, StandsIn, after_stroke, first_turn, turn, no_main, started, OfFiles, after_strokes, IsNoRefusal, Held, IsOpen, name_of, Goes, WhereEnded, GaveAtMost, Progress, More, Finished, after_base, where_ended, gave_none, file_count, file_next, file_written, whole_file, IsEmpty, IsUnfinishedOr, Backed, IsBackingUp, IsStarted, OfStart, StartLeft, StartMakes, StartsBackup, KnowsFree, Left, Same, Other, Taken, Backup, End, Told, Says, Grows, shown_by, Touched, TurnLeft, Acts, MayAct, FitsAsked, IsBackup, file_asked, copy_first, copy_rest, left_refused, left_task, task_first, task_rest, IsReady, IsApart, TaskGoes, EndsEarly, begun_in, left_making, touching, IsBehind, Turns, has_only_told, only_told, one_held, blank_free, blank_empty, some_none, files_made, AreWhole, true≢false}
use Rattle.nb_model.proofs.TurnCases.{backup_either, since_either}
use Rattle.nb_session.proofs.FilesLaws.{files_other, grows_sized, untouched_quiet}
use Rattle.nb_session.specs.Files.{TurnLeaves}
use Rattle.nb_session.specs.Replies.{HasEnded}
use Rattle.nb_session.proofs.ReadyLaws.{apart_files}
use Rattle.nb_change.specs.Changes.{Only}
use Rattle.nb_fields.specs.States.{stalled_state}
use Rattle.nb_model.specs.Image.{image_state}
use Rattle.nb_base.proofs.StaysLaws.{delta-other}
use Rattle.nb_model.specs.declared.reply.Reply.TheVariants.{Refused as RefusedBy}
use Rattle.nb_model.specs.declared.statement.Statement.TheVariants.{Backup as BackupTo}
use Rattle.nb_copy.specs.Closing.{OfBackup, GaveTimeAtMost, CloseLeft, CopiesOn, CloseDone, BackupTurn, BackupCounts}
use Rattle.nb_session.proofs.ActLaws.{trail_plain, ended_map, kept_none, says_none, idle_unchanged, first_given, most_given, grows_at_most, whole_none, left_lacks}
use Rattle.nb_session.proofs.ShortLaws.{closes_lack, early_lacks, wanted_any, wanted_map}
use Rattle.nb_alloc.specs.Tries.{WhereMemory}
use Rattle.nb_session.specs.Short.{LacksLast, RanOut}
use Rattle.nb_session.proofs.EventLaws.{Marks, marks_made, unsaid}
use Rattle.nb_session.proofs.CopyLaws.{apart_one, file_left, each_one, kept_one, made_by, no_stroke, stalled_now, finished_not, more_not, page_is, whole_by}
use Rattle.nb_session.proofs.GiftLaws.{given_nothing, grows_none}
use Rattle.nb_session.proofs.MakesLaws.{none_runs}
use Rattle.nb_session.proofs.NameLaws.{given_plain}
use Rattle.nb_session.proofs.PlayLaws.{no_file}
use Rattle.nb_session.proofs.ReadyLaws.{not_own, apart_files}
use Rattle.nb_session.proofs.TouchingLaws.{asked_either, plain_touch, copy_plain}
use Rattle.nb_session.proofs.TurnLaws.{seen_now, outcome_is, turns_lost, turns_quiet}
use Rattle.nb_session.proofs.WayLaws.{copy_turns, BacksUp, backing_at}

-- what a turn sees where this is given
abbrev pub seen_with : Now → Given → Seen
seen_with now given = record (seen_now now) { given = given }

-- the file that these turns make
pub backups_make : (frozen : Image) (left : ℕ) (b : Backing) → (b.name, file_of 102 (kept_of b frozen)) ∷ [] ≡ making frozen (copy_first left (ClosesBackup b) ∷ copy_rest left (ClosesBackup b))
unfolding making
backups_make frozen zero b = refl
backups_make frozen (suc left) b = by left
  where
    by : (n : ℕ) → (b.name, file_of 102 (kept_of b frozen)) ∷ [] ≡ making frozen (replicate n Copies ++ ClosesBackup b ∷ [])
    by zero = refl
    by (suc n) = by n

pub backup_makes : (frozen : Image) (n : ℕ) (b : Backing) → making frozen (replicate n Copies ++ ClosesBackup b ∷ []) ≡ (b.name, file_of 102 (kept_of b frozen)) ∷ []
backup_makes frozen n b = ap (making frozen) (copy_turns n (ClosesBackup b)) ∙ sym (backups_make frozen n b)

-- so the same turns make a file of the same name
same_name : (m n : ℕ) (b c : Backing) → replicate m Copies ++ ClosesBackup b ∷ [] ≡ replicate n Copies ++ ClosesBackup c ∷ [] → b.name ≡ c.name
same_name m n b c same =
    ap (λ (fs : List MadeFile). (slice_index_or fs 0 ([], [])).0)
    (backups_make [] m b ∙ ap (making []) (sym (copy_turns m (ClosesBackup b)) ∙ same ∙ copy_turns n (ClosesBackup c)) ∙ sym (backups_make [] n c))

-- A backup that begins: its name was free, its session runs, and a GUID is given.
record HasBegun (s : Seen) (session : ℕ) (name : List ℕ) (o : Outcome) : Type 0 where
  free : is_free_entry (s.entry name) ≡ true
  running : o.running ≡ Some session
  given : o.given ≡ without_guid s.given
  named : (n : ℕ) (b : Backing) → o.next ≡ replicate n Copies ++ ClosesBackup b ∷ [] → b.name ≡ name

-- it is no `sync`
asked_plain : (x : Statement) → IsBackup x → is_sync (Begins x) ≡ false
asked_plain (BackupTo level name) is = refl
asked_plain (BackupSince guid name) is = refl
asked_plain other is = absurd is

-- its file is in the making then
pub begun_is : (session : ℕ) (x : Statement) (now : Now) → IsBackup x → begun_in session (Begins x) now ≡ left_making session (Begins x) now
begun_is session (BackupTo level name) now is = refl
begun_is session (BackupSince guid name) now is = refl
begun_is session other now is = absurd is

-- and no difference file
pub file_plain : (x : Statement) → IsBackup x → FitsAsked x → is_delta (file_asked x) ≡ false
file_plain (BackupTo level name) is fits = given_plain name fits.1
file_plain (BackupSince guid name) is fits = given_plain name fits
file_plain other is fits = absurd is

module _ (s : Seen) (session : ℕ) (x : Statement) (asks : IsBackup x) where
  abbrev start : Outcome
  start = first_turn s session x

  start_made : start.made ≡ None
  start_made = asked_either (λ o. o.made ≡ None) s session x asks (λ r. refl) (λ ask from may. refl)

  has_begun : start.reply ≡ None → HasBegun s session (file_asked x) start
  has_begun = asked_either (λ o. o.reply ≡ None → HasBegun s session (file_asked x) o) s session x asks (λ r is. absurd (some_none (RefusedBy r) is))
      (λ ask from may quiet. record { free = may.free; running = refl; given = refl; named = λ n b same. sym (same_name _ n _ b same) })

  -- the file that it makes, where nothing refuses it
  start_file : ((bytes : List ℕ) × ((making (base_after s.base start.strokes).frozen start.next ≡ (file_asked x, bytes) ∷ []) × (start.reply ≡ None))) ⊎ ((making (base_after s.base start.strokes).frozen start.next ≡ []) × (start.reply ≡ None → ⊥))
  unfolding making
  start_file = asked_either
      (λ o. ((bytes : List ℕ) × ((making (base_after s.base o.strokes).frozen o.next ≡ (file_asked x, bytes) ∷ []) × (o.reply ≡ None))) ⊎ ((making (base_after s.base o.strokes).frozen o.next ≡ []) × (o.reply ≡ None → ⊥))) s session x asks
      (λ r. inr (refl, some_none (RefusedBy r)))
      (λ ask from may.
      let frozen : Image = (base_after s.base (started s session (file_asked x) ask).strokes).frozen in
      let room : Room = room_in s.base.image in
      let b : Backing = record { name = file_asked x; ask = ask; scn = image_scn s.base.image; guid = next_guid s.given; page = room.page; slot = room.slot } in
      inl (file_of 102 (kept_of b frozen), (backup_makes frozen (length room.draft.image) b, refl)))

  has_not : (refusal : Refusal) → start.reply ≡ Some (RefusedBy refusal) → DoesNothing s start
  has_not refusal = asked_either (λ o. o.reply ≡ Some (RefusedBy refusal) → DoesNothing s o) s session x asks (λ r is. record { strokes = refl; next = refl; made = refl; running = refl; given = refl })
      (λ ask from may quiet. absurd (some_none (RefusedBy refusal) (sym quiet)))

pub no_delta : (held : Held) (name : List ℕ) → is_delta name ≡ false → name ≡ delta_name (name_of held) → ⊥
no_delta held name plain same = no_main (name_of held) name plain (sym same)

-- in the normal state the account knows of each name whether it is free
pub knows_free : {sound : Bool} (w : World) (held : Held) (t : Trail) (now : Now) (name : List ℕ) → IsReady w held t now → IsGoing sound now → is_delta name ≡ false → KnowsFree 0 w.files (seen_now now) name
knows_free w held t now name ready going plain normal = ready.known name plain (none_runs now going (λ place number some runs. omega (arith, some, sym normal ∙ runs.state)) name)

-- in the stalled state no backup begins: it is refused
starts_normal : (s : Seen) (session : ℕ) (x : Statement) → IsBackup x → image_state s.base.image ≡ stalled_state → has_only_told (first_turn s session x).reply ≡ true
unfolding first_turn
starts_normal s session (BackupTo level name) asks stalled = backup_either (λ o. has_only_told o.reply ≡ true) s session level name (λ r. refl) (λ ask is may. absurd (omega (arith, may.may.normal, stalled)))
starts_normal s session (BackupSince guid name) asks stalled = since_either (λ o. has_only_told o.reply ≡ true) s session guid name (λ r. refl) (λ ask is may. absurd (omega (arith, may.may.normal, stalled)))
starts_normal s session other asks stalled = absurd asks

-- The start of a backup, by its turn.
module _ (old new : World) (a b : Held) (t : Trail) (now : Now) (session : ℕ) (x : Statement) (asks : IsBackup x) (ready : IsReady old a t now) where
  abbrev begins : Outcome
  begins = first_turn (seen_now now) session x

  abbrev this : Outcome
  this = outcome session (Begins x) now

  abbrev event : Event
  event = event_of session (Begins x) this

  same : begins ≡ this
  same = sym (outcome_is session x now)

  -- its file
  abbrev asked : List ℕ
  asked = file_asked x

  abbrev db : List ℕ
  db = name_of a

  abbrev begun : List MadeFile
  begun = begun_in session (Begins x) now

  Files_are : List MadeFile → Type 0
  Files_are made = ((bytes : List ℕ) × ((made ≡ (asked, bytes) ∷ []) × (begins.reply ≡ None))) ⊎ ((made ≡ []) × (begins.reply ≡ None → ⊥))

  files_are : Files_are begun
  unfolding Files_are
  files_are =
      subst Files_are (sym (begun_is session x now asks ∙ ap (λ (o : Outcome). making (base_after (base_now now) o.strokes).frozen o.next) (sym same)))
      (start_file (seen_now now) session x asks)

  -- none of the database's
  pub start_apart : is_delta asked ≡ false → (n bytes : List ℕ) → Contains begun (n, bytes) → IsApart a n
  unfolding Files_are
  start_apart plain n bytes there = by files_are
    where
      by : Files_are begun → IsApart a n
      by (inl (whole, (is, silent))) =
          let free = (has_begun (seen_now now) session x asks silent).free in
          apart_one a asked whole (record { plain = plain; other = not_own old a t now asked ready free }) n bytes (subst (λ (fs : List MadeFile). Contains fs (n, bytes)) is there)
      by (inr (is, loud)) = absurd (no_file n bytes (subst (λ (fs : List MadeFile). Contains fs (n, bytes)) is there))

  -- what a crash leaves of a start is what it leaves of this turn
  start_left : StartMakes old new asked db t begins begins.strokes → Changes old new (Touched db begun) (TurnLeft old db t begins.strokes begun (files_made (event ∷ [])))
  unfolding Files_are
  start_left makes = by begun files_are
    where
      one : (fs : Files) (whole n bytes : List ℕ) → Remade old asked IsEmpty fs → Contains {X = MadeFile} ((asked, whole) ∷ []) (n, bytes) → Remade old n (IsUnfinishedOr bytes) fs
      one fs whole n bytes has there =
          subst (λ (f : MadeFile). Remade old f.0 (IsUnfinishedOr f.1) fs) (one_held (asked, whole) (n, bytes) there)
          (⊎_elim inl (λ empty. inr (inl (inl (ap is_free_file empty ∙ blank_free (Some []) blank_empty)))) has)

      none : (fs : Files) → AreWhole (files_made (event ∷ [])) fs
      none fs = whole_none fs event (sym (ap (λ (o : Outcome). o.made) same) ∙ start_made (seen_now now) session x asks)

      by : (made : List MadeFile) → Files_are made → Changes old new (Touched db made) (TurnLeft old db t begins.strokes made (files_made (event ∷ [])))
      by made (inl (whole, (is, silent))) =
          subst (λ (made : List MadeFile). Changes old new (Touched db made) (TurnLeft old db t begins.strokes made (files_made (event ∷ [])))) (sym is)
          (weakened old new (OfStart asked db begins) (Touched db ((asked, whole) ∷ [])) (StartLeft old asked db t begins.strokes) (TurnLeft old db t begins.strokes ((asked, whole) ∷ []) (files_made (event ∷ []))) makes
          (λ m. ⊎_elim inl (λ its. inr (whole, (0, omega arith, ap (λ (n : List ℕ). (n, whole)) (sym its.0)))))
          (λ fs others has. record { database = has.database; each = λ n bytes there. one fs whole n bytes has.file there; whole_first = inr (none fs) }))
      by made (inr (is, loud)) =
          subst (λ (made : List MadeFile). Changes old new (Touched db made) (TurnLeft old db t begins.strokes made (files_made (event ∷ [])))) (sym is)
          (weakened old new (OfStart asked db begins) (Touched db []) (StartLeft old asked db t begins.strokes) (TurnLeft old db t begins.strokes [] (files_made (event ∷ []))) makes
          (λ m. ⊎_elim inl (λ its. absurd (loud its.1)))
          (λ fs others has. record { database = has.database; each = λ n bytes there. absurd (no_file n bytes there); whole_first = inr (none fs) }))

  -- where one GUID was given, or none
  module _ (result : Result Backed Fault) (starts : (given : Given) → GaveAtMost old new (next_guid given) → StartsBackup result old new a b t (file_asked x) (next_guid given) (first_turn (seen_with now given) session x))
      (guid : List ℕ) (given_one : GaveAtMost old new guid) where
    times_are : new.times ≡ old.times
    times_are = (starts (record { guids = guid ∷ []; times = []; holds = [] }) given_one).times

    pub starts_told : Foretells now.given (shown_by (Begins x) a) old new → StartsBackup result old new a b t (file_asked x) (next_guid now.given) begins
    starts_told told = starts now.given (most_given (replicate 16 0) old.guids new.guids now.given.guids told.ids told.later_ids told.guids told.guids_first guid given_one)

    start_given : (r : Result Backed Fault) → StartsBackup r old new a b t (file_asked x) (next_guid now.given) begins → Foretells now.given (shown_by (Begins x) a) old new → WhereEnded r (WasGiven old new now.given begins.given)
    start_given (Ok copier) does told =
        subst (λ (left : Given). WasGiven old new now.given left) (sym (has_begun (seen_now now) session x asks does.says).given) (record {
          ids = next_guid now.given ∷ [];
          clock = [];
          guids = does.gave;
          guids_first = first_given (replicate 16 0) old.guids new.guids now.given.guids told.ids told.later_ids told.guids told.guids_first (next_guid now.given) does.gave;
          times = does.times ∙ sym (append-nil old.times);
          times_first = refl;
        })
    start_given (Err (Refused refusal)) does told = given_nothing old new now.given begins.given (gave_none old new (does.idle (ap has_only_told does.says))) (has_not (seen_now now) session x asks refusal does.says).given
    start_given (Err Device) does told = tt
    start_given (Err Memory) does told = tt

    -- in the stalled state none begins
    start_files : StartsBackup result old new a b t (file_asked x) (next_guid now.given) begins → TurnLeaves (HasEnded result) old new db t (Begins x) begins.strokes
    start_files does = record {
      frozen = λ stalled plain. untouched_quiet old new db (does.idle (starts_normal (seen_now now) session x asks (sym (ap (λ (b : Base). image_state b.image) ready.base) ∙ stalled)));
      gone = λ merged. absurd (true≢false (sym merged.1));
      long = grows_sized old new a t begins.strokes ready.opened does.long;
    }

    pub start_acts : length guid ≡ 16 → b.cap ≡ a.cap → MayAct (λ copier. None) result old new a b t now session (Begins x) begun
    start_acts sixteen cap = record {
      grows = grows_at_most old new guid sixteen given_one times_are;
      acts = λ told.
          let does = starts_told told in
          record {
            says = subst (λ (o : Outcome). Says (λ copier. None) result o.reply) same (says_none result begins.reply does.says);
            left = subst (λ (o : Outcome). Changes old new (Touched db begun) (TurnLeft old db t o.strokes begun (files_made (event ∷ [])))) same (start_left does.left);
            opened = ended_map result (subst (IsOpen new b) (trail_plain t event (asked_plain x asks))) (subst (λ (o : Outcome). WhereEnded result (IsOpen new b (after_strokes t o.strokes))) same does.opened);
            running = subst (λ (o : Outcome). WhereEnded result (b.running ≡ o.running)) same does.running;
            given = subst (λ (o : Outcome). WhereEnded result (WasGiven old new now.given o.given)) same (start_given result does told);
            kept = where_ended result _ (kept_none new event (sym (ap (λ (o : Outcome). o.made) same) ∙ start_made (seen_now now) session x asks));
            unchanged = idle_unchanged old new begins.reply event (ap (λ (o : Outcome). o.reply) same) does.idle;
            short = subst (λ (o : Outcome). WhereMemory result (LacksLast old new db t o.strokes)) same (wanted_map result (early_lacks old new a b t begins.strokes) does.stops);
            files = subst (λ (o : Outcome). TurnLeaves (HasEnded result) old new db t (Begins x) o.strokes) same (start_files does);
            name = does.name;
            cap = cap;
          };
    }

  -- a backup was begun
  pub start_behind : (copier : Backed) (guid : List ℕ) → is_delta (file_asked x) ≡ false → StartsBackup (Ok copier) old new a b t (file_asked x) guid begins → IsBehind new b session (Begins x) [] now (Some (Backup copier))
  start_behind copier guid plain does =
      let is : IsStarted new b (after_strokes t begins.strokes) copier begins = does.started in
      let facts : HasBegun (seen_now now) session (file_asked x) begins = has_begun (seen_now now) session x asks does.says in
      let named : copier.backing.name ≡ file_asked x = facts.named (file_count copier.file) copier.backing is.turns in
      let all : file_count copier.file ≡ file_count copier.file - file_next copier.file = omega (arith, is.first) in
      record {
        next = append-nil this.next ∙ sym (ap (λ (o : Outcome). o.next) same) ∙ is.turns ∙ ap (λ (n : ℕ). replicate n Copies ++ ClosesBackup copier.backing ∷ []) all
            ∙ copy_turns (file_count copier.file - file_next copier.file) (ClosesBackup copier.backing);
        goes = (
          subst (IsBackingUp new copier)
              (ap (λ (x : Base). x.frozen) (after_base t begins.strokes ∙ ap (λ (o : Outcome). base_after t.base o.strokes) same ∙ ap (λ (x : Base). base_after x this.strokes) ready.base)) is.goes,
          record { plain = ap is_delta named ∙ plain; other = λ own. not_own old a t now (file_asked x) ready facts.free (sym named ∙ own ∙ does.name) },
          does.running ∙ facts.running,
        );
      }

  -- it was refused
  pub start_refused : (refusal : Refusal) (guid : List ℕ) → StartsBackup (Err (Refused refusal)) old new a b t (file_asked x) guid begins → (w : World) → IsBehind w b session (Begins x) [] now None
  start_refused refusal guid does w =
      record { next = append-nil this.next ∙ sym (ap (λ (o : Outcome). o.next) same) ∙ (has_not (seen_now now) session x asks refusal does.says).next; goes = tt }

-- A further turn of a backup.
close_is : (session : ℕ) (b : Backing) (now : Now) → outcome session (ClosesBackup b) now ≡ close_backup (seen_now now) b
unfolding outcome turn
close_is session b now = refl

-- The parts of the last one.
module _ (s : Seen) (b : Backing) where
  close_reply : (close_backup s b).reply ≡ None
  unfolding close_backup
  close_reply = refl

  close_next : (close_backup s b).next ≡ Ends (Level b.ask.level b.scn (count_in (kept_of b s.base.frozen) b.ask) b.guid) ∷ []
  unfolding close_backup
  close_next = refl

  close_running : (close_backup s b).running ≡ s.running
  unfolding close_backup
  close_running = refl

  close_made : (close_backup s b).made ≡ Some (b.name, file_of 102 (kept_of b s.base.frozen))
  unfolding close_backup
  close_made = refl

  close_given : (close_backup s b).given ≡ without_time s.given
  unfolding close_backup
  close_given = refl

-- A copier that goes on.
module _ (old new : World) (a b : Held) (t : Trail) (now : Now) (session : ℕ) (copier later : Backed) (ready : IsReady old a t now) (is : IsBackingUp old copier t.base.frozen) (apart : IsApart a copier.backing.name) (goes : Goes a b) where
  abbrev name : List ℕ
  name = copier.backing.name

  abbrev last : Turn
  last = ClosesBackup copier.backing

  abbrev whole : List ℕ
  whole = whole_file copier.file t.base.frozen

  abbrev files : List MadeFile
  files = (name, whole) ∷ []

  abbrev rest : ℕ
  rest = file_count copier.file - file_next copier.file

  frozen_is : t.base.frozen ≡ (base_now now).frozen
  frozen_is = ap (λ (x : Base). x.frozen) ready.base

  whole_is : whole ≡ file_of 102 (kept_of copier.backing (base_now now).frozen)
  whole_is = is.whole ∙ ap (λ (f : Image). file_of 102 (kept_of copier.backing f)) frozen_is

  pub backup_files : files ≡ touching session (copy_first rest last) (copy_rest rest last) now
  backup_files = ap (λ (bytes : List ℕ). (name, bytes) ∷ []) whole_is ∙ backups_make (base_now now).frozen rest copier.backing ∙ plain_touch session (copy_first rest last) (copy_rest rest last) now (copy_plain rest last tt)

  -- what a crash leaves of a close is what it leaves of this turn
  module _ (reads : Leaves old name (old.files name)) where
    close_left : (ss : List Stroke) (e : Event) → e.made ≡ Some (name, whole) → Changes old new (OfBackup name (name_of a)) (CloseLeft old name whole (name_of a) t ss)
        → Changes old new (Touched (name_of a) files) (TurnLeft old (name_of a) t ss files (files_made (e ∷ [])))
    close_left ss e made changes =
        weakened old new (OfBackup name (name_of a)) (Touched (name_of a) files) (CloseLeft old name whole (name_of a) t ss) (TurnLeft old (name_of a) t ss files (files_made (e ∷ []))) changes touches
        (λ fs others has. elim has [
          | inl before ↦ record { database = reached_first after_stroke (StandsIn (name_of a)) t ss fs before.1; each = each_one old new a t ready.opened name whole apart reads fs before.0; whole_first = inl before.1 }
          | inr behind ↦ record { database = behind.1; each = each_one old new a t ready.opened name whole apart reads fs (inr (inr behind.0)); whole_first = inr (whole_by fs e name whole made behind.0) }
        ])
      where
        touches : (m : List ℕ) → OfBackup name (name_of a) m → Touched (name_of a) files m
        touches m (inl same) = inr (whole, (0, omega arith, ap (λ (n : List ℕ). (n, whole)) (sym same)))
        touches m (inr own) = inl (inr own)

    -- what its last turn makes is that file
    last_made : (outcome session last now).made ≡ Some (name, whole)
    last_made = ap (λ (x : Outcome). x.made) (close_is session copier.backing now) ∙ close_made (seen_now now) copier.backing ∙ ap (λ (bytes : List ℕ). Some (name, bytes)) (sym whole_is)

    -- what is left of a turn of it
    abbrev Leaving : Turn → Type 0
    Leaving u = Changes old new (Touched (name_of a) files) (TurnLeft old (name_of a) t (outcome session u now).strokes files (files_made (event_of session u (outcome session u now) ∷ [])))

    -- the turn with the time that is foretold
    abbrev Does : Result Progress Fault → Type 0
    Does result = BackupTurn result old new a b copier later t (next_time now.given) (close_backup (seen_now now) copier.backing).strokes

    turn_left : (result : Result Progress Fault) (left : ℕ) → left ≡ rest → Does result → Leaving (copy_first left last)
    turn_left result zero none does =
        close_left (outcome session last now).strokes (event_of session last (outcome session last now)) last_made (subst (λ (o : Outcome). Changes old new (OfBackup name (name_of a)) (CloseLeft old name whole (name_of a) t o.strokes)) (sym (close_is session copier.backing now)) does.left)
    turn_left result (suc left) some does = file_left old new a t ready.opened name whole apart reads (outcome session Copies now).strokes _ (does.alone (omega (arith, some)))

    -- where memory ran out
    turn_short : (result : Result Progress Fault) (left : ℕ) → left ≡ rest → Does result → WhereMemory result (LacksLast old new (name_of a) t (outcome session (copy_first left last) now).strokes)
    turn_short result zero none does =
        subst (λ (o : Outcome). WhereMemory result (LacksLast old new (name_of a) t o.strokes)) (sym (close_is session copier.backing now)) (wanted_map result (closes_lack old new a b copier t (close_backup (seen_now now) copier.backing).strokes) does.stops)
    turn_short result (suc left) some does =
        wanted_any result (left_lacks old new (name_of a) t (outcome session Copies now).strokes files _ (ap (λ (o : Outcome). o.strokes) (page_is session now)) (turn_left result (suc left) some does))

    -- no turn of it says anything
    copy_told : (left : ℕ) → only_told (event_of session (copy_first left last) (outcome session (copy_first left last) now)) ≡ true → ⊥
    copy_told zero told = unsaid (event_of session last (outcome session last now)) (ap (λ (x : Outcome). x.reply) (close_is session copier.backing now) ∙ close_reply (seen_now now) copier.backing) told
    copy_told (suc left) told = unsaid (event_of session Copies (outcome session Copies now)) (ap (λ (x : Outcome). x.reply) (page_is session now)) told

    -- a page goes into its file alone, and a close changes the difference file too: the main file is frozen
    off_file : OfBackup name (name_of a) (name_of a) → ⊥
    off_file (inl same) = apart_files a name apart (inl (sym same))
    off_file (inr own) = delta-other (name_of a) own

    turn_files : {ended : Type 0} (result : Result Progress Fault) (left : ℕ) → left ≡ rest → Does result → TurnLeaves ended old new (name_of a) t (copy_first left last) (outcome session (copy_first left last) now).strokes
    turn_files {ended} result zero none does = files_other ended old new (OfBackup name (name_of a)) _ (name_of a) t last _ refl does.left off_file
    turn_files {ended} result (suc left) some does = files_other ended old new (Only name) _ (name_of a) t Copies _ refl (does.alone (omega (arith, some))) (λ same. apart_files a name apart (inl (sym same)))

    -- it fails
    failed : (fault : Fault) → IsNoRefusal fault → (left : ℕ) → TurnLeaves (HasEnded {T = Progress} (Err fault)) old new (name_of a) t (copy_first left last) (outcome session (copy_first left last) now).strokes → WhereMemory {T = Progress} (Err fault) (LacksLast old new (name_of a) t (outcome session (copy_first left last) now).strokes) → Leaving (copy_first left last)
        → Acts {T = Progress} (λ progress. None) (Err fault) old new a b t now session (copy_first left last) files
    failed (Refused refusal) none left leaves short struck = absurd none
    failed Device none left leaves short struck = record { says = tt; left = struck; opened = tt; running = tt; given = tt; kept = tt; unchanged = λ told. absurd (copy_told left told); short = short; files = leaves; name = goes.name; cap = goes.cap }
    failed Memory none left leaves short struck = record { says = tt; left = struck; opened = tt; running = tt; given = tt; kept = tt; unchanged = λ told. absurd (copy_told left told); short = short; files = leaves; name = goes.name; cap = goes.cap }

    -- a page is copied
    copied : CopiesOn old new a b copier later t → TurnLeaves (Unit {0}) old new (name_of a) t Copies (outcome session Copies now).strokes → Leaving Copies
        → Acts (λ (progress : Progress). None) (Ok More) old new a b t now session Copies files
    copied does leaves left =
        let o = page_is session now in
        record {
          says = ap (λ (x : Outcome). x.reply) o;
          left = left;
          opened = subst (IsOpen new b) (ap (λ (x : Outcome). after_strokes t x.strokes) (sym o) ∙ trail_plain t (event_of session Copies (outcome session Copies now)) refl) does.opened;
          running = goes.running ∙ ready.running ∙ sym (ap (λ (x : Outcome). x.running) o);
          given = given_nothing old new now.given (outcome session Copies now).given does.gave (ap (λ (x : Outcome). x.given) o);
          kept = kept_none new (event_of session Copies (outcome session Copies now)) (ap (λ (x : Outcome). x.made) o);
          unchanged = λ told. absurd (copy_told 1 told);
          short = tt;
          files = leaves;
          name = goes.name;
          cap = goes.cap;
        }

    -- the file is whole, and the row is written
    closed : Foretells now.given [] old new → CloseDone old new a b copier later t (next_time now.given) (close_backup (seen_now now) copier.backing).strokes → new.guids ≡ old.guids
        → TurnLeaves (Unit {0}) old new (name_of a) t last (outcome session last now).strokes → Leaving last → Acts (λ (progress : Progress). None) (Ok Finished) old new a b t now session last files
    closed told does guids leaves left =
        let o = close_is session copier.backing now in
        record {
          says = ap (λ (x : Outcome). x.reply) o ∙ close_reply (seen_now now) copier.backing;
          left = left;
          opened = subst (IsOpen new b) (ap (λ (x : Outcome). after_strokes t x.strokes) (sym o) ∙ trail_plain t (event_of session last (outcome session last now)) refl) does.opened;
          running = goes.running ∙ ready.running ∙ sym (ap (λ (x : Outcome). x.running) o ∙ close_running (seen_now now) copier.backing);
          given = subst (λ (g : Given). WasGiven old new now.given g) (sym (ap (λ (x : Outcome). x.given) o ∙ close_given (seen_now now) copier.backing)) (record {
            ids = [];
            clock = next_time now.given ∷ [];
            guids = guids ∙ sym (append-nil old.guids);
            guids_first = refl;
            times = does.times;
            times_first = first_given 0 old.times new.times now.given.times told.clock told.later_clock told.times told.times_first (next_time now.given) does.times;
          });
          kept = made_by new (event_of session last (outcome session last now)) (name, whole) last_made (kept_one new name whole does.kept);
          unchanged = λ told. absurd (copy_told zero told);
          short = tt;
          files = leaves;
          name = goes.name;
          cap = goes.cap;
        }

    acts_by : (result : Result Progress Fault) (left : ℕ) → left ≡ rest → Foretells now.given (shown_by (copy_first left last) a) old new → BackupCounts result copier later → Does result → Acts (λ progress. None) result old new a b t now session (copy_first left last) files
    acts_by (Ok More) zero none told counts does = absurd (omega (arith, none, counts.0))
    acts_by (Ok More) (suc left) some told counts does = copied does.answer (turn_files (Ok More) (suc left) some does) (turn_left (Ok More) (suc left) some does)
    acts_by (Ok Finished) zero none told counts does = closed told does.answer does.guids (turn_files (Ok Finished) zero none does) (turn_left (Ok Finished) zero none does)
    acts_by (Ok Finished) (suc left) some told counts does = absurd (omega (arith, some, counts.0))
    acts_by (Err fault) left is told counts does = failed fault does.sure left (turn_files (Err fault) left is does) (turn_short (Err fault) left is does) (turn_left (Err fault) left is does)

    -- where one time was given, or none
    module _ (result : Result Progress Fault) (turns : (given : Given) → GaveTimeAtMost old new (next_time given) → BackupTurn result old new a b copier later t (next_time given) (close_backup (seen_with now given) copier.backing).strokes)
        (time : ℕ) (asked : GaveTimeAtMost old new time) where
      turn_once : BackupTurn result old new a b copier later t time (close_backup (seen_with now (record { guids = []; times = time ∷ []; holds = [] })) copier.backing).strokes
      turn_once = turns (record { guids = []; times = time ∷ []; holds = [] }) asked

      turn_grows : Grows old new
      turn_grows = by asked
        where
          by : GaveTimeAtMost old new time → Grows old new
          by (inl nothing) = grows_none old new (record { guids = turn_once.guids; times = nothing })
          by (inr gave) = record { ids = []; clock = time ∷ []; gave = record { guids = turn_once.guids ∙ sym (append-nil old.guids); times = gave }; sixteen = tt }

      pub turn_told : Foretells now.given (shown_by (copy_first rest last) a) old new → Does result
      turn_told told = turns now.given (most_given 0 old.times new.times now.given.times told.clock told.later_clock told.times told.times_first time asked)

      pub turn_acts : BackupCounts result copier later → MayAct (λ progress. None) result old new a b t now session (copy_first rest last) files
      turn_acts counts = record { grows = turn_grows; acts = λ told. acts_by result rest refl told counts (turn_told told) }

      -- it isn't refused
      pub turn_sure : IfErr result IsNoRefusal
      turn_sure = turn_once.sure

  -- What is left after it.
  module _ (runs : a.running ≡ Some session) where
    pub more_behind : later.backing ≡ copier.backing → BackupCounts (Ok More) copier later → IsBackingUp new later t.base.frozen → IsBehind new b session (copy_first rest last) (copy_rest rest last) now (Some (Backup later))
    more_behind backed counts further = by rest refl
      where
        by : (left : ℕ) → left ≡ rest → IsBehind new b session (copy_first left last) (copy_rest left last) now (Some (Backup later))
        by zero none = absurd (omega (arith, none, counts.0))
        by (suc left) some =
            let one : left ≡ file_count later.file - file_next later.file = omega (arith, some, counts.0, counts.1, counts.2) in
            record {
              next = ap (λ (o : Outcome). o.next ++ copy_rest (suc left) last) (page_is session now) ∙ copy_turns left last ∙ ap (λ (n : ℕ). copy_first n last ∷ copy_rest n last) one
                  ∙ ap (λ (x : Backing). copy_first (file_count later.file - file_next later.file) (ClosesBackup x) ∷ copy_rest (file_count later.file - file_next later.file) (ClosesBackup x)) (sym backed);
              goes = (
                subst (IsBackingUp new later) (frozen_is ∙ ap (λ (x : Base). x.frozen) (sym (no_stroke (base_now now) (outcome session Copies now).strokes (ap (λ (o : Outcome). o.strokes) (page_is session now))))) further,
                record { plain = ap (λ (x : Backing). is_delta x.name) backed ∙ apart.plain; other = λ own. apart.other (ap (λ (x : Backing). x.name) (sym backed) ∙ own ∙ goes.name) },
                goes.running ∙ runs,
              );
            }

    pub close_behind : (reply : Reply) → reply ≡ Level later.backing.ask.level later.backing.scn (file_written later.file) later.backing.guid → later.backing ≡ copier.backing → BackupCounts (Ok Finished) copier later
        → file_written later.file ≡ count_in (kept_of copier.backing t.base.frozen) copier.backing.ask → IsBehind new b session (copy_first rest last) (copy_rest rest last) now (Some (End reply))
    close_behind reply is_level backed counts written = by rest refl
      where
        by : (left : ℕ) → left ≡ rest → IsBehind new b session (copy_first left last) (copy_rest left last) now (Some (End reply))
        by (suc left) some = absurd (omega (arith, some, counts.0))
        by zero none = record {
          next = ap (λ (xs : List Turn). xs ++ []) (ap (λ (o : Outcome). o.next) (close_is session copier.backing now) ∙ close_next (seen_now now) copier.backing)
              ∙ ap (λ (n : ℕ). Ends (Level copier.backing.ask.level copier.backing.scn n copier.backing.guid) ∷ []) (sym (written ∙ ap (λ (f : Image). count_in (kept_of copier.backing f) copier.backing.ask) frozen_is))
              ∙ ap (λ (x : Backing). Ends (Level x.ask.level x.scn (file_written later.file) x.guid) ∷ []) (sym backed)
              ∙ ap (λ (r : Reply). Ends r ∷ []) (sym is_level);
          goes = goes.running ∙ runs;
        }

-- What a further turn may rely on.
pub record MayGoOn (held : Held) (t : Trail) (copier : Backed) : Type 0 where
  pub stalled : held.files.state ≡ stalled_state
  pub entry : HasItsEntry t.base.image copier.backing.page
  pub below : copier.backing.page < length t.base.image
  pub apart : OfFiles (name_of held) copier.backing.name → ⊥

pub may_go_on : {sound : Bool} (w : World) (held : Held) (t : Trail) (now : Now) (session : ℕ) (copier : Backed) (more : List Turn) → IsReady w held t now → IsGoing sound now
    → slice_index_or now.todo (session - 1) [] ≡ copy_first (file_count copier.file - file_next copier.file) (ClosesBackup copier.backing) ∷ (copy_rest (file_count copier.file - file_next copier.file) (ClosesBackup copier.backing) ++ more)
    → IsApart held copier.backing.name → MayGoOn held t copier
may_go_on {sound = sound} w held t now session copier more ready going here apart =
    let backs : BacksUp now (session - 1) copier.backing =
    backing_at now (session - 1) (file_count copier.file - file_next copier.file) copier.backing more (subst (IsAt sound now (session - 1)) here (going.each (session - 1))) in
    record {
      stalled = stalled_now w held t now (session - 1) ready backs.runs;
      entry = subst (λ (x : Base). HasItsEntry x.image copier.backing.page) (sym ready.base) backs.entry;
      below = subst (λ (x : Base). copier.backing.page < length x.image) (sym ready.base) backs.below;
      apart = apart_files held copier.backing.name apart;
    }

-- A further turn, by what its call promises of it.
module _ (how : Told) (old mid : World) (a b : Held) (t : Trail) (now : Now) (session : ℕ) (copier later : Backed) (more : List Turn) (ready : IsReady old a t now) (makes : IsMaking now)
    (here : slice_index_or now.todo (session - 1) [] ≡ task_first (Backup copier) ∷ (task_rest (Backup copier) ++ more)) (further : TaskGoes session old a t.base.frozen (Some (Backup copier))) (goes : Goes a b)
    (reads : Leaves old copier.backing.name (old.files copier.backing.name)) (reads_then : (m : List ℕ) → Leaves mid m (mid.files m)) where
  abbrev next_one : Turn
  next_one = task_first (Backup copier)

  abbrev next_ones : List Turn
  next_ones = task_rest (Backup copier)

  abbrev its_file : List MadeFile
  its_file = (copier.backing.name, whole_file copier.file t.base.frozen) ∷ []

  its_file_is : its_file ≡ touching session next_one next_ones now
  its_file_is = backup_files old mid a b t now session copier later ready further.0 further.1 goes

  going_on : MayGoOn a t copier
  going_on = may_go_on old a t now session copier more ready makes.going here further.1

  -- with each time that may be given
  abbrev Promised : Result Progress Fault → Type 0
  Promised result = (given : Given) → MayGoOn a t copier → GaveTimeAtMost old mid (next_time given) → BackupTurn result old mid a b copier later t (next_time given) (close_backup (seen_with now given) copier.backing).strokes

  abbrev Asks : Type 0
  Asks = MayGoOn a t copier → (time : ℕ) × GaveTimeAtMost old mid time

  module _ (result : Result Progress Fault) (promised : Promised result) (asks : Asks) (counts : BackupCounts result copier later) where
    its_acts : MayAct (λ progress. None) result old mid a b t now session next_one its_file
    its_acts = turn_acts old mid a b t now session copier later ready further.0 further.1 goes reads result (λ given. promised given going_on) (asks going_on).0 (asks going_on).1 counts

    its_marks : Acts (λ progress. None) result old mid a b t now session next_one its_file → Marks old mid a its_file
    its_marks = marks_made (λ progress. None) result old mid a b t now session next_one its_file (apart_one a copier.backing.name _ further.1) reads_then

    its_turn : Foretells now.given (shown_by next_one a) old mid → BackupTurn result old mid a b copier later t (next_time now.given) (close_backup (seen_now now) copier.backing).strokes
    its_turn = turn_told old mid a b t now session copier later ready further.0 further.1 goes reads result (λ given. promised given going_on) (asks going_on).0 (asks going_on).1

  -- a page was dealt with
  pub backup_more : (p : Progress) → p ≡ More → Promised (Ok p) → Asks → BackupCounts (Ok p) copier later → later.backing ≡ copier.backing
      → Turns how left_refused (left_task (Some (Backup later))) (Ok Same) old mid a b t now session next_one next_ones more
  backup_more Finished is promised asks counts backed = absurd (finished_not is)
  backup_more More is promised asks counts backed =
      turns_quiet how (λ (progress : Progress). None) (Ok More) left_refused (left_task (Some (Backup later))) old mid mid a b t now session next_one next_ones more its_file its_file_is makes here
      (its_acts (Ok More) promised asks counts) (its_marks (Ok More) promised asks counts) Same tt refl ready (λ said none. none)
      (λ told. more_behind old mid a b t now session copier later ready further.0 further.1 goes further.2 backed counts (its_turn (Ok More) promised asks counts told).answer.goes)

  -- its row was written
  pub backup_closed : (p : Progress) → p ≡ Finished → Promised (Ok p) → Asks → BackupCounts (Ok p) copier later → later.backing ≡ copier.backing → (reply : Reply) → reply ≡ Level later.backing.ask.level later.backing.scn (file_written later.file) later.backing.guid
      → (taken : Taken) → taken ≡ record { task = Some (End reply); refused = false } → Turns how left_refused (left_task (Some (Backup later))) (Ok (Other taken)) old mid a b t now session next_one next_ones more
  backup_closed More is promised asks counts backed reply says taken under = absurd (more_not is)
  backup_closed Finished is promised asks counts backed reply says taken under =
      turns_quiet how (λ (progress : Progress). None) (Ok Finished) left_refused (left_task (Some (Backup later))) old mid mid a b t now session next_one next_ones more its_file its_file_is makes here
      (its_acts (Ok Finished) promised asks counts) (its_marks (Ok Finished) promised asks counts) (Other taken) tt (ap (λ (x : Taken). x.refused) under) ready (λ said none. none)
      (λ told. subst (λ (x : Taken). IsBehind mid b session next_one next_ones now x.task) (sym under)
      (close_behind old mid a b t now session copier later ready further.0 further.1 goes further.2 reply says backed counts (its_turn (Ok Finished) promised asks counts told).answer.written))

  -- it isn't refused, and ended early
  pub backup_lost : (fault : Fault) → Promised (Err fault) → Asks → (new : World) (ended : Result Taken RunError) → (same : Type 0) → (same → new ≡ mid) → EndsEarly session fault ended mid new same → (answer : Result Left RunError) → (IsErr ended → IsErr answer)
      → (RanOut answer → RanOut ended) → Turns how left_refused (left_task (Some (Backup later))) answer old new a b t now session next_one next_ones more
  backup_lost fault promised asks new ended same is_same early answer passed out =
      turns_lost how (λ (progress : Progress). None) left_refused (left_task (Some (Backup later))) old mid new a b t now session next_one next_ones more its_file its_file_is makes here fault
      (turn_sure old mid a b t now session copier later ready further.0 further.1 goes reads (Err fault) (λ given. promised given going_on) (asks going_on).0 (asks going_on).1)
      (its_acts (Err fault) promised asks tt) (its_marks (Err fault) promised asks tt) ended same is_same early answer passed out
