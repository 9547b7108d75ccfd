-- The first turn of a statement is refused, or nothing stood in the way of what it does.
use Rattle.std.proofs.Common.{◌≡◌, ◌≢◌, inl, inr, ℕ, zero, suc, ◌+◌, ◌≤◌, List, [], ◌∷◌, ◌++◌, length, replicate, refl, sym, ap, ◌∙◌, arith, subst, Bool, true, false, not, ◌==◌, nat_lt, Option, Some, None, is_none}
use Rattle.nb_model.proofs.Common.{true≢false, eqb-true, lt-ltb, leb_tells, normal_state, stalled_state, Refusal, WrongState, NoHistory, NoGuid, Reply, Scn, Refused, Statement, CreateDb, OpenDb, PageNew, Write, Free, BeginBackup, EndBackup, Activate, Backup, BackupSince, CopyTo, CreateTable, DropTable, Insert, Update, Delete, Get, Scan, Forced, Reclaim, ShowCache, Ask, same_name, room_in, ask_of, level_behind, starts, backup_turn, since_turn, copy_turn, close_backup, close_copy, Cause, first_cause, when, read_only, not_state, no_scn, not_free, is_free_entry, runs_other, runs_any, broken_at, not_of_form, no_room, short_for, Chain, History, Slot, Spot, pages_of, backup_spot, level_in, guid_in, free_spot, spots, Draft, Image, image_state, image_scn, is_read_only, Turn, Begins, Copies, ClosesBackup, ClosesCopy, Ends, Merges, Finishes, Seen, Given, Outcome, next_guid, without_guid, without_hold, says, unless, changes, new_turn, write_turn, free_turn, begin_turn, end_turn, activate_turn, activated, ends_by, end_scn, forced_turn, access_turn, cache_turn, begin, with_spot, in_table, in_row, create_turn, drop_turn, insert_turn, update_turn, delete_turn, get_turn, scan_turn, reclaim_turn, first_turn, turn, is_on_pages, false_true}
use Rattle.nb_model.specs.declared.statement.Statement.TheVariants.{Access as SetAccess}
use Rattle.nb_model.proofs.PutSound.{no_first, not_when}
use Rattle.nb_model.proofs.ToldTurns.{is_told, does_more, told_turn, pages_cases}

-- A statement is one on pages, or one of the six that begin and end backups and copies.
pub statement_cases : (P : Statement → Type 0) → ((statement : Statement) → is_on_pages statement ≡ true → P statement) → P BeginBackup → P EndBackup → P Activate
    → ((level : ℕ) (name : List ℕ) → P (Backup level name)) → ((guid name : List ℕ) → P (BackupSince guid name)) → ((name : List ℕ) → P (CopyTo name)) → (statement : Statement) → P statement
statement_cases P pages begins ends activates backs sinces copies BeginBackup = begins
statement_cases P pages begins ends activates backs sinces copies EndBackup = ends
statement_cases P pages begins ends activates backs sinces copies Activate = activates
statement_cases P pages begins ends activates backs sinces copies (Backup level name) = backs level name
statement_cases P pages begins ends activates backs sinces copies (BackupSince guid name) = sinces guid name
statement_cases P pages begins ends activates backs sinces copies (CopyTo name) = copies name
statement_cases P pages begins ends activates backs sinces copies other = pages other refl

-- it is refused
abbrev pub refused : Seen → Refusal → Outcome
refused s r = says s (Refused r) []

pub unless_either : (P : Outcome → Type 0) (s : Seen) (c : Cause) (o : Outcome) → ((r : Refusal) → P (refused s r)) → (c ≡ None → P o) → P (unless s c o)
unfolding unless
unless_either P s None o denied done = done refl
unless_either P s (Some r) o denied done = denied r

-- tests that don't apply
pub no_cause : first_cause [] ≡ None
unfolding first_cause
no_cause = refl

pub one_cause : (c : Cause) → first_cause (c ∷ []) ≡ c
unfolding first_cause
one_cause None = refl
one_cause (Some r) = refl

is_not : (m n : ℕ) (r : Refusal) → when (not (m == n)) r ≡ None → m ≡ n
is_not m n r none = by (m == n) refl (not_when (not (m == n)) r none)
  where
    by : (t : Bool) → (m == n) ≡ t → not t ≡ false → m ≡ n
    by true is h = eqb-true m n is
    by false is h = absurd (true≢false h)

pub is_so : (t : Bool) (r : Refusal) → when (not t) r ≡ None → t ≡ true
is_so true r none = refl
is_so false r none = absurd (true≢false (not_when true r none))

not_more : (m n : ℕ) (r : Refusal) → when (nat_lt m n) r ≡ None → n ≤ m
not_more m n r none = elim (leb_tells n m) [ inl w ↦ w.1 | inr w ↦ absurd (true≢false (sym (lt-ltb m n (omega (arith, w.1))) ∙ not_when (nat_lt m n) r none)) ]

-- `begin`
pub record MayBegin (image : Image) : Type 0 where
  pub writable : is_read_only image ≡ false
  pub normal : image_state image ≡ normal_state
  pub scn : image_scn image ≤ 4294967293

begin_facts : (image : Image) → first_cause (read_only image ∷ not_state normal_state image ∷ no_scn image ∷ []) ≡ None → MayBegin image
begin_facts image none =
    let a = no_first (read_only image) _ none in
    let b = no_first (not_state normal_state image) _ a.1 in
    record { writable = not_when (is_read_only image) _ a.0; normal = is_not (image_state image) 0 _ b.0; scn = not_more 4294967293 (image_scn image) _ (no_first (no_scn image) _ b.1).0 }

abbrev pub begun : Seen → Outcome
begun s = record {
  strokes = begin (next_guid s.given) None ∷ [];
  reply = Some (Scn (image_scn s.base.image + 1));
  next = [];
  running = s.running;
  made = None;
  given = without_guid s.given;
}

pub begin_either : (P : Outcome → Type 0) (s : Seen) → ((r : Refusal) → P (refused s r)) → (MayBegin s.base.image → P (begun s)) → P (begin_turn s)
unfolding begin_turn
begin_either P s denied done = unless_either P s (first_cause (read_only s.base.image ∷ not_state normal_state s.base.image ∷ no_scn s.base.image ∷ [])) (begun s) denied (λ none. done (begin_facts s.base.image none))

-- `end`
pub record MayEnd (s : Seen) (session : ℕ) : Type 0 where
  pub other : image_state s.base.image ≢ normal_state
  pub alone : runs_other s.running session ≡ None

end_facts : (s : Seen) (session : ℕ) → first_cause (when (image_state s.base.image == normal_state) (WrongState 0) ∷ runs_other s.running session ∷ []) ≡ None → MayEnd s session
end_facts s session none =
    let a = no_first (when (image_state s.base.image == normal_state) (WrongState 0)) _ none in
    record {
      other = λ e. true≢false (sym (ap (λ (n : ℕ). n == 0) e) ∙ not_when (image_state s.base.image == normal_state) _ a.0);
      alone = (no_first (runs_other s.running session) _ a.1).0;
    }

abbrev pub ended : Seen → (session : ℕ) → Outcome
ended s session = ends_by s session (Scn (end_scn s.base.image))

pub end_either : (P : Outcome → Type 0) (s : Seen) (session : ℕ) → ((r : Refusal) → P (refused s r)) → (MayEnd s session → P (ended s session)) → P (end_turn s session)
unfolding end_turn
end_either P s session denied done =
    unless_either P s (first_cause (when (image_state s.base.image == normal_state) (WrongState 0) ∷ runs_other s.running session ∷ [])) (ended s session) denied (λ none. done (end_facts s session none))

-- `activate`
pub activate_either : (P : Outcome → Type 0) (s : Seen) (session : ℕ) → ((r : Refusal) → P (refused s r)) → P (says s (activated s.base) []) → (MayEnd s session → P (ends_by s session (activated s.base))) → P (activate_turn s session)
unfolding activate_turn
activate_either P s session denied normal done = by (image_state s.base.image == normal_state) refl
  where
    by : (t : Bool) → (image_state s.base.image == normal_state) ≡ t
        → P (elim t as (λ z. Outcome) [ true ↦ says s (activated s.base) [] | false ↦ unless s (runs_other s.running session) (ends_by s session (activated s.base)) ])
    by true is = normal
    by false is = unless_either P s (runs_other s.running session) _ denied (λ none. done (record { other = λ e. true≢false (sym (ap (λ (n : ℕ). n == 0) e) ∙ is); alone = none }))

-- no other session runs
pub its_own : (other session : ℕ) → runs_other (Some other) session ≡ None → other ≡ session
its_own other session none = is_not other session _ none

-- The start of a backup.
pub record MayStart (s : Seen) (name : List ℕ) : Type 0 where
  pub may : MayBegin s.base.image
  pub free : is_free_entry (s.entry name) ≡ true
  pub unbroken : broken_at (pages_of History s.base.image) ≡ None
  pub short : short_for (free_spot (spots History s.base.image)) s.base.image ≡ None
  pub formed : not_of_form (room_in s.base.image).draft ≡ None
  pub left : (room_in s.base.image).draft.full ≡ false

abbrev pub start_cause : Seen → (name : List ℕ) → (missing : Cause) → Cause
start_cause s name missing = first_cause (
    read_only s.base.image
    ∷ not_state normal_state s.base.image
    ∷ not_free name (s.entry name)
    ∷ broken_at (pages_of History s.base.image)
    ∷ missing
    ∷ short_for (free_spot (spots History s.base.image)) s.base.image
    ∷ not_of_form (room_in s.base.image).draft
    ∷ no_room (room_in s.base.image).draft
    ∷ no_scn s.base.image
    ∷ [])

pub start_facts : (s : Seen) (name : List ℕ) (missing : Cause) → start_cause s name missing ≡ None → MayStart s name × (missing ≡ None)
start_facts s name missing none =
    let image : Image = s.base.image in
    let d : Draft = (room_in image).draft in
    let a = no_first (read_only image) _ none in
    let b = no_first (not_state normal_state image) _ a.1 in
    let c = no_first (not_free name (s.entry name)) _ b.1 in
    let e = no_first (broken_at (pages_of History image)) _ c.1 in
    let f = no_first missing _ e.1 in
    let short = no_first (short_for (free_spot (spots History image)) image) _ f.1 in
    let g = no_first (not_of_form d) _ short.1 in
    let h = no_first (no_room d) _ g.1 in (
      record {
        may = record { writable = not_when (is_read_only image) _ a.0; normal = is_not (image_state image) 0 _ b.0; scn = not_more 4294967293 (image_scn image) _ (no_first (no_scn image) _ h.1).0 };
        free = is_so (is_free_entry (s.entry name)) _ c.0;
        unbroken = e.0;
        short = short.0;
        formed = g.0;
        left = not_when d.full _ h.0;
      },
      f.0,
    )

abbrev pub started : Seen → (session : ℕ) → (name : List ℕ) → Ask → Outcome
started s session name ask = record {
  strokes = (room_in s.base.image).draft.strokes ++ begin (next_guid s.given) (Some ask) ∷ [];
  reply = None;
  next = replicate (length (room_in s.base.image).draft.image) Copies
      ++ ClosesBackup (record { name = name; ask = ask; scn = image_scn s.base.image; guid = next_guid s.given; page = (room_in s.base.image).page; slot = (room_in s.base.image).slot }) ∷ [];
  running = Some session;
  made = None;
  given = without_guid s.given;
}

pub starts_either : (P : Outcome → Type 0) (s : Seen) (session : ℕ) (name : List ℕ) (ask : Ask) (missing : Cause) → ((r : Refusal) → P (refused s r))
    → (MayStart s name → missing ≡ None → P (started s session name ask)) → P (starts s session name ask missing)
unfolding starts
starts_either P s session name ask missing denied done =
    unless_either P s (start_cause s name missing) (started s session name ask) denied (λ none. let facts = start_facts s name missing none in done facts.0 facts.1)

-- from which backup one goes on: from none, or from that of a row of the history that is there
pub data IsFrom (image : Image) (ask : Ask) : Type 0 where
  whole : ask ≡ ask_of 0 None → IsFrom image ask
  since : (level : ℕ) (test : Slot → Bool) (row : Spot) → backup_spot test image ≡ Some row → ask ≡ ask_of level (Some row) → IsFrom image ask

-- a backup since the last row that passes a test, where its level goes by the row
since_row : (P : Outcome → Type 0) (s : Seen) (session : ℕ) (name : List ℕ) (test : Slot → Bool) (level : Option Spot → ℕ) (missing : Refusal) → ((r : Refusal) → P (refused s r))
    → ((ask : Ask) → IsFrom s.base.image ask → MayStart s name → P (started s session name ask))
    → P (starts s session name (ask_of (level (backup_spot test s.base.image)) (backup_spot test s.base.image)) (when (is_none (backup_spot test s.base.image)) missing))
since_row P s session name test level missing denied done =
    let from : Option Spot = backup_spot test s.base.image in
    starts_either P s session name (ask_of (level from) from) (when (is_none from) missing) denied (λ may found. by from refl found may)
  where
    by : (from : Option Spot) → backup_spot test s.base.image ≡ from → when (is_none from) missing ≡ None → MayStart s name → P (started s session name (ask_of (level from) from))
    by (Some row) is found may = done (ask_of (level (Some row)) (Some row)) (since (level (Some row)) test row is refl) may
    by None is found may = absurd (true≢false (not_when true _ found))

pub backup_either : (P : Outcome → Type 0) (s : Seen) (session level : ℕ) (name : List ℕ) → ((r : Refusal) → P (refused s r))
    → ((ask : Ask) → IsFrom s.base.image ask → MayStart s name → P (started s session name ask)) → P (backup_turn s session level name)
unfolding backup_turn
backup_either P s session zero name denied done = starts_either P s session name (ask_of 0 None) None denied (λ may none. done (ask_of 0 None) (whole refl) may)
backup_either P s session (suc below) name denied done = since_row P s session name (λ slot. level_in slot == below) (λ from. suc below) (NoHistory below) denied done

pub since_either : (P : Outcome → Type 0) (s : Seen) (session : ℕ) (guid name : List ℕ) → ((r : Refusal) → P (refused s r))
    → ((ask : Ask) → IsFrom s.base.image ask → MayStart s name → P (started s session name ask)) → P (since_turn s session guid name)
unfolding since_turn
since_either P s session guid name denied done = since_row P s session name (λ slot. same_name (guid_in slot) guid) level_behind (NoGuid guid) denied done

-- `copy`
pub record MayCopy (s : Seen) (name : List ℕ) : Type 0 where
  pub stalled : image_state s.base.image ≡ stalled_state
  pub alone : s.running ≡ None
  pub free : is_free_entry (s.entry name) ≡ true

copy_facts : (s : Seen) (name : List ℕ) → first_cause (not_state stalled_state s.base.image ∷ runs_any s.running ∷ not_free name (s.entry name) ∷ []) ≡ None → MayCopy s name
copy_facts s name none =
    let a = no_first (not_state stalled_state s.base.image) _ none in
    let b = no_first (runs_any s.running) _ a.1 in
    record { stalled = is_not (image_state s.base.image) 1 _ a.0; alone = by s.running b.0; free = is_so (is_free_entry (s.entry name)) _ (no_first (not_free name (s.entry name)) _ b.1).0 }
  where
    by : (running : Option ℕ) → runs_any running ≡ None → running ≡ None
    by None h = refl
    by (Some other) h = cc

abbrev pub copied : Seen → (session : ℕ) → (name : List ℕ) → Outcome
copied s session name = record {
  strokes = [];
  reply = None;
  next = replicate (length s.base.frozen) Copies ++ ClosesCopy name ∷ [];
  running = Some session;
  made = None;
  given = s.given;
}

pub copy_either : (P : Outcome → Type 0) (s : Seen) (session : ℕ) (name : List ℕ) → ((r : Refusal) → P (refused s r)) → (MayCopy s name → P (copied s session name)) → P (copy_turn s session name)
unfolding copy_turn
copy_either P s session name denied done =
    unless_either P s (first_cause (not_state stalled_state s.base.image ∷ runs_any s.running ∷ not_free name (s.entry name) ∷ [])) (copied s session name) denied (λ none. done (copy_facts s name none))

-- what is still to be given after a statement on pages: `show cache` takes a number of pages that are held
abbrev pub left_by : Statement → Given → Given
left_by ShowCache given = without_hold given
left_by other given = given

-- it takes no GUID
pub left_guids : (statement : Statement) (given : Given) → (left_by statement given).guids ≡ given.guids
left_guids ShowCache given = refl
left_guids other given = refl

-- A statement on pages does all that it does in one turn, and runs nothing. This is still to be given then.
pub record IsOnce (s : Seen) (left : Given) (o : Outcome) : Type 0 where
  pub next : o.next ≡ []
  pub running : o.running ≡ s.running
  pub made : o.made ≡ None
  pub given : o.given ≡ left

pub refused_once : (s : Seen) (r : Refusal) → IsOnce s s.given (refused s r)
refused_once s r = record { next = refl; running = refl; made = refl; given = refl }

unless_once : (s : Seen) (c : Cause) (o : Outcome) → IsOnce s s.given o → IsOnce s s.given (unless s c o)
unless_once s c o h = unless_either (IsOnce s s.given) s c o (refused_once s) (λ none. h)

changes_once : (s : Seen) (cs : List Cause) (d : Draft) (reply : Reply) → IsOnce s s.given (changes s cs d reply)
unfolding changes
changes_once s cs d reply = unless_once s _ _ (record { next = refl; running = refl; made = refl; given = refl })

-- so does one on tables
spot_once : (s : Seen) (o : Option Spot) (r : Refusal) (go : Spot → Outcome) → ((spot : Spot) → IsOnce s s.given (go spot)) → IsOnce s s.given (with_spot s o r go)
unfolding with_spot
spot_once s None r go h = refused_once s r
spot_once s (Some spot) r go h = h spot

table_once : (s : Seen) (before : Cause) (table : List ℕ) (behind : Cause) (go : Spot → Chain → Outcome) → ((spot : Spot) (chain : Chain) → IsOnce s s.given (go spot chain)) → IsOnce s s.given (in_table s before table behind go)
unfolding in_table
table_once s before table behind go h = unless_once s _ _ (spot_once s _ _ _ (λ spot. unless_once s _ _ (h spot _)))

row_once : (s : Seen) (chain : Chain) (key : ℕ) (bytes : Slot) → IsOnce s s.given (in_row s chain key bytes)
unfolding in_row
row_once s chain key bytes = spot_once s _ _ _ (λ row. changes_once s _ _ _)

says_once : (s : Seen) (reply : Reply) → IsOnce s s.given (says s reply [])
says_once s reply = record { next = refl; running = refl; made = refl; given = refl }

-- one that only tells something leaves all that was to be given
told_left : (statement : Statement) → is_told statement ≡ true → (given : Given) → left_by statement given ≡ given
told_left ShowCache is given = absurd (false_true is)
told_left other is given = refl

told_once : (statement : Statement) → is_told statement ≡ true → (s : Seen) (session : ℕ) → IsOnce s (left_by statement s.given) (first_turn s session statement)
told_once statement is s session =
    let tells = told_turn statement is s session in
    subst (λ (g : Given). IsOnce s g (first_turn s session statement)) (sym (told_left statement is s.given)) (subst (IsOnce s s.given) (sym tells.is) (unless_once s _ _ (says_once s tells.reply)))

more_once : (statement : Statement) → does_more statement ≡ true → (s : Seen) (session : ℕ) → IsOnce s (left_by statement s.given) (first_turn s session statement)
unfolding first_turn new_turn write_turn free_turn forced_turn access_turn cache_turn create_turn drop_turn insert_turn update_turn delete_turn get_turn scan_turn reclaim_turn
more_once (CreateDb name size raw cache) on s session = record { next = refl; running = refl; made = refl; given = refl }
more_once (OpenDb name cache) on s session = record { next = refl; running = refl; made = refl; given = refl }
more_once PageNew on s session = changes_once s _ _ _
more_once (Write p text) on s session = changes_once s _ _ _
more_once (Free p) on s session = changes_once s _ _ _
more_once (Forced forced) on s session = unless_once s _ _ (record { next = refl; running = refl; made = refl; given = refl })
more_once (SetAccess closed) on s session = unless_once s _ _ (record { next = refl; running = refl; made = refl; given = refl })
more_once Reclaim on s session = unless_once s _ _ (record { next = refl; running = refl; made = refl; given = refl })
more_once ShowCache on s session = record { next = refl; running = refl; made = refl; given = refl }
more_once (CreateTable table) on s session = changes_once s _ _ _
more_once (DropTable table) on s session = table_once s _ table _ _ (λ spot chain. changes_once s _ _ _)
more_once (Insert table key text) on s session = table_once s _ table _ _ (λ spot chain. changes_once s _ _ _)
more_once (Update table key text) on s session = table_once s _ table _ _ (λ spot chain. row_once s chain key _)
more_once (Delete table key) on s session = table_once s _ table _ _ (λ spot chain. row_once s chain key _)
more_once (Get table key) on s session = table_once s _ table _ _ (λ spot chain. spot_once s _ _ _ (λ row. says_once s _))
more_once (Scan table) on s session = table_once s _ table _ _ (λ spot chain. says_once s _)
more_once other on s session = absurd (false_true on)

pub pages_once : (statement : Statement) → is_on_pages statement ≡ true → (s : Seen) (session : ℕ) → IsOnce s (left_by statement s.given) (first_turn s session statement)
pages_once = pages_cases (λ statement. (s : Seen) (session : ℕ) → IsOnce s (left_by statement s.given) (first_turn s session statement)) told_once more_once

-- The first turn of a statement leaves these numbers to be given.
pub first_holds : (s : Seen) (session : ℕ) (statement : Statement) → (first_turn s session statement).given.holds ≡ (left_by statement s.given).holds
unfolding first_turn ends_by
first_holds s session = statement_cases (λ x. (first_turn s session x).given.holds ≡ (left_by x s.given).holds)
    (λ x on. ap (λ (g : Given). g.holds) (pages_once x on s session).given)
    (begin_either Same s (λ r. refl) (λ may. refl))
    (end_either Same s session (λ r. refl) (λ may. refl))
    (activate_either Same s session (λ r. refl) refl (λ may. refl))
    (λ level name. backup_either Same s session level name (λ r. refl) (λ ask is may. refl))
    (λ guid name. since_either Same s session guid name (λ r. refl) (λ ask is may. refl))
    (λ name. copy_either Same s session name (λ r. refl) (λ may. refl))
  where
    Same : Outcome → Type 0
    Same o = o.given.holds ≡ s.given.holds

-- and so each turn: `show cache` takes one, and no other takes any
abbrev pub left_behind : Turn → Given → Given
left_behind (Begins statement) given = left_by statement given
left_behind other given = given

pub turn_holds : (s : Seen) (session : ℕ) (t : Turn) → (turn s session t).given.holds ≡ (left_behind t s.given).holds
unfolding turn ends_by close_backup close_copy
turn_holds s session (Begins statement) = first_holds s session statement
turn_holds s session Copies = refl
turn_holds s session (ClosesBackup backing) = refl
turn_holds s session (ClosesCopy name) = refl
turn_holds s session (Ends reply) = refl
turn_holds s session Merges = refl
turn_holds s session (Finishes reply) = refl
