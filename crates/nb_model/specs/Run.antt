-- The run of a script: its first statement, then one turn for each number of the schedule, then turns round robin.
use Rattle.std.specs.Prelude.{◌≡◌, ℕ, zero, suc, ◌-◌, List, [], ◌∷◌, ◌++◌, length, map, slice_set, Option, Some, None, Bool, true, false}
use Rattle.std.specs.List.{slice_index_or}
use Rattle.nb_fields.specs.Fresh.{fresh, fresh_count}
use Rattle.nb_model.specs.declared.reply.Reply.{Reply}
use Rattle.nb_model.specs.declared.reply.Reply.TheVariants.{Pages, Opened, Refused}
use Rattle.nb_model.specs.declared.statement.Statement.{Statement}
use Rattle.nb_model.specs.declared.statement.Statement.TheVariants.{CreateDb, OpenDb, Sync}
use Rattle.nb_model.specs.Image.{Image, image_state}
use Rattle.nb_model.specs.Account.{Base, Plain, IsBase, Account, with_entry}
use Rattle.nb_model.specs.Strokes.{Stroke, make, base_in, base_after, records_after}
use Rattle.nb_model.specs.Causes.{Cause, not_free}
use Rattle.nb_model.specs.Owner.{not_opened}
use Rattle.nb_model.specs.Outcomes.{Turn, Begins, Given, Outcome}
use Rattle.nb_model.specs.Turns.{turn}

-- What stands between two turns: the database's name, the size of its cache, the account, whose copy or merge runs, what the
-- outside has still to give, and what each session has still to do, session 1 first.
pub record Now : Type 0 where
  pub name : List ℕ
  pub cache : ℕ
  pub account : Account
  pub running : Option ℕ
  pub given : Given
  pub todo : List (List Turn)

-- what one turn did: whose it was, its strokes, what it said, the file that it made whole, and whether all that waited was
-- written and synced with it
pub record Event : Type 0 where
  pub session : ℕ
  pub strokes : List Stroke
  pub reply : Option Reply
  pub made : Option (List ℕ × List ℕ)
  pub syncs : Bool

-- the database that is attached
abbrev pub base_now : Now → Base
base_now now = base_in (now.account.entry now.name)

-- the account with a file that was made
unfoldable pub with_made : Option (List ℕ × List ℕ) → Account → Account
with_made None account = account
with_made (Some made) account = with_entry made.0 (Plain made.1 None) account

-- the account after the strokes of one turn and with the file that it made
unfoldable pub account_after : (name : List ℕ) → List Stroke → Option (List ℕ × List ℕ) → Account → Account
account_after name strokes made account =
    let b : Base = base_in (account.entry name) in
    record {
      entry = (with_entry name (IsBase (base_after b strokes)) (with_made made account)).entry;
      kept = account.kept ++ records_after b strokes;
    }

-- what the next turn of a session does
unfoldable pub outcome : (session : ℕ) → Turn → Now → Outcome
outcome session t now =
    turn (record { base = base_now now; cache = now.cache; running = now.running; entry = now.account.entry; given = now.given }) session t

-- what stands after it, where these turns were left after it
unfoldable pub stands_then : (session : ℕ) → (rest : List Turn) → Outcome → Now → Now
stands_then session rest o now = record {
  name = now.name;
  cache = now.cache;
  account = account_after now.name o.strokes o.made now.account;
  running = o.running;
  given = o.given;
  todo = slice_set now.todo (session - 1) (o.next ++ rest);
}

-- the statement `sync`
abbrev pub is_sync : Turn → Bool
is_sync (Begins Sync) = true
is_sync other = false

abbrev pub event_of : (session : ℕ) → Turn → Outcome → Event
event_of session t o = record { session = session; strokes = o.strokes; reply = o.reply; made = o.made; syncs = is_sync t }

-- events, and what stands after them
abbrev pub Played : Type 0
Played = List Event × Now

-- one turn of the session that has these turns to do; a session that has finished does nothing
unfoldable pub take_turn : (session : ℕ) → List Turn → Now → Played
take_turn session [] now = ([], now)
take_turn session (t ∷ rest) now = (event_of session t (outcome session t now) ∷ [], stands_then session rest (outcome session t now) now)

-- one number of the order of turns
unfoldable pub one_turn : (session : ℕ) → Now → Played
one_turn session now = take_turn session (slice_index_or now.todo (session - 1) []) now

-- the numbers of an order, one after the other
unfoldable pub play : (order : List ℕ) → Now → Played
play [] now = ([], now)
play (session ∷ order) now =
    let here : Played = one_turn session now in
    let later : Played = play order here.1 in
    (here.0 ++ later.0, later.1)

-- the sessions in rising order
abbrev pub all_sessions : List ℕ
all_sessions = 1 ∷ 2 ∷ 3 ∷ 4 ∷ 5 ∷ 6 ∷ 7 ∷ 8 ∷ 9 ∷ 10 ∷ 11 ∷ 12 ∷ 13 ∷ 14 ∷ 15 ∷ 16 ∷ []

-- so often
unfoldable pub rounds : ℕ → List ℕ
rounds zero = []
rounds (suc n) = all_sessions ++ rounds n

-- every session has finished
abbrev pub AreFinished : List (List Turn) → Type 0
AreFinished [] = Unit {0}
AreFinished ([] ∷ rest) = AreFinished rest
AreFinished ((t ∷ ts) ∷ rest) = ⊥

-- the schedule and then rounds until all have finished
pub record IsPlayed (schedule : List ℕ) (first : Now) (events : List Event) (last : Now) : Type 0 where
  pub how_often : ℕ
  pub is : play (schedule ++ rounds how_often) first ≡ (events, last)
  pub finished : AreFinished last.todo

-- the first statement: what it did, what the account is then, and what stands for the turns, nothing where it was refused
pub record Opening : Type 0 where
  pub event : Event
  pub account : Account
  pub now : Option Now

-- the statements of the sessions 1 to 16 as what they have to do
abbrev pub begun : List (List Statement) → List (List Turn)
begun sessions = map (map Begins) sessions

-- it is refused
abbrev pub refused_opening : (session : ℕ) → Reply → Account → Opening
refused_opening session reply account = record { event = record { session = session; strokes = []; reply = Some reply; made = None; syncs = true }; account = account; now = None }

-- it is done, with these strokes
unfoldable pub done_opening : (session : ℕ) (name : List ℕ) (cache : ℕ) → List Stroke → Reply → Account → Given → List (List Statement) → Opening
done_opening session name cache strokes reply account given sessions =
    let now : Account = account_after name strokes None account in
    record {
      event = record { session = session; strokes = strokes; reply = Some reply; made = None; syncs = true };
      account = now;
      now = Some (record { name = name; cache = cache; account = now; running = None; given = given; todo = begun sessions });
    }

abbrev pub opening_unless : (session : ℕ) → Cause → Account → Opening → Opening
opening_unless session (Some refusal) account opening = refused_opening session (Refused refusal) account
opening_unless session None account opening = opening

-- Creating makes a fresh database under a free name. Opening takes the one that stands there. No other statement is the first.
unfoldable pub opening : Account → Given → List (List Statement) → (session : ℕ) → Statement → Opening
opening account given sessions session (CreateDb name size raw cache) =
    opening_unless session (not_free name (account.entry name)) account
    (done_opening session name cache (make (fresh size raw) ∷ []) (Pages (fresh_count size raw)) account given sessions)
opening account given sessions session (OpenDb name cache) =
    let image : Image = (base_in (account.entry name)).image in
    opening_unless session (not_opened name (account.entry name)) account
    (done_opening session name cache [] (Opened (length image) (image_state image)) account given sessions)
opening account given sessions session other = record { event = record { session = session; strokes = []; reply = None; made = None; syncs = true }; account = account; now = None }

-- the rest of a run, which ends where its first statement is refused: its events, the account after, and what is still to be given
abbrev pub IsRest : (schedule : List ℕ) → Opening → Given → List Event → Account → Given → Type 0
IsRest schedule o given events account left = elim o.now as (λ now. Type 0) [
  | None ↦ (events ≡ []) × (account ≡ o.account) × (left ≡ given)
  | Some now ↦ (last : Now) × IsPlayed schedule now events last × (account ≡ last.account) × (left ≡ last.given)
]

-- The run of a script from an account: its events, the account after, and what is still to be given after it.
pub record IsRun (before : Account) (given : Given) (first_session : ℕ) (first : Statement) (schedule : List ℕ) (sessions : List (List Statement)) (events : List Event) (after : Account) (left : Given) : Type 0 where
  pub rest : List Event
  pub is : events ≡ (opening before given sessions first_session first).event ∷ rest
  pub goes_on : IsRest schedule (opening before given sessions first_session first) given rest after left

-- the strokes of events
unfoldable pub strokes_of : List Event → List Stroke
strokes_of [] = []
strokes_of (e ∷ es) = e.strokes ++ strokes_of es

-- the replies with their sessions
unfoldable pub replies_of : List Event → List (ℕ × Reply)
replies_of [] = []
replies_of (e ∷ es) = elim e.reply [ Some reply ↦ (e.session, reply) ∷ replies_of es | None ↦ replies_of es ]

-- the files that were made whole, with their bytes
unfoldable pub files_made : List Event → List (List ℕ × List ℕ)
files_made [] = []
files_made (e ∷ es) = elim e.made [ Some file ↦ file ∷ files_made es | None ↦ files_made es ]
