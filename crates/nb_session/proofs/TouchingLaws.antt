-- The files that a turn may touch.
use Rattle.std.proofs.Common.{◌≡◌, ◌≢◌, ℕ, zero, suc, ◌-◌, List, [], ◌∷◌, ◌++◌, replicate, refl, sym, ap, subst, ◌∙◌, arith, get_or-set_same, Bool, Contains}
use Rattle.nb_session.proofs.Common.{slice_index_or, append-nil, Refusal, Reply, Statement, BackupSince, Ask, Base, AreBeginnings, Runs, IsAt, waits, backs_up, copies, ends, merges, IsGoing, IsMaking, Image, MadeFile, making, making_by, under_way, AreAmong, Turn, Begins, Merges, Ends, Finishes, Outcome, Seen, Now, Played, base_now, outcome, event_of, stands_then, take_turn, one_turn, files_made, base_after, first_turn, turn, one_runs, under_among, turn_stands, MayStart, refused, started, IsFrom, backup_either, since_either, IsBackup, IsOneTurn, file_asked, copy_first, merge_first, merge_rest, left_making, begun_in, begun_first, touching, touching_by, Contains-append_left, Contains-append_right}
use Rattle.nb_model.specs.declared.statement.Statement.TheVariants.{Backup as BackupTo}
use Rattle.nb_session.proofs.MadeLaws.{none_among, both_among}
use Rattle.nb_session.proofs.MakesLaws.{place_in}
use Rattle.nb_session.proofs.UnderWayLaws.{by_among, making_append, none_making}

-- The first turn of a statement that asks for a backup.
pub asked_either : (P : Outcome → Type 0) (s : Seen) (session : ℕ) (x : Statement) → IsBackup x → ((r : Refusal) → P (refused s r))
    → ((ask : Ask) → IsFrom s.base.image ask → MayStart s (file_asked x) → P (started s session (file_asked x) ask)) → P (first_turn s session x)
unfolding first_turn
asked_either P s session (BackupTo level name) is denied done = backup_either P s session level name denied done
asked_either P s session (BackupSince guid name) is denied done = since_either P s session guid name denied done
asked_either P s session other is denied done = absurd is

-- No other turn begins one.
abbrev pub BeginsNone : Turn → Type 0
BeginsNone (Begins statement) = IsBackup statement → ⊥
BeginsNone other = Unit {0}

none_begun : (session : ℕ) (u : Turn) (now : Now) → BeginsNone u → begun_in session u now ≡ []
none_begun session (Begins (BackupTo level name)) now none = absurd (none tt)
none_begun session (Begins (BackupSince guid name)) now none = absurd (none tt)
none_begun session other now none = refl

pub one_turn_plain : (statement : Statement) → IsOneTurn statement → IsBackup statement → ⊥
one_turn_plain (BackupTo level name) one asks = one
one_turn_plain (BackupSince guid name) one asks = one
one_turn_plain other one asks = asks

-- so it touches what its statement is still to make
pub plain_touch : (session : ℕ) (u : Turn) (tail : List Turn) (now : Now) → BeginsNone u → making (base_now now).frozen (u ∷ tail) ≡ touching session u tail now
plain_touch session u tail now none = ap (λ (files : List MadeFile). files ++ making (base_now now).frozen (u ∷ tail)) (sym (none_begun session u now none))

-- which the turns of a copy don't either
pub copy_plain : (left : ℕ) (last : Turn) → BeginsNone last → BeginsNone (copy_first left last)
copy_plain zero last none = none
copy_plain (suc left) last none = tt

-- what turns touch that are no copies
pub start_touch : (session : ℕ) (statement : Statement) (now : Now) → begun_in session (Begins statement) now ≡ touching session (Begins statement) [] now
unfolding making
start_touch session statement now = sym (append-nil (begun_in session (Begins statement) now))

pub begins_touch : (session : ℕ) (statement : Statement) (now : Now) → (IsBackup statement → ⊥) → [] ≡ touching session (Begins statement) [] now
begins_touch session statement now none = sym (none_begun session (Begins statement) now none) ∙ start_touch session statement now

pub ends_touch : (session : ℕ) (reply : Reply) (now : Now) → [] ≡ touching session (Ends reply) [] now
unfolding making
ends_touch session reply now = refl

pub merges_touch : (session left : ℕ) (reply : Reply) (now : Now) → [] ≡ touching session (merge_first left (Finishes reply)) (merge_rest left (Finishes reply)) now
unfolding making
merges_touch session zero reply now = refl
merges_touch session (suc left) reply now = by left
  where
    by : (n : ℕ) → [] ≡ making (base_now now).frozen (replicate n Merges ++ Finishes reply ∷ [])
    by zero = refl
    by (suc n) = by n

-- A session takes the first turn that it has to do.
pub one_turn_is : (session : ℕ) (now : Now) (ts : List Turn) → slice_index_or now.todo (session - 1) [] ≡ ts → one_turn session now ≡ take_turn session ts now
unfolding one_turn
one_turn_is session now ts is = ap (λ (xs : List Turn). take_turn session xs now) is

module _ (session : ℕ) (u : Turn) (rest : List Turn) (now : Now) (is : slice_index_or now.todo (session - 1) [] ≡ u ∷ rest) where
  abbrev then : Now
  then = stands_then session rest (outcome session u now) now

  todo_then : slice_index_or then.todo (session - 1) [] ≡ (outcome session u now).next ++ rest
  unfolding stands_then
  todo_then = get_or-set_same now.todo (session - 1) ((outcome session u now).next ++ rest) [] (place_in now.todo (session - 1) u rest is)

  -- what it leaves to be made is under way then
  left_among : AreAmong (left_making session u now) (under_way then)
  left_among file there =
      let next : List Turn = (outcome session u now).next in
      let frozen : Image = (base_now then).frozen in
      by_among session then file
      (subst (λ (ts : List Turn). Contains (making frozen ts) file) (sym todo_then)
      (subst (λ (files : List MadeFile). Contains files file) (sym (making_append frozen next rest))
      (Contains-append_left (making frozen next) (making frozen rest) file
      (subst (λ (b : Base). Contains (making b.frozen next) file) (sym (turn_stands session rest (outcome session u now) now)) there))))

-- and so is the file of a backup that begins
begun_left : (session : ℕ) (u : Turn) (now : Now) → AreAmong (begun_in session u now) (left_making session u now)
begun_left session (Begins (BackupTo level name)) now file there = there
begun_left session (Begins (BackupSince guid name)) now file there = there
begun_left session other now file there = absurd (omega (arith, there.1))

pub begun_among : (session : ℕ) (u : Turn) (rest : List Turn) (now : Now) → slice_index_or now.todo (session - 1) [] ≡ u ∷ rest → AreAmong (begun_in session u now) (under_way (stands_then session rest (outcome session u now) now))
begun_among session u rest now is file there = left_among session u rest now is file (begun_left session u now file there)

-- What a turn of a session touches was made by it, or is under way then.
pub touching_among : (session : ℕ) (now : Now) → IsMaking now → AreAmong (touching_by session now) (files_made (one_turn session now).0 ++ under_way (one_turn session now).1)
unfolding take_turn
touching_among session now makes =
    both_among (begun_first session (slice_index_or now.todo (session - 1) []) now) (making_by session now) (files_made (one_turn session now).0 ++ under_way (one_turn session now).1)
    (first (slice_index_or now.todo (session - 1) []) refl) (λ file there. under_among session now makes.named makes.going file (by_among session now file there))
  where
    first : (ts : List Turn) → slice_index_or now.todo (session - 1) [] ≡ ts → AreAmong (begun_first session ts now) (files_made (one_turn session now).0 ++ under_way (one_turn session now).1)
    first [] is file there = none_among (files_made (one_turn session now).0 ++ under_way (one_turn session now).1) file there
    first (u ∷ rest) is file there =
        subst (λ (p : Played). Contains (files_made p.0 ++ under_way p.1) file) (sym (one_turn_is session now (u ∷ rest) is))
        (Contains-append_right (files_made (event_of session u (outcome session u now) ∷ [])) (under_way (stands_then session rest (outcome session u now) now)) file (begun_among session u rest now is file there))

-- While another session runs no backup begins, since the database is stalled.
none_starts : (session : ℕ) (x : Statement) (now : Now) (place : ℕ) → IsBackup x → Runs now place 1 → left_making session (Begins x) now ≡ []
unfolding outcome turn making
none_starts session x now place asks runs =
    asked_either (λ o. making (base_after (base_now now) o.strokes).frozen o.next ≡ []) (record { base = base_now now; cache = now.cache; running = now.running; entry = now.account.entry; given = now.given }) session x asks (λ r. refl)
    (λ ask from may. absurd (omega (arith, may.may.normal, runs.state)))

-- So a session touches nothing.
pub none_touching : {sound : Bool} (session : ℕ) (now : Now) → IsGoing sound now → (place : ℕ) → Runs now place 1 → session - 1 ≢ place → touching_by session now ≡ []
none_touching {sound = sound} session now going place runs off =
    ap (λ (files : List MadeFile). files ++ making_by session now) (by (slice_index_or now.todo (session - 1) []) (going.each (session - 1))) ∙ none_making session now going place runs off
  where
    alone : (m : ℕ) → Runs now (session - 1) m → ⊥
    alone m its = off (one_runs now (session - 1) place m 1 its runs)

    beginning : (ts : List Turn) → AreBeginnings ts → begun_first session ts now ≡ []
    beginning [] all = refl
    beginning (Begins (BackupTo level name) ∷ ts) all = none_starts session (BackupTo level name) now place tt runs
    beginning (Begins (BackupSince guid name) ∷ ts) all = none_starts session (BackupSince guid name) now place tt runs
    beginning (other ∷ ts) all = refl

    by : (ts : List Turn) → IsAt sound now (session - 1) ts → begun_first session ts now ≡ []
    by ts (waits all) = beginning ts all
    by ts (backs_up left b behind e all its room free) = absurd (alone 1 its)
    by ts (copies left name behind e all its free) = absurd (alone 1 its)
    by ts (ends reply behind e all its) = absurd (alone 1 its)
    by ts (merges turns its) = absurd (alone 2 its)
