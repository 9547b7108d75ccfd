-- Turns come to an end: what a turn leaves to do weighs less than it, or there are fewer turns.
use Rattle.std.proofs.Common.{◌≡◌, inl, inr, ⊎_elim, ◌⊎◌, ℕ, zero, suc, ◌+◌, ◌-◌, ◌<◌, ◌≤◌, List, [], ◌∷◌, ◌++◌, length, replicate, get_or, set, refl, sym, ap, subst, ◌∙◌, arith, length-append, true}
use Rattle.nb_model.proofs.Common.{AllByRecursion, sum_by, get_or_past, length-set, leb_tells, Reply, Statement, BeginBackup, EndBackup, Activate, Backup, BackupSince, CopyTo, Ask, room_in, backup_turn, since_turn, copy_turn, close_backup, close_copy, Turn, Begins, Copies, ClosesBackup, ClosesCopy, Ends, Merges, Finishes, Seen, Outcome, begin_turn, end_turn, activate_turn, ends_by, first_turn, turn, Now, Played, outcome, stands_then, take_turn, one_turn, play, rounds, all_sessions, AreFinished, is_on_pages}
use Rattle.std.proofs.lemmas.List.Sums.{sum_by-set}
use Rattle.nb_model.proofs.RunLaws.{play-append, nothing_taken}
use Rattle.nb_model.proofs.TurnCases.{started, statement_cases, begin_either, end_either, activate_either, backup_either, since_either, copy_either, pages_once}

-- A turn weighs more than all that it leaves to do in its place, or leaves nothing.
abbrev pub weight_of : Turn → ℕ
weight_of (Begins statement) = 3
weight_of Copies = 0
weight_of (ClosesBackup backing) = 2
weight_of (ClosesCopy name) = 0
weight_of (Ends reply) = 1
weight_of Merges = 0
weight_of (Finishes reply) = 0

abbrev pub weight_in : List Turn → ℕ
weight_in [] = 0
weight_in (t ∷ ts) = weight_of t + weight_in ts

weight_append : (xs ys : List Turn) → weight_in (xs ++ ys) ≡ weight_in xs + weight_in ys
weight_append [] ys = omega arith
weight_append (x ∷ xs) ys = omega (arith, weight_append xs ys)

abbrev pub Leaves : Turn → List Turn → Type 0
Leaves t ts = (weight_in ts < weight_of t) ⊎ ((weight_of t ≡ 0) × (ts ≡ []))

-- nothing is left after a statement
none_left : (statement : Statement) → Leaves (Begins statement) []
none_left statement = inl (omega arith)

-- so many turns that weigh nothing, and then one more
leaves_many : (t each last : Turn) (n : ℕ) → weight_of each ≡ 0 → weight_of last < weight_of t → Leaves t (replicate n each ++ last ∷ [])
leaves_many t each last n none low = inl (omega (arith, low, weight n))
  where
    weight : (n : ℕ) → weight_in (replicate n each ++ last ∷ []) ≡ weight_of last
    weight zero = omega arith
    weight (suc n) = omega (arith, none, weight n)

merging_left : (t : Turn) (s : Seen) (session : ℕ) (reply : Reply) → 1 ≤ weight_of t → Leaves t (ends_by s session reply).next
unfolding ends_by
merging_left t s session reply some = leaves_many t Merges (Finishes reply) (length s.base.diverted) refl some

first_leaves : (statement : Statement) → (s : Seen) (session : ℕ) → Leaves (Begins statement) (first_turn s session statement).next
unfolding first_turn
first_leaves statement s session = statement_cases (λ x. Leaves (Begins x) (first_turn s session x).next) pages begins ends activates backs sinces copies statement
  where
    pages : (x : Statement) → is_on_pages x ≡ true → Leaves (Begins x) (first_turn s session x).next
    pages x on = subst (Leaves (Begins x)) (sym (pages_once x on s session).next) (none_left x)

    begins : Leaves (Begins BeginBackup) (begin_turn s).next
    begins = begin_either (λ o. Leaves (Begins BeginBackup) o.next) s (λ r. none_left BeginBackup) (λ may. none_left BeginBackup)

    ends : Leaves (Begins EndBackup) (end_turn s session).next
    ends = end_either (λ o. Leaves (Begins EndBackup) o.next) s session (λ r. none_left EndBackup) (λ may. merging_left (Begins EndBackup) s session _ (omega arith))

    activates : Leaves (Begins Activate) (activate_turn s session).next
    activates = activate_either (λ o. Leaves (Begins Activate) o.next) s session (λ r. none_left Activate) (none_left Activate) (λ may. merging_left (Begins Activate) s session _ (omega arith))

    started_left : (x : Statement) (name : List ℕ) (ask : Ask) → Leaves (Begins x) (started s session name ask).next
    started_left x name ask = leaves_many (Begins x) Copies _ (length (room_in s.base.image).draft.image) refl (omega arith)

    backs : (level : ℕ) (name : List ℕ) → Leaves (Begins (Backup level name)) (backup_turn s session level name).next
    backs level name = backup_either (λ o. Leaves (Begins (Backup level name)) o.next) s session level name (λ r. none_left (Backup level name)) (λ ask is may. started_left (Backup level name) name ask)

    sinces : (guid name : List ℕ) → Leaves (Begins (BackupSince guid name)) (since_turn s session guid name).next
    sinces guid name = since_either (λ o. Leaves (Begins (BackupSince guid name)) o.next) s session guid name (λ r. none_left (BackupSince guid name)) (λ ask is may. started_left (BackupSince guid name) name ask)

    copies : (name : List ℕ) → Leaves (Begins (CopyTo name)) (copy_turn s session name).next
    copies name = copy_either (λ o. Leaves (Begins (CopyTo name)) o.next) s session name (λ r. none_left (CopyTo name))
        (λ may. leaves_many (Begins (CopyTo name)) Copies (ClosesCopy name) (length s.base.frozen) refl (omega arith))

pub turn_leaves : (t : Turn) → (session : ℕ) (now : Now) → Leaves t (outcome session t now).next
unfolding outcome turn close_backup close_copy
turn_leaves (Begins statement) session now = first_leaves statement _ session
turn_leaves Copies session now = inr (refl, refl)
turn_leaves (ClosesBackup backing) session now = inl (omega arith)
turn_leaves (ClosesCopy name) session now = inr (refl, refl)
turn_leaves (Ends reply) session now = merging_left (Ends reply) _ session reply (omega arith)
turn_leaves Merges session now = inr (refl, refl)
turn_leaves (Finishes reply) session now = inr (refl, refl)

-- what all turns that are still to come weigh, and how many they are
abbrev pub weight_left : Now → ℕ
weight_left now = sum_by weight_in now.todo

abbrev pub turns_left : Now → ℕ
turns_left now = sum_by length now.todo

-- they weigh less, or as much and are fewer
abbrev IsLess : Now → Now → Type 0
IsLess after before = (weight_left after < weight_left before) ⊎ ((weight_left after ≡ weight_left before) × (turns_left after < turns_left before))

abbrev pub IsNoMore : Now → Now → Type 0
IsNoMore after before = (weight_left after < weight_left before) ⊎ ((weight_left after ≡ weight_left before) × (turns_left after ≤ turns_left before))

less_more : (a b c : Now) → IsNoMore a b → IsLess b c → IsLess a c
less_more a b c (inl x) (inl y) = inl (omega (arith, x, y))
less_more a b c (inl x) (inr y) = inl (omega (arith, x, y.0))
less_more a b c (inr x) (inl y) = inl (omega (arith, x.0, y))
less_more a b c (inr x) (inr y) = inr (omega (arith, x.0, y.0), omega (arith, x.1, y.1))

less_is : (a b : Now) → IsLess a b → IsNoMore a b
less_is a b (inl x) = inl x
less_is a b (inr x) = inr (x.0, omega (arith, x.1))

no_more_then : (a b c : Now) → IsNoMore a b → IsNoMore b c → IsNoMore a c
no_more_then a b c (inl x) (inl y) = inl (omega (arith, x, y))
no_more_then a b c (inl x) (inr y) = inl (omega (arith, x, y.0))
no_more_then a b c (inr x) (inl y) = inl (omega (arith, x.0, y))
no_more_then a b c (inr x) (inr y) = inr (omega (arith, x.0, y.0), omega (arith, x.1, y.1))

-- What one turn leaves: less is to come, and there are as many sessions.
record Steps (after before : Now) : Type 0 where
  less : IsLess after before
  same : length after.todo ≡ length before.todo

pub record Keeps (after before : Now) : Type 0 where
  pub no_more : IsNoMore after before
  pub same : length after.todo ≡ length before.todo

module _ (session : ℕ) (t : Turn) (rest : List Turn) (now : Now) (is : get_or now.todo (session - 1) [] ≡ t ∷ rest) where
  abbrev o : Outcome
  o = outcome session t now

  abbrev then : Now
  then = stands_then session rest o now

  todo_is : then.todo ≡ set now.todo (session - 1) (o.next ++ rest)
  unfolding stands_then
  todo_is = refl

  inside : session - 1 < length now.todo
  inside = elim (leb_tells (length now.todo) (session - 1)) [
    | inl w ↦ absurd (none_some (sym (get_or_past now.todo (session - 1) [] w.1) ∙ is))
    | inr w ↦ omega (arith, w.1)
  ]
    where
      none_some : [] ≡ t ∷ rest → ⊥
      none_some e = absurd (let long = ap length e in omega arith)

  left : Leaves t o.next
  left = turn_leaves t session now

  weight_then : weight_left then + weight_in (t ∷ rest) ≡ weight_left now + (weight_in o.next + weight_in rest)
  weight_then =
      let sum = sum_by-set weight_in now.todo (session - 1) (o.next ++ rest) [] inside in
      omega (arith, sum, ap (sum_by weight_in) todo_is, ap weight_in is, weight_append o.next rest)

  turns_then : o.next ≡ [] → turns_left then + suc (length rest) ≡ turns_left now + length rest
  turns_then none =
      let sum = sum_by-set length now.todo (session - 1) (o.next ++ rest) [] inside in
      omega (arith, sum, ap (sum_by length) todo_is, ap length is, length-append o.next rest, ap length none)

  taken_steps : Steps (take_turn session (t ∷ rest) now).1 now
  unfolding take_turn
  taken_steps = record {
    less = ⊎_elim (λ lighter. inl (omega (arith, lighter, weight_then))) (λ last. inr (omega (arith, last.0, ap weight_in last.1, weight_then), omega (arith, turns_then last.1))) left;
    same = ap length todo_is ∙ length-set now.todo (session - 1) (o.next ++ rest);
  }

-- one number of the order: its session had finished and nothing is done, or less is to come
one_tells : (session : ℕ) (now : Now) → ((get_or now.todo (session - 1) [] ≡ []) × (one_turn session now ≡ ([], now))) ⊎ Steps (one_turn session now).1 now
unfolding one_turn
one_tells session now = by (get_or now.todo (session - 1) []) refl
  where
    by : (ts : List Turn) → get_or now.todo (session - 1) [] ≡ ts
        → ((get_or now.todo (session - 1) [] ≡ []) × (take_turn session (get_or now.todo (session - 1) []) now ≡ ([], now))) ⊎ Steps (take_turn session (get_or now.todo (session - 1) []) now).1 now
    by [] is = inl (is, ap (λ (ts : List Turn). take_turn session ts now) is ∙ nothing_taken session now)
    by (t ∷ rest) is = inr (subst (λ (ts : List Turn). Steps (take_turn session ts now).1 now) (sym is) (taken_steps session t rest now is))

keeps_still : (now : Now) → Keeps now now
keeps_still now = record { no_more = inr (refl, omega arith); same = refl }

pub one_keeps : (session : ℕ) (now : Now) → Keeps (one_turn session now).1 now
one_keeps session now = elim (one_tells session now) [
  | inl idle ↦ subst (λ (p : Played). Keeps p.1 now) (sym idle.1) (keeps_still now)
  | inr steps ↦ record { no_more = less_is (one_turn session now).1 now steps.less; same = steps.same }
]

-- turns in an order leave no more to come
play_keeps : (order : List ℕ) (now : Now) → Keeps (play order now).1 now
unfolding play
play_keeps [] now = keeps_still now
play_keeps (x ∷ xs) now =
    let one : Keeps (one_turn x now).1 now = one_keeps x now in
    let rest : Keeps (play xs (one_turn x now).1).1 (one_turn x now).1 = play_keeps xs (one_turn x now).1 in
    record { no_more = no_more_then (play xs (one_turn x now).1).1 (one_turn x now).1 now rest.no_more one.no_more; same = rest.same ∙ one.same }

-- and less, unless each of their sessions had finished
play_tells : (order : List ℕ) (now : Now) → AllByRecursion (λ (x : ℕ). get_or now.todo (x - 1) [] ≡ []) order ⊎ IsLess (play order now).1 now
unfolding play
play_tells [] now = inl tt
play_tells (x ∷ xs) now = elim (one_tells x now) [
  | inl idle ↦
      ⊎_elim (λ all. inl (idle.0, all)) (λ less. inr (subst (λ (p : Played). IsLess (play xs p.1).1 now) (sym idle.1) less)) (play_tells xs now)
  | inr steps ↦ inr (less_more (play xs (one_turn x now).1).1 (one_turn x now).1 now (play_keeps xs (one_turn x now).1).no_more steps.less)
]

-- the sessions from one on
abbrev from : (first count : ℕ) → List ℕ
from first zero = []
from first (suc count) = first ∷ from (suc first) count

finished_from : (count first : ℕ) (now : Now) → AllByRecursion (λ (x : ℕ). get_or now.todo (x - 1) [] ≡ []) (from (suc first) count) → (i : ℕ) → i < count → get_or now.todo (first + i) [] ≡ []
finished_from zero first now all i low = absurd (omega arith)
finished_from (suc count) first now all zero low = let same : first + 0 ≡ suc first - 1 = omega arith in subst (λ (k : ℕ). get_or now.todo k [] ≡ []) (sym same) all.0
finished_from (suc count) first now all (suc i) low =
    let same : first + suc i ≡ suc first + i = omega arith in
    subst (λ (k : ℕ). get_or now.todo k [] ≡ []) (sym same) (finished_from count (suc first) now all.1 i (omega arith))

all_finished : (todo : List (List Turn)) → ((i : ℕ) → i < length todo → get_or todo i [] ≡ []) → AreFinished todo
all_finished [] each = tt
all_finished (ts ∷ todo) each = by (all_finished todo (λ i low. each (suc i) (omega (arith, low)))) ts (each 0 (omega arith))
  where
    by : AreFinished todo → (us : List Turn) → us ≡ [] → AreFinished (us ∷ todo)
    by rest [] e = rest
    by rest (u ∷ us) e = absurd (let long = ap length e in omega arith)

-- after so many rounds every session has finished
pub record HasRounds (now : Now) : Type 0 where
  pub count : ℕ
  pub finished : AreFinished (play (rounds count) now).1.todo

-- one round more
round_more : (now : Now) → HasRounds (play all_sessions now).1 → HasRounds now
unfolding rounds
round_more now rest = record {
  count = suc rest.count;
  finished = subst (λ (p : Played). AreFinished p.1.todo) (sym (play-append all_sessions (rounds rest.count) now)) rest.finished;
}

no_round : (now : Now) → AreFinished now.todo → HasRounds now
unfolding rounds play
no_round now is = record { count = 0; finished = is }

-- where few enough are to come, rounds end
abbrev EndsWithin : (weight turns : ℕ) → Type 0
EndsWithin weight turns = (now : Now) → length now.todo ≤ 16 → weight_left now ≤ weight → turns_left now ≤ turns → HasRounds now

module _ (now : Now) (few : length now.todo ≤ 16) where
  abbrev next : Now
  next = (play all_sessions now).1

  round_keeps : Keeps next now
  round_keeps = play_keeps all_sessions now

  idle_ends : AllByRecursion (λ (x : ℕ). get_or now.todo (x - 1) [] ≡ []) all_sessions → HasRounds now
  idle_ends all = no_round now (all_finished now.todo (λ i low. let same : 0 + i ≡ i = omega arith in subst (λ (k : ℕ). get_or now.todo k [] ≡ []) same (finished_from 16 0 now all i (omega (arith, low, few)))))

  fewer : length next.todo ≤ 16
  fewer = omega (arith, few, round_keeps.same)

-- they weigh less after each round in which a statement begins or goes on
within : (weight : ℕ) → ((lighter : ℕ) → lighter < weight → (turns : ℕ) → EndsWithin lighter turns) → (turns : ℕ) → EndsWithin weight turns
within weight before zero now few s l = elim (play_tells all_sessions now) [
  | inl all ↦ idle_ends now few all
  | inr less ↦ round_more now (elim less [
    | inl a ↦ before (weight_left (next now few)) (omega (arith, a, s)) (turns_left (next now few)) (next now few) (fewer now few) (omega arith) (omega arith)
    | inr b ↦ absurd (omega (arith, b.1, l))
  ])
]
within weight before (suc turns) now few s l = elim (play_tells all_sessions now) [
  | inl all ↦ idle_ends now few all
  | inr less ↦ round_more now (elim less [
    | inl a ↦ before (weight_left (next now few)) (omega (arith, a, s)) (turns_left (next now few)) (next now few) (fewer now few) (omega arith) (omega arith)
    | inr b ↦ within weight before turns (next now few) (fewer now few) (omega (arith, b.0, s)) (omega (arith, b.1, l))
  ])
]

below : (bound weight : ℕ) → weight < bound → (turns : ℕ) → EndsWithin weight turns
below zero weight low turns = absurd (omega arith)
below (suc bound) weight low turns = within weight (λ lighter less. below bound lighter (omega (arith, less, low))) turns

-- After any order of turns, rounds bring all that is to come to its end.
pub rounds_end : (now : Now) → length now.todo ≤ 16 → HasRounds now
rounds_end now few = below (suc (weight_left now)) (weight_left now) (omega arith) (turns_left now) now few (omega arith) (omega arith)

pub order_ends : (order : List ℕ) (now : Now) → length now.todo ≤ 16 → (n : ℕ) × AreFinished (play (order ++ rounds n) now).1.todo
order_ends order now few =
    let kept : Keeps (play order now).1 now = play_keeps order now in
    let end : HasRounds (play order now).1 = rounds_end (play order now).1 (omega (arith, few, kept.same)) in
    (end.count, subst (λ (p : Played). AreFinished p.1.todo) (sym (play-append order (rounds end.count) now)) end.finished)
