-- What is left to do: after a statement of one turn, and where a session has nothing left.
use Rattle.std.proofs.Common.{◌≡◌, ℕ, zero, suc, ◌+◌, ◌-◌, List, [], ◌++◌, refl, sym, ap, ◌∙◌, arith, append_assoc, Some, None}
use Rattle.nb_model.proofs.Common.{slice_index_or, Statement, BeginBackup, Cause, Turn, Seen, Outcome, unless, begin_turn, first_turn, Now, take_turn, one_turn, rounds, all_sessions}
use Rattle.nb_model.proofs.RunLaws.{nothing_taken}

-- a statement that is done in one turn
abbrev pub IsSingle : Statement → Type 0
IsSingle statement = (s : Seen) (session : ℕ) → (first_turn s session statement).next ≡ []

-- nothing is left to do after it
abbrev IsLast : Outcome → Type 0
IsLast o = o.next ≡ []

last_guarded : (s : Seen) (c : Cause) (o : Outcome) → IsLast o → IsLast (unless s c o)
unfolding unless
last_guarded s None o h = h
last_guarded s (Some r) o h = refl

pub begin_single : IsSingle BeginBackup
unfolding first_turn begin_turn
begin_single s session = last_guarded s _ _ refl

-- one number of an order does nothing where its session has no turn to do
pub one_turn_idle : (session : ℕ) (now : Now) → slice_index_or now.todo (session - 1) [] ≡ [] → one_turn session now ≡ ([], now)
unfolding one_turn
one_turn_idle session now is = ap (λ (ts : List Turn). take_turn session ts now) is ∙ nothing_taken session now

-- One round more.
pub rounds_more : (n : ℕ) → rounds (n + 1) ≡ rounds n ++ all_sessions
unfolding rounds
rounds_more zero = refl
rounds_more (suc n) =
    let next : suc n + 1 ≡ suc (n + 1) = omega arith in
    ap rounds next ∙ ap (λ (xs : List ℕ). all_sessions ++ xs) (rounds_more n) ∙ sym (append_assoc all_sessions (rounds n) all_sessions)
