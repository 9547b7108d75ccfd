-- A session that is alone takes its turns one after the other.
use Rattle.std.proofs.Common.{◌≡◌, ℕ, zero, suc, ◌-◌, ◌≤◌, List, [], ◌∷◌, ◌++◌, get_or, replicate, refl, sym, ap, ◌∙◌, set, arith, get_or-set_other}
use Rattle.nb_model.proofs.Common.{Turn, Outcome, Now, Played, outcome, stands_then, take_turn, one_turn, play, rounds}
use Rattle.nb_model.proofs.RunLaws.{play-append, nothing_taken}

-- no session but the first has anything to do
abbrev IsAlone : Now → Type 0
IsAlone now = (i : ℕ) → 1 ≤ i → get_or now.todo i [] ≡ []

alone_set : (todo : List (List Turn)) (ts : List Turn) → ((i : ℕ) → 1 ≤ i → get_or todo i [] ≡ []) → (i : ℕ) → 1 ≤ i → get_or (set todo 0 ts) i [] ≡ []
alone_set todo ts alone i h = get_or-set_other todo 0 i ts [] (λ e. absurd (omega arith)) ∙ alone i h

alone_stands : (rest : List Turn) (o : Outcome) (now : Now) → IsAlone now → IsAlone (stands_then 1 rest o now)
unfolding stands_then
alone_stands rest o now alone i h = alone_set now.todo (o.next ++ rest) alone i h

alone_taken : (ts : List Turn) (now : Now) → IsAlone now → IsAlone (take_turn 1 ts now).1
unfolding take_turn
alone_taken [] now alone i h = alone i h
alone_taken (t ∷ rest) now alone i h = alone_stands rest (outcome 1 t now) now alone i h

alone_turn : (now : Now) → IsAlone now → IsAlone (one_turn 1 now).1
unfolding one_turn
alone_turn now alone i h = alone_taken (get_or now.todo 0 []) now alone i h

-- the other sessions
abbrev AreOthers : List ℕ → Type 0
AreOthers [] = Unit {0}
AreOthers (x ∷ xs) = (2 ≤ x) × AreOthers xs

idle_turn : (x : ℕ) (now : Now) → 2 ≤ x → IsAlone now → one_turn x now ≡ ([], now)
unfolding one_turn
idle_turn x now h alone = ap (λ (ts : List Turn). take_turn x ts now) (alone (x - 1) (omega arith)) ∙ nothing_taken x now

idle_others : (xs : List ℕ) (now : Now) → AreOthers xs → IsAlone now → play xs now ≡ ([], now)
unfolding play
idle_others [] now h alone = refl
idle_others (x ∷ xs) now h alone =
    ap (λ (here : Played). (here.0 ++ (play xs here.1).0, (play xs here.1).1)) (idle_turn x now h.0 alone) ∙ idle_others xs now h.1 alone

others : List ℕ
others = 2 ∷ 3 ∷ 4 ∷ 5 ∷ 6 ∷ 7 ∷ 8 ∷ 9 ∷ 10 ∷ 11 ∷ 12 ∷ 13 ∷ 14 ∷ 15 ∷ 16 ∷ []

are_others : AreOthers others
unfolding others
are_others = (omega arith, (omega arith, (omega arith, (omega arith, (omega arith, (omega arith, (omega arith, (omega arith, (omega arith, (omega arith, (omega arith, (omega arith, (omega arith, (omega arith, (omega arith, tt)))))))))))))))

first_then : (xs : List ℕ) (now : Now) → play (1 ∷ xs) now ≡ ((one_turn 1 now).0 ++ (play xs (one_turn 1 now).1).0, (play xs (one_turn 1 now).1).1)
unfolding play
first_then xs now = refl

behind_others : (xs : List ℕ) (now : Now) → IsAlone now → play (others ++ xs) now ≡ play xs now
behind_others xs now alone =
    play-append others xs now ∙ ap (λ (here : Played). (here.0 ++ (play xs here.1).0, (play xs here.1).1)) (idle_others others now are_others alone)

one_round : (n : ℕ) → rounds (suc n) ≡ 1 ∷ (others ++ rounds n)
unfolding rounds others
one_round n = refl

no_rounds : rounds 0 ≡ []
unfolding rounds
no_rounds = refl

-- so many rounds are so many turns of it
pub alone_rounds : (n : ℕ) (now : Now) → IsAlone now → play (rounds n) now ≡ play (replicate n 1) now
alone_rounds zero now alone = ap (λ (xs : List ℕ). play xs now) no_rounds
alone_rounds (suc n) now alone =
    let later = alone_turn now alone in
    ap (λ (xs : List ℕ). play xs now) (one_round n) ∙ first_then (others ++ rounds n) now
    ∙ ap (λ (r : Played). ((one_turn 1 now).0 ++ r.0, r.1)) (behind_others (rounds n) (one_turn 1 now).1 later ∙ alone_rounds n (one_turn 1 now).1 later)
    ∙ sym (first_then (replicate n 1) now)
