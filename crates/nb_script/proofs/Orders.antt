-- Sessions that are read or made one after the other.
use Rattle.std.proofs.Common.{◌≡◌, ℕ, suc, ◌+◌, ◌-◌, ◌<◌, ◌≤◌, ◌==◌, List, [], ◌∷◌, ◌++◌, length, Option, Some, None, option_map, refl, ap, sym, ◌∙◌, append_assoc, arith, true, false}
use Rattle.nb_script.proofs.Common.{append-nil, Bytes, sessions_at, spaced_session, seeded, stepped, session_of}

-- sessions before those that are still read
abbrev pub behind : List ℕ → Option (List ℕ) → Option (List ℕ)
behind front others = option_map (λ sessions. front ++ sessions) others

regroup : (front : List ℕ) (s : ℕ) (others : Option (List ℕ)) → behind front (option_map (λ sessions. s ∷ sessions) others) ≡ behind (front ++ s ∷ []) others
regroup front s None = refl
regroup front s (Some sessions) = ap (λ (xs : List ℕ). Some xs) (sym (append_assoc front (s ∷ []) sessions))

-- one session more is read
pub goes_on : (front : List ℕ) (most i : ℕ) (bytes rest : Bytes) (s : ℕ) → i < most → spaced_session bytes ≡ Some (s, rest) → (length rest == 0) ≡ false → behind (front ++ s ∷ []) (sessions_at (most - (i + 1)) rest) ≡ behind front (sessions_at (most - i) bytes)
unfolding sessions_at
goes_on front most i bytes rest s lt read some =
    let more : most - i ≡ suc (most - (i + 1)) = omega arith in
    sym (rw (more, read, some) (regroup front s (sessions_at (most - (i + 1)) rest)))

-- the last session is read
pub ends : (front : List ℕ) (most i : ℕ) (bytes rest : Bytes) (s : ℕ) → i < most → spaced_session bytes ≡ Some (s, rest) → (length rest == 0) ≡ true → behind front (sessions_at (most - i) bytes) ≡ Some (front ++ s ∷ [])
unfolding sessions_at
ends front most i bytes rest s lt read none =
    let more : most - i ≡ suc (most - (i + 1)) = omega arith in
    rw (more, read, none) refl

-- no session stands there
pub fails : (front : List ℕ) (most i : ℕ) (bytes : Bytes) → i < most → spaced_session bytes ≡ None → behind front (sessions_at (most - i) bytes) ≡ None
unfolding sessions_at
fails front most i bytes lt read =
    let more : most - i ≡ suc (most - (i + 1)) = omega arith in
    rw (more, read) refl

-- there may be no more
pub too_many : (front : List ℕ) (most i : ℕ) (bytes : Bytes) → most ≤ i → behind front (sessions_at (most - i) bytes) ≡ None
unfolding sessions_at
too_many front most i bytes le =
    let none : most - i ≡ 0 = omega arith in
    rw none refl

-- one session more is made of a seed
pub next_seeded : (front : List ℕ) (count i x : ℕ) → i < count → (front ++ session_of (stepped x) ∷ []) ++ seeded (count - (i + 1)) (stepped x) ≡ front ++ seeded (count - i) x
unfolding seeded
next_seeded front count i x lt =
    let more : count - i ≡ suc (count - (i + 1)) = omega arith in
    append_assoc front (session_of (stepped x) ∷ []) (seeded (count - (i + 1)) (stepped x)) ∙ sym (ap (λ n. front ++ seeded n x) more)

pub all_seeded : (front : List ℕ) (count i x : ℕ) → count ≤ i → front ≡ front ++ seeded (count - i) x
unfolding seeded
all_seeded front count i x le =
    let none : count - i ≡ 0 = omega arith in
    sym (ap (λ n. front ++ seeded n x) none ∙ append-nil front)
