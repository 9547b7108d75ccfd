-- Lines are written one after the other.
use Rattle.std.proofs.Common.{◌≡◌, ℕ, ◌+◌, ◌<◌, ◌≤◌, List, [], ◌∷◌, ◌++◌, length, drop, get_or, refl, ap, sym, ◌∙◌, append_assoc}
use Rattle.nb_script.proofs.Common.{decimal, append-nil, drop_more, drop_all, Statement, Bytes, line_text, spaced_sessions, statements_text, sessions_text}

-- an element is written
pub next_written : {A : Type 0} (text : List A → Bytes) (out one : Bytes) (xs : List A) (i : ℕ) (d x : A) → i < length xs → get_or xs i d ≡ x
    → text (x ∷ drop (i + 1) xs) ≡ one ++ text (drop (i + 1) xs) → (out ++ one) ++ text (drop (i + 1) xs) ≡ out ++ text (drop i xs)
next_written text out one xs i d x inside is first =
    append_assoc out one (text (drop (i + 1) xs)) ∙ ap (λ (t : Bytes). out ++ t) (sym (ap text (drop_more xs i d inside ∙ ap (λ y. y ∷ drop (i + 1) xs) is) ∙ first))

-- all elements are written
pub all_written : {A : Type 0} (text : List A → Bytes) (out : Bytes) (xs : List A) (i : ℕ) → length xs ≤ i → text [] ≡ [] → out ≡ out ++ text (drop i xs)
all_written text out xs i past none = sym (ap (λ (t : Bytes). out ++ t) (ap text (drop_all i xs past) ∙ none) ∙ append-nil out)

pub no_sessions : spaced_sessions [] ≡ []
unfolding spaced_sessions
no_sessions = refl

pub first_session : (s : ℕ) (others : List ℕ) → spaced_sessions (s ∷ others) ≡ (32 ∷ decimal s) ++ spaced_sessions others
unfolding spaced_sessions
first_session s others = refl

pub no_statements : (session : ℕ) → statements_text session [] ≡ []
unfolding statements_text
no_statements session = refl

pub first_statement : (session : ℕ) (x : Statement) (others : List Statement) → statements_text session (x ∷ others) ≡ (line_text session x ++ 10 ∷ []) ++ statements_text session others
unfolding statements_text
first_statement session x others = sym (append_assoc (line_text session x) (10 ∷ []) (statements_text session others))

pub no_others : (session : ℕ) → sessions_text session [] ≡ []
unfolding sessions_text
no_others session = refl

-- the statements of a session are written
pub next_session : (out : Bytes) (xs : List (List Statement)) (i : ℕ) → i < length xs
    → (out ++ statements_text (i + 1) (get_or xs i [])) ++ sessions_text (i + 1 + 1) (drop (i + 1) xs) ≡ out ++ sessions_text (i + 1) (drop i xs)
unfolding sessions_text
next_session out xs i inside =
    append_assoc out (statements_text (i + 1) (get_or xs i [])) (sessions_text (i + 1 + 1) (drop (i + 1) xs))
    ∙ ap (λ (t : Bytes). out ++ t) (sym (ap (sessions_text (i + 1)) (drop_more xs i [] inside)))
