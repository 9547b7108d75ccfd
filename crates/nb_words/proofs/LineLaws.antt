use Rattle.std.proofs.Common.{◌≡◌, refl, subst, true, List, Result, Ok, Err, IfOk, IfErr, OnOk, []}
use Rattle.nb_words.proofs.Common.{IfOk-weaker, App, Text, HasMatchesOf, is_simple, is_simple_and_free, matches_of, rows_of, found_of, fault_of, FailsBy, HasKind, Error, ArgMatches, clap_on_literals, line}
use Rattle.clap.specs.Kinds.{Kinds}

pub line_is_simple : is_simple line ≡ true
unfolding clap_on_literals line
line_is_simple = refl

pub line_is_free : is_simple_and_free line ≡ true
unfolding clap_on_literals line
line_is_free = refl

-- what a parse says of a command that is known
pub matches_as : (a b : App) (words : List Text) (r : Result ArgMatches Error) → a ≡ b → is_simple b ≡ true → IfOk r (HasMatchesOf a words) → IfOk r (λ m. rows_of (found_of m) ≡ matches_of b words)
matches_as a b words r e simple h =
    let at_b : IfOk r (HasMatchesOf b words) = subst (λ (x : App). IfOk r (HasMatchesOf x words)) e h in
    IfOk-weaker r (HasMatchesOf b words) (λ m. rows_of (found_of m) ≡ matches_of b words) (λ m p. (p simple).0) at_b

pub fails_as : (a b : App) (words : List Text) (r : Result ArgMatches Error) → a ≡ b → is_simple_and_free b ≡ true → (is_simple_and_free a ≡ true → FailsBy (fault_of a words) r) → FailsBy (fault_of b words) r
fails_as a b words r e free h =
    subst (λ (x : App). is_simple_and_free x ≡ true → FailsBy (fault_of x words) r) e h free

pub fault_at_err : (k : Kinds) (r : Result ArgMatches Error) → FailsBy k r → IfErr r (HasKind k)
fault_at_err k (Ok m) h = tt
fault_at_err k (Err e) h = h

pub no_fault_at_ok : (k : Kinds) (r : Result ArgMatches Error) → FailsBy k r → OnOk r (k ≡ [])
no_fault_at_ok k (Ok m) h = h
no_fault_at_ok k (Err e) h = tt
