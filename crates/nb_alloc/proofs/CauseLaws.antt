-- The first of a turn's causes, and the turn that it makes.
use Rattle.std.proofs.Common.{◌≡◌, List, [], ◌∷◌, ◌++◌, refl, sym, ap, ◌∙◌, true≢false, true, false, Some, None}
use Rattle.nb_alloc.proofs.Common.{Refusal, Reply, Stroke, Draft, Cause, first_cause, not_of_form, no_room, Seen, Outcome, says, unless, changes, has_only_told}
use Rattle.nb_model.specs.declared.reply.Reply.TheVariants.{Refused}

-- where there is a cause, and where there is none
pub unless_refused : (s : Seen) (cause : Cause) (o : Outcome) (r : Refusal) → cause ≡ Some r → unless s cause o ≡ says s (Refused r) []
unfolding unless
unless_refused s cause o r e = ap (λ (c : Cause). unless s c o) e

pub unless_allowed : (s : Seen) (cause : Cause) (o : Outcome) → cause ≡ None → unless s cause o ≡ o
unfolding unless
unless_allowed s cause o e = ap (λ (c : Cause). unless s c o) e

-- of one cause with none behind it
pub none_behind : (c : Cause) → first_cause (c ∷ None ∷ []) ≡ c
unfolding first_cause
none_behind None = refl
none_behind (Some r) = refl

-- and of a list of causes with others after it
pub first_front : (causes rest : List Cause) (r : Refusal) → first_cause causes ≡ Some r → first_cause (causes ++ rest) ≡ Some r
unfolding first_cause
first_front [] rest r e = cc
first_front (None ∷ cs) rest r e = first_front cs rest r e
first_front (Some refusal ∷ cs) rest r e = e

pub first_rest : (causes rest : List Cause) → first_cause causes ≡ None → first_cause (causes ++ rest) ≡ first_cause rest
unfolding first_cause
first_rest [] rest e = refl
first_rest (None ∷ cs) rest e = first_rest cs rest e
first_rest (Some refusal ∷ cs) rest e = cc

-- a change is refused by the first of its causes
pub refused_by : (s : Seen) (causes : List Cause) (d : Draft) (reply : Reply) (r : Refusal) → first_cause causes ≡ Some r → changes s causes d reply ≡ says s (Refused r) []
unfolding changes
refused_by s causes d reply r e = unless_refused s _ (says s reply d.strokes) r (first_front causes (not_of_form d ∷ no_room d ∷ []) r e)

-- and otherwise by what the draft finds
pub judged_by : (s : Seen) (causes : List Cause) (d : Draft) (reply : Reply) → first_cause causes ≡ None
    → changes s causes d reply ≡ unless s (first_cause (not_of_form d ∷ no_room d ∷ [])) (says s reply d.strokes)
unfolding changes
judged_by s causes d reply e = ap (λ (c : Cause). unless s c (says s reply d.strokes)) (first_rest causes (not_of_form d ∷ no_room d ∷ []) e)

-- strokes that are the same where no cause applies
pub unless_these : (s : Seen) (cause : Cause) (reply : Reply) (xs ys : List Stroke) → (cause ≡ None → xs ≡ ys) → unless s cause (says s reply xs) ≡ unless s cause (says s reply ys)
unfolding unless
unless_these s None reply xs ys same = ap (λ (ss : List Stroke). says s reply ss) (same refl)
unless_these s (Some refusal) reply xs ys same = refl

-- a turn that says nothing, or not only what was read, only tells something where there is a cause
pub told_some : (s : Seen) (cause : Cause) (o : Outcome) → has_only_told o.reply ≡ false → has_only_told (unless s cause o).reply ≡ true → (r : Refusal) × (cause ≡ Some r)
unfolding unless
told_some s None o not_told told = absurd (true≢false (sym told ∙ not_told))
told_some s (Some r) o not_told told = (r, refl)
