-- With forced writes on what a crash leaves is the database after a front of the strokes, which holds those that are acknowledged.
use Rattle.std.proofs.Common.{◌≡◌, ℕ, zero, suc, ◌+◌, ◌-◌, ◌≤◌, List, [], ◌∷◌, ◌++◌, length, take, drop, refl, sym, ap, subst, ◌∙◌, arith, length-append, Bool, Option, Some, None, true, false, nat_le}
use Rattle.nb_model.proofs.Common.{take-append-drop, take_all, take-append-le, Reply, Base, line_text, acked_in, acked, Event, strokes_of, Stroke, make, page, begin, ends, finish, fix, merge, on_base, base_after, Step, makes, settles, IsForcedAt, AreForced, after_step, after_steps, strokes_in, steps_of, acked_turns, acked_steps, Trail, settled, settles_at}
use Rattle.nb_model.proofs.AckedLaws.{number, acked-number, quiet, whole, lined}
use Rattle.nb_model.proofs.GuidLaws.{strokes_in_steps}
use Rattle.nb_model.proofs.OutputLaws.{acked_in-empty, acked_in-quiet, acked_in-line}
use Rattle.nb_model.proofs.StepsLaws.{behind_quiet, behind_line, turns_none, turns_quiet, turns_line, steps_append}
use Rattle.nb_model.proofs.TrailLaws.{settles_after, forced_settles}

-- each such stroke settles
forced_at : (s : Stroke) (b : Base) → IsForcedAt b s → settles_at (settled b) s ≡ true
unfolding settles_at
forced_at (page p bytes) b forced = forced_settles b p bytes forced
forced_at (make image) b forced = refl
forced_at (begin guid ask) b forced = refl
forced_at ends b forced = refl
forced_at finish b forced = refl
forced_at fix b forced = refl
forced_at (merge records) b forced = refl

-- so after steps the trail is settled
pub forced_front : (steps : List Step) (b : Base) → AreForced b (strokes_in steps) → (count : ℕ) → after_steps (settled b) (take count steps) ≡ settled (base_after b (strokes_in (take count steps)))
unfolding after_steps after_step strokes_in base_after
forced_front steps b are zero = refl
forced_front [] b are (suc count) = refl
forced_front (makes s ∷ ss) b are (suc count) = ap (λ (t : Trail). after_steps t (take count ss)) (settles_after s (settled b) (forced_at s b are.0)) ∙ forced_front ss (on_base s b) are.1 count
forced_front (settles ∷ ss) b are (suc count) = forced_front ss b are count

-- the strokes of a front of the steps are a front of the strokes
pub strokes_fronted : (steps : List Step) (count : ℕ) → strokes_in (take count steps) ≡ take (length (strokes_in (take count steps))) (strokes_in steps)
unfolding strokes_in
strokes_fronted steps zero = refl
strokes_fronted [] (suc count) = refl
strokes_fronted (makes s ∷ ss) (suc count) = ap (λ (xs : List Stroke). s ∷ xs) (strokes_fronted ss count)
strokes_fronted (settles ∷ ss) (suc count) = strokes_fronted ss count

-- more steps have no fewer strokes
strokes_more : (steps : List Step) (few many : ℕ) → few ≤ many → length (strokes_in (take few steps)) ≤ length (strokes_in (take many steps))
unfolding strokes_in
strokes_more steps zero many low = omega arith
strokes_more steps (suc few) zero low = absurd (omega arith)
strokes_more [] (suc few) (suc many) low = omega arith
strokes_more (makes s ∷ ss) (suc few) (suc many) low = let rest = strokes_more ss few many (omega (arith, low)) in omega (arith, rest)
strokes_more (settles ∷ ss) (suc few) (suc many) low = strokes_more ss few many (omega (arith, low))

-- what is acknowledged, in turns and in strokes
abbrev Agree : List Event → Option ℕ → ℕ → Type 0
Agree es None turns = turns ≡ 0
Agree es (Some n) turns = (1 ≤ turns) × (n ≡ length (strokes_of (take turns es)))

one_more : (e : Event) (es : List Event) (turns : ℕ) → length (strokes_of (take (suc turns) (e ∷ es))) ≡ length e.strokes + length (strokes_of (take turns es))
unfolding strokes_of
one_more e es turns = length-append e.strokes (strokes_of (take turns es))

none_more : (e : Event) (es : List Event) → length e.strokes ≡ length (strokes_of (take 1 (e ∷ es)))
unfolding strokes_of
none_more e es = omega (arith, length-append e.strokes [])

agree_quiet : (e : Event) (es : List Event) (x : Option ℕ) (turns : ℕ) → Agree es x turns → Agree (e ∷ es) (quiet (length e.strokes) x) (behind_quiet turns)
agree_quiet e es None turns is = ap behind_quiet is
agree_quiet e es (Some n) zero is = absurd (omega (arith, is.0))
agree_quiet e es (Some n) (suc turns) is = (omega arith, omega (arith, is.1, one_more e es (suc turns)))

agree_line : (e : Event) (es : List Event) (line said : ℕ) (x : Option ℕ) (turns : ℕ) → Agree es x turns → Agree (e ∷ es) (lined line (length e.strokes) said x) (behind_line line said turns)
agree_line e es line said x turns is = by (nat_le line said)
  where
    so_far : (x : Option ℕ) → Agree es x turns → Agree (e ∷ es) (whole (length e.strokes) x) (suc turns)
    so_far None none = subst (λ t. Agree (e ∷ es) (Some (length e.strokes)) (suc t)) (sym none) (omega arith, none_more e es)
    so_far (Some n) some = (omega arith, omega (arith, some.1, one_more e es turns))

    by : (b : Bool) → Agree (e ∷ es) (elim b as (λ z. Option ℕ) [ false ↦ None | true ↦ whole (length e.strokes) x ]) (elim b as (λ z. ℕ) [ true ↦ suc turns | false ↦ 0 ])
    by true = so_far x is
    by false = refl

agree : (es : List Event) (said : ℕ) → Agree es (acked_in es said) (acked_turns es said)
agree [] said = subst (λ (x : Option ℕ). Agree [] x (acked_turns [] said)) (sym (acked_in-empty said)) (turns_none said)
agree (e ∷ es) said = by (agree es) e.reply refl
  where
    by : ((n : ℕ) → Agree es (acked_in es n) (acked_turns es n)) → (reply : Option Reply) → e.reply ≡ reply → Agree (e ∷ es) (acked_in (e ∷ es) said) (acked_turns (e ∷ es) said)
    by later None is =
        subst (λ (x : Option ℕ). Agree (e ∷ es) x (acked_turns (e ∷ es) said)) (sym (acked_in-quiet e es said is))
        (subst (λ t. Agree (e ∷ es) (quiet (length e.strokes) (acked_in es said)) t) (sym (turns_quiet e es said is)) (agree_quiet e es (acked_in es said) (acked_turns es said) (later said)))
    by later (Some r) is =
        let line : ℕ = length (line_text e.session r) in
        subst (λ (x : Option ℕ). Agree (e ∷ es) x (acked_turns (e ∷ es) said)) (sym (acked_in-line e es said r is))
        (subst (λ t. Agree (e ∷ es) (lined line (length e.strokes) said (acked_in es (said - line))) t) (sym (turns_line e es said r is))
        (agree_line e es line said (acked_in es (said - line)) (acked_turns es (said - line)) (later (said - line))))

-- the acknowledged strokes are those of the acknowledged turns
acked_is : (es : List Event) (said : ℕ) → acked es said ≡ length (strokes_of (take (acked_turns es said) es))
unfolding strokes_of
acked_is es said = acked-number es said ∙ by (acked_in es said) (acked_turns es said) (agree es said)
  where
    by : (x : Option ℕ) (turns : ℕ) → Agree es x turns → number x ≡ length (strokes_of (take turns es))
    by None turns is = ap (λ t. length (strokes_of (take t es))) (sym is)
    by (Some n) turns is = is.1

-- The acknowledged steps make the acknowledged strokes, so as many steps or more make no fewer.
pub acked_made : (es : List Event) (said count : ℕ) → acked_steps es said ≤ count → acked es said ≤ length (strokes_in (take count (steps_of es)))
acked_made es said count low =
    let front : List Event = take (acked_turns es said) es in
    let rest : List Event = drop (acked_turns es said) es in
    let split : steps_of es ≡ steps_of front ++ steps_of rest = ap steps_of (sym (take-append-drop (acked_turns es said) es)) ∙ steps_append front rest in
    let first : take (length (steps_of front)) (steps_of es) ≡ steps_of front =
    ap (take (length (steps_of front))) split ∙ take-append-le (length (steps_of front)) (steps_of front) (steps_of rest) (omega arith) ∙ take_all (length (steps_of front)) (steps_of front) (omega arith) in
    omega (
      arith,
      acked_is es said,
      ap (λ (ss : List Step). length (strokes_in ss)) first,
      ap (λ (ss : List Stroke). length ss) (strokes_in_steps front),
      strokes_more (steps_of es) (acked_steps es said) count low,
    )
