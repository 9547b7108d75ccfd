-- Steps of runs, one after another, and how many of them are acknowledged.
use Rattle.std.proofs.Common.{◌≡◌, ℕ, zero, suc, ◌+◌, ◌-◌, ◌≤◌, List, [], ◌∷◌, ◌++◌, length, take, refl, sym, ap, ◌∙◌, arith, length-append, append_assoc, Bool, Option, Some, None, true, false, nat_le}
use Rattle.nb_model.proofs.Common.{lt-leb, append-nil, take-append-le, take_all, take-append-add, Reply, Base, line_text, Stroke, base_after, Event, strokes_of, output, Trail, settled, after_stroke, Step, makes, settles, after_step, after_steps, made, steps_in, steps_of, acked_turns, acked_steps}
use Rattle.nb_model.proofs.OutputLaws.{line-some, output-quiet, output-line, output_no_event}
use Rattle.nb_model.proofs.StrokeLaws.{base_after-append}
use Rattle.nb_model.proofs.SteadyLaws.{stroke_seen}

-- no step
pub steps_none : steps_of [] ≡ []
unfolding steps_of
steps_none = refl

-- one turn
pub steps_one : (e : Event) → steps_of (e ∷ []) ≡ steps_in e
unfolding steps_of
steps_one e = append-nil (steps_in e)

-- turns after turns
pub steps_append : (es fs : List Event) → steps_of (es ++ fs) ≡ steps_of es ++ steps_of fs
unfolding steps_of
steps_append [] fs = refl
steps_append (e ∷ es) fs = ap (λ (ss : List Step). steps_in e ++ ss) (steps_append es fs) ∙ sym (append_assoc (steps_in e) (steps_of es) (steps_of fs))

pub steps_length : (es fs : List Event) → length (steps_of (es ++ fs)) ≡ length (steps_of es) + length (steps_of fs)
steps_length es fs = ap length (steps_append es fs) ∙ length-append (steps_of es) (steps_of fs)

-- steps after steps
pub after_steps_append : (t : Trail) (xs ys : List Step) → after_steps t (xs ++ ys) ≡ after_steps (after_steps t xs) ys
unfolding after_steps
after_steps_append t [] ys = refl
after_steps_append t (x ∷ xs) ys = after_steps_append (after_step x t) xs ys

-- no step more
pub after_no_step : (t : Trail) → after_steps t [] ≡ t
unfolding after_steps
after_no_step t = refl

-- a settled point
pub after_settling : (t : Trail) → after_steps t (settles ∷ []) ≡ settled t.base
unfolding after_steps after_step
after_settling t = refl

pub made_length : (ss : List Stroke) → length (made ss) ≡ length ss
unfolding made
made_length [] = refl
made_length (s ∷ ss) = ap suc (made_length ss)

-- a front of them
pub made_front : (count : ℕ) (ss : List Stroke) → take count (made ss) ≡ made (take count ss)
unfolding made
made_front zero ss = refl
made_front (suc count) [] = refl
made_front (suc count) (s ∷ ss) = ap (λ (xs : List Step). makes s ∷ xs) (made_front count ss)

-- the first steps of the first run are the first of both, and after all of its steps stand those of the second
pub steps_front : (es fs : List Event) (count : ℕ) → count ≤ length (steps_of es) → take count (steps_of (es ++ fs)) ≡ take count (steps_of es)
steps_front es fs count low = ap (take count) (steps_append es fs) ∙ take-append-le count (steps_of es) (steps_of fs) low

pub steps_behind : (es fs : List Event) (count : ℕ) → take (length (steps_of es) + count) (steps_of (es ++ fs)) ≡ steps_of es ++ take count (steps_of fs)
steps_behind es fs count = ap (take (length (steps_of es) + count)) (steps_append es fs) ∙ take-append-add (steps_of es) (steps_of fs) count

pub made_seen : (t : Trail) (ss : List Stroke) → (after_steps t (made ss)).base ≡ base_after t.base ss
unfolding after_steps after_step made base_after
made_seen t [] = refl
made_seen t (s ∷ ss) = made_seen (after_stroke s t) ss ∙ ap (λ (b : Base). base_after b ss) (stroke_seen t s)

settled_seen : (t : Trail) (waits : Bool) → (after_steps t (elim waits as (λ z. List Step) [ true ↦ settles ∷ [] | false ↦ [] ])).base ≡ t.base
unfolding after_steps after_step
settled_seen t true = refl
settled_seen t false = refl

turn_seen : (t : Trail) (e : Event) → (after_steps t (steps_in e)).base ≡ base_after t.base e.strokes
turn_seen t e =
    ap (λ (u : Trail). u.base) (after_steps_append t (made e.strokes) (elim e.syncs as (λ z. List Step) [ true ↦ settles ∷ [] | false ↦ [] ]))
    ∙ settled_seen (after_steps t (made e.strokes)) e.syncs ∙ made_seen t e.strokes

pub steps_seen : (t : Trail) (es : List Event) → (after_steps t (steps_of es)).base ≡ base_after t.base (strokes_of es)
unfolding after_steps steps_of base_after strokes_of
steps_seen t [] = refl
steps_seen t (e ∷ es) =
    ap (λ (u : Trail). u.base) (after_steps_append t (steps_in e) (steps_of es)) ∙ steps_seen (after_steps t (steps_in e)) es
    ∙ ap (λ (b : Base). base_after b (strokes_of es)) (turn_seen t e) ∙ sym (base_after-append t.base e.strokes (strokes_of es))

-- More turns have no fewer steps.
pub steps_grow : (es : List Event) (m n : ℕ) → m ≤ n → length (steps_of (take m es)) ≤ length (steps_of (take n es))
unfolding steps_of
steps_grow es zero n low = omega arith
steps_grow [] (suc m) n low = omega arith
steps_grow (e ∷ es) (suc m) zero low = absurd (omega arith)
steps_grow (e ∷ es) (suc m) (suc n) low =
    let rest = steps_grow es m n (omega arith) in
    omega (arith, rest, length-append (steps_in e) (steps_of (take m es)), length-append (steps_in e) (steps_of (take n es)))

-- turns are acknowledged after one that says nothing
abbrev pub behind_quiet : ℕ → ℕ
behind_quiet n = elim n as (λ z. ℕ) [ zero ↦ 0 | suc m ↦ suc (suc m) ]

behind_quiet_most : (n : ℕ) → behind_quiet n ≤ suc n
behind_quiet_most zero = omega arith
behind_quiet_most (suc n) = omega arith

-- and after one whose line is among so many bytes, or not
abbrev pub behind_line : (line said : ℕ) → ℕ → ℕ
behind_line line said n = elim (nat_le line said) as (λ z. ℕ) [ true ↦ suc n | false ↦ 0 ]

behind_line_most : (line said n : ℕ) → behind_line line said n ≤ suc n
behind_line_most line said n = by (nat_le line said)
  where
    by : (b : Bool) → elim b as (λ z. ℕ) [ true ↦ suc n | false ↦ 0 ] ≤ suc n
    by true = omega arith
    by false = omega arith

pub turns_none : (said : ℕ) → acked_turns [] said ≡ 0
unfolding acked_turns
turns_none said = refl

pub turns_quiet : (e : Event) (es : List Event) (said : ℕ) → e.reply ≡ None → acked_turns (e ∷ es) said ≡ behind_quiet (acked_turns es said)
unfolding acked_turns
turns_quiet e es said none = rw (none, acked_turns) refl

pub turns_line : (e : Event) (es : List Event) (said : ℕ) (r : Reply) → e.reply ≡ Some r
    → acked_turns (e ∷ es) said ≡ behind_line (length (line_text e.session r)) said (acked_turns es (said - length (line_text e.session r)))
unfolding acked_turns
turns_line e es said r some = rw (some, acked_turns) refl

-- No more turns are acknowledged than there are,
pub turns_most : (es : List Event) (said : ℕ) → acked_turns es said ≤ length es
turns_most [] said = let none = turns_none said in omega arith
turns_most (e ∷ es) said = by (turns_most es) e.reply refl
  where
    by : ((n : ℕ) → acked_turns es n ≤ length es) → (reply : Option Reply) → e.reply ≡ reply → acked_turns (e ∷ es) said ≤ length (e ∷ es)
    by later None is = omega (arith, turns_quiet e es said is, behind_quiet_most (acked_turns es said), later said)
    by later (Some r) is =
        let line : ℕ = length (line_text e.session r) in
        omega (arith, turns_line e es said r is, behind_line_most line said (acked_turns es (said - line)), later (said - line))

-- none before anything is said, as no line is empty,
pub turns_before : (es : List Event) → acked_turns es 0 ≡ 0
turns_before [] = turns_none 0
turns_before (e ∷ es) = by (turns_before es) e.reply refl
  where
    by : acked_turns es 0 ≡ 0 → (reply : Option Reply) → e.reply ≡ reply → acked_turns (e ∷ es) 0 ≡ 0
    by later None is = turns_quiet e es 0 is ∙ ap behind_quiet later
    by later (Some r) is =
        turns_line e es 0 r is
        ∙ ap (λ (t : Bool). elim t as (λ z. ℕ) [ true ↦ suc (acked_turns es (0 - length (line_text e.session r))) | false ↦ 0 ]) (lt-leb (length (line_text e.session r)) 0 (line-some e.session r))

-- and of a second run none as long as no more is said than the lines of the first.
pub turns_front : (es fs : List Event) (said : ℕ) → said ≤ length (output es) → acked_turns (es ++ fs) said ≡ acked_turns es said
turns_front [] fs said low =
    let none : said ≡ 0 = omega (arith, ap length output_no_event, low) in
    ap (acked_turns fs) none ∙ turns_before fs ∙ sym (turns_none said)
turns_front (e ∷ es) fs said low = by (turns_front es fs) e.reply refl
  where
    by : ((n : ℕ) → n ≤ length (output es) → acked_turns (es ++ fs) n ≡ acked_turns es n) → (reply : Option Reply) → e.reply ≡ reply → acked_turns (e ∷ (es ++ fs)) said ≡ acked_turns (e ∷ es) said
    by later None is =
        let same : length (output (e ∷ es)) ≡ length (output es) = ap length (output-quiet e es is) in
        turns_quiet e (es ++ fs) said is ∙ ap behind_quiet (later said (omega (arith, same, low))) ∙ sym (turns_quiet e es said is)
    by later (Some r) is =
        let line : ℕ = length (line_text e.session r) in
        let same : length (output (e ∷ es)) ≡ length (line_text e.session r ++ output es) = ap length (output-line e es r is) in
        turns_line e (es ++ fs) said r is
        ∙ ap (behind_line line said) (later (said - line) (omega (arith, same, length-append (line_text e.session r) (output es), low)))
        ∙ sym (turns_line e es said r is)

-- After all lines of the first no more are acknowledged than its turns and those of the second.
pub turns_behind : (es fs : List Event) (said : ℕ) → acked_turns (es ++ fs) (length (output es) + said) ≤ length es + acked_turns fs said
turns_behind [] fs said =
    let same : acked_turns fs (length (output []) + said) ≡ acked_turns fs said = ap (acked_turns fs) (omega (arith, ap length output_no_event)) in
    omega (arith, same)
turns_behind (e ∷ es) fs said = by (turns_behind es fs said) e.reply refl
  where
    rest : ℕ
    rest = acked_turns (es ++ fs) (length (output es) + said)

    by : rest ≤ length es + acked_turns fs said → (reply : Option Reply) → e.reply ≡ reply → acked_turns (e ∷ (es ++ fs)) (length (output (e ∷ es)) + said) ≤ length (e ∷ es) + acked_turns fs said
    by later None is =
        let far : length (output (e ∷ es)) + said ≡ length (output es) + said = ap (λ (x : List ℕ). length x + said) (output-quiet e es is) in
        let same : acked_turns (e ∷ (es ++ fs)) (length (output (e ∷ es)) + said) ≡ behind_quiet rest = ap (acked_turns (e ∷ (es ++ fs))) far ∙ turns_quiet e (es ++ fs) (length (output es) + said) is in
        omega (arith, same, behind_quiet_most rest, later)
    by later (Some r) is =
        let line : ℕ = length (line_text e.session r) in
        let far : ℕ = length (output (e ∷ es)) + said in
        let left : far - line ≡ length (output es) + said = omega (arith, ap length (output-line e es r is), length-append (line_text e.session r) (output es)) in
        let same : acked_turns (e ∷ (es ++ fs)) far ≡ behind_line line far rest = turns_line e (es ++ fs) far r is ∙ ap (λ n. behind_line line far (acked_turns (es ++ fs) n)) left in
        omega (arith, same, behind_line_most line far rest, later)

-- So it is with steps: none is acknowledged before anything is said,
pub acked_steps_none : (es : List Event) → acked_steps es 0 ≡ 0
unfolding steps_of
acked_steps_none es = ap (λ n. length (steps_of (take n es))) (turns_before es)

-- and at most all are;
pub acked_steps_most : (es : List Event) (said : ℕ) → acked_steps es said ≤ length (steps_of es)
acked_steps_most es said =
    let all : take (length es) es ≡ es = take_all (length es) es (omega arith) in
    omega (arith, steps_grow es (acked_turns es said) (length es) (turns_most es said), ap (λ (xs : List Event). length (steps_of xs)) all)

-- as long as no more is said than the lines of the first run, the second has no part in it,
pub acked_steps_front : (es fs : List Event) (said : ℕ) → said ≤ length (output es) → acked_steps (es ++ fs) said ≡ acked_steps es said
acked_steps_front es fs said low =
    ap (λ n. length (steps_of (take n (es ++ fs)))) (turns_front es fs said low)
    ∙ ap (λ (xs : List Event). length (steps_of xs)) (take-append-le (acked_turns es said) es fs (turns_most es said))

-- and once they are all said, it is no more than its steps and what is acknowledged of the second.
pub acked_steps_behind : (es fs : List Event) (said : ℕ) → acked_steps (es ++ fs) (length (output es) + said) ≤ length (steps_of es) + acked_steps fs said
acked_steps_behind es fs said =
    let turns : ℕ = acked_turns fs said in
    let cut : take (length es + turns) (es ++ fs) ≡ es ++ take turns fs = take-append-add es fs turns in
    omega (
      arith,
      steps_grow (es ++ fs) (acked_turns (es ++ fs) (length (output es) + said)) (length es + turns) (turns_behind es fs said),
      ap (λ (xs : List Event). length (steps_of xs)) cut,
      steps_length es (take turns fs),
    )

-- a front of the strokes of one turn is one of its steps
pub strokes_within : (e : Event) → length e.strokes ≤ length (steps_of (e ∷ []))
strokes_within e =
    let tail : List Step = elim e.syncs as (λ z. List Step) [ true ↦ settles ∷ [] | false ↦ [] ] in
    omega (arith, ap length (steps_one e), length-append (made e.strokes) tail, made_length e.strokes)

pub strokes_front : (e : Event) (count : ℕ) → count ≤ length e.strokes → take count (steps_of (e ∷ [])) ≡ made (take count e.strokes)
strokes_front e count low =
    let tail : List Step = elim e.syncs as (λ z. List Step) [ true ↦ settles ∷ [] | false ↦ [] ] in
    ap (take count) (steps_one e) ∙ take-append-le count (made e.strokes) tail (omega (arith, low, made_length e.strokes)) ∙ made_front count e.strokes

-- one turn that waits for nothing
pub steps_plain : (e : Event) → e.syncs ≡ false → steps_in e ≡ made e.strokes
steps_plain e plain = ap (λ (b : Bool). made e.strokes ++ elim b as (λ z. List Step) [ true ↦ settles ∷ [] | false ↦ [] ]) plain ∙ append-nil (made e.strokes)
