-- How far events may have come, one list of them after another.
use Rattle.std.proofs.Common.{◌≡◌, ◌⊎◌, inl, inr, ℕ, zero, suc, ◌+◌, ◌-◌, ◌≤◌, List, [], ◌∷◌, ◌++◌, length, take, refl, ap, ◌∙◌, arith, length-append, Bool, Option, Some, None, true, false, nat_le}
use Rattle.nb_session.proofs.Common.{Reply, line_text, Event, output, steps_in, steps_of, steps_none, output_no_event, output-quiet, begun_turns, open_turns, open_steps}
use Rattle.std.proofs.lemmas.Bool.Decides.{leb_tells}
use Rattle.nb_model.proofs.OutputLaws.{output-line}

-- Of no event no turn has begun, and before the first step none,
pub begun_nil : (count : ℕ) → begun_turns [] count ≡ 0
unfolding begun_turns
begun_nil count = refl

pub begun_none : (es : List Event) → begun_turns es 0 ≡ 0
unfolding begun_turns
begun_none [] = refl
begun_none (e ∷ es) = refl

-- no more than there are,
pub begun_most : (es : List Event) (count : ℕ) → begun_turns es count ≤ length es
unfolding begun_turns
begun_most [] count = omega arith
begun_most (e ∷ es) zero = omega arith
begun_most (e ∷ es) (suc n) = let later = begun_most es (suc n - length (steps_in e)) in omega (arith, later)

-- and no fewer after more steps.
pub begun_grow : (es : List Event) (m n : ℕ) → m ≤ n → begun_turns es m ≤ begun_turns es n
unfolding begun_turns
begun_grow [] m n low = omega arith
begun_grow (e ∷ es) zero n low = omega arith
begun_grow (e ∷ es) (suc m) zero low = absurd (omega arith)
begun_grow (e ∷ es) (suc m) (suc n) low =
    let later = begun_grow es (suc m - length (steps_in e)) (suc n - length (steps_in e)) (omega arith) in
    omega (arith, later)

-- how many steps there are
steps_count : (e : Event) (es : List Event) → length (steps_of (e ∷ es)) ≡ length (steps_in e) + length (steps_of es)
unfolding steps_of
steps_count e es = length-append (steps_in e) (steps_of es)

-- Of a second list none has begun as long as no more steps were made than those of the first,
pub begun_front : (es fs : List Event) (count : ℕ) → count ≤ length (steps_of es) → begun_turns (es ++ fs) count ≡ begun_turns es count
unfolding begun_turns
begun_front [] fs count low =
    let none : count ≡ 0 = omega (arith, low, ap length steps_none) in
    ap (begun_turns fs) none ∙ begun_none fs
begun_front (e ∷ es) fs zero low = refl
begun_front (e ∷ es) fs (suc n) low = ap suc (begun_front es fs (suc n - length (steps_in e)) (omega (arith, low, steps_count e es)))

-- and then those of the second, and at most all of the first.
pub begun_behind : (es fs : List Event) (count : ℕ) → begun_turns (es ++ fs) (length (steps_of es) + count) ≤ length es + begun_turns fs count
unfolding begun_turns
begun_behind [] fs count =
    let same : begun_turns fs (length (steps_of []) + count) ≡ begun_turns fs count = ap (begun_turns fs) (omega (arith, ap length steps_none)) in
    omega (arith, same)
begun_behind (e ∷ es) fs count = by (begun_behind es fs count) (length (steps_of (e ∷ es)) + count) refl
  where
    by : begun_turns (es ++ fs) (length (steps_of es) + count) ≤ length es + begun_turns fs count → (all : ℕ) → all ≡ length (steps_of (e ∷ es)) + count → begun_turns (e ∷ (es ++ fs)) all ≤ suc (length es) + begun_turns fs count
    by later zero is = omega arith
    by later (suc n) is =
        let left : suc n - length (steps_in e) ≡ length (steps_of es) + count = omega (arith, is, steps_count e es) in
        let same : begun_turns (es ++ fs) (suc n - length (steps_in e)) ≡ begun_turns (es ++ fs) (length (steps_of es) + count) = ap (begun_turns (es ++ fs)) left in
        omega (arith, same, later)

-- how many turns may have begun where a line was said whole, or not
abbrev past_line : Bool → ℕ → ℕ
past_line whole later = elim whole as (λ z. ℕ) [ true ↦ suc later | false ↦ 1 ]

turns_quiet : (e : Event) (es : List Event) (said : ℕ) → e.reply ≡ None → open_turns (e ∷ es) said ≡ suc (open_turns es said)
unfolding open_turns
turns_quiet e es said none = rw (none, open_turns) refl

turns_line : (e : Event) (es : List Event) (said : ℕ) (r : Reply) → e.reply ≡ Some r
    → open_turns (e ∷ es) said ≡ past_line (nat_le (length (line_text e.session r)) said) (open_turns es (said - length (line_text e.session r)))
unfolding open_turns
turns_line e es said r some = rw (some, open_turns) refl

-- the steps of the first turn, and those of so many others
taken_count : (e : Event) (es : List Event) (n : ℕ) → length (steps_of (take (suc n) (e ∷ es))) ≡ length (steps_in e) + length (steps_of (take n es))
taken_count e es n = steps_count e (take n es)

-- After a turn that says nothing, or whose line was said whole, those of the next may have been made, and otherwise its own alone.
pub open_quiet : (e : Event) (es : List Event) (said : ℕ) → e.reply ≡ None → open_steps (e ∷ es) said ≡ length (steps_in e) + open_steps es said
open_quiet e es said none = ap (λ (n : ℕ). length (steps_of (take n (e ∷ es)))) (turns_quiet e es said none) ∙ taken_count e es (open_turns es said)

pub open_said : (e : Event) (es : List Event) (said : ℕ) (r : Reply) → e.reply ≡ Some r → nat_le (length (line_text e.session r)) said ≡ true
    → open_steps (e ∷ es) said ≡ length (steps_in e) + open_steps es (said - length (line_text e.session r))
open_said e es said r some whole =
    ap (λ (n : ℕ). length (steps_of (take n (e ∷ es)))) (turns_line e es said r some ∙ ap (λ (b : Bool). past_line b (open_turns es (said - length (line_text e.session r)))) whole)
    ∙ taken_count e es (open_turns es (said - length (line_text e.session r)))

pub open_unsaid : (e : Event) (es : List Event) (said : ℕ) (r : Reply) → e.reply ≡ Some r → nat_le (length (line_text e.session r)) said ≡ false → open_steps (e ∷ es) said ≡ length (steps_in e)
open_unsaid e es said r some part =
    let one : open_steps (e ∷ es) said ≡ length (steps_of (take 1 (e ∷ es))) =
    ap (λ (n : ℕ). length (steps_of (take n (e ∷ es)))) (turns_line e es said r some ∙ ap (λ (b : Bool). past_line b (open_turns es (said - length (line_text e.session r)))) part) in
    omega (arith, one, taken_count e es 0, ap length steps_none)

-- of no event none may
pub open_nil : (said : ℕ) → open_steps [] said ≡ 0
unfolding open_turns steps_of
open_nil said = refl

-- each number either reaches another or doesn't
either : (b : Bool) → (b ≡ true) ⊎ (b ≡ false)
either true = inl refl
either false = inr refl

-- No fewer may have been made where more events follow,
pub open_front : (es fs : List Event) (said : ℕ) → open_steps es said ≤ open_steps (es ++ fs) said
open_front [] fs said = let none : open_steps [] said ≡ 0 = open_nil said in omega (arith, none)
open_front (e ∷ es) fs said = by (open_front es fs) e.reply refl
  where
    by : ((n : ℕ) → open_steps es n ≤ open_steps (es ++ fs) n) → (reply : Option Reply) → e.reply ≡ reply → open_steps (e ∷ es) said ≤ open_steps (e ∷ (es ++ fs)) said
    by later None is = omega (arith, open_quiet e es said is, open_quiet e (es ++ fs) said is, later said)
    by later (Some r) is = elim (either (nat_le (length (line_text e.session r)) said)) [
      | inl whole ↦ (let left : ℕ = said - length (line_text e.session r) in omega (arith, open_said e es said r is whole, open_said e (es ++ fs) said r is whole, later left))
      | inr part ↦ omega (arith, open_unsaid e es said r is part, open_unsaid e (es ++ fs) said r is part)
    ]

-- and once all lines of the first events were said all of their steps, and those of the second that may.
pub open_behind : (es fs : List Event) (said : ℕ) → length (steps_of es) + open_steps fs said ≤ open_steps (es ++ fs) (length (output es) + said)
open_behind [] fs said =
    let same : open_steps fs (length (output []) + said) ≡ open_steps fs said = ap (open_steps fs) (omega (arith, ap length output_no_event)) in
    omega (arith, same, ap length steps_none)
open_behind (e ∷ es) fs said = by (open_behind es fs said) e.reply refl
  where
    by : length (steps_of es) + open_steps fs said ≤ open_steps (es ++ fs) (length (output es) + said) → (reply : Option Reply) → e.reply ≡ reply
        → length (steps_of (e ∷ es)) + open_steps fs said ≤ open_steps (e ∷ (es ++ fs)) (length (output (e ∷ es)) + said)
    by later None is =
        let far : length (output (e ∷ es)) + said ≡ length (output es) + said = ap (λ (x : List ℕ). length x + said) (output-quiet e es is) in
        let same : open_steps (e ∷ (es ++ fs)) (length (output (e ∷ es)) + said) ≡ length (steps_in e) + open_steps (es ++ fs) (length (output es) + said) =
        ap (open_steps (e ∷ (es ++ fs))) far ∙ open_quiet e (es ++ fs) (length (output es) + said) is in
        omega (arith, same, steps_count e es, later)
    by later (Some r) is =
        let line : ℕ = length (line_text e.session r) in
        let far : ℕ = length (output (e ∷ es)) + said in
        let long : length (output (e ∷ es)) ≡ line + length (output es) = ap length (output-line e es r is) ∙ length-append (line_text e.session r) (output es) in
        let left : far - line ≡ length (output es) + said = omega (arith, long) in
        let whole : nat_le line far ≡ true = elim (leb_tells line far) [ inl w ↦ w.0 | inr w ↦ absurd (omega (arith, w.1, long)) ] in
        let same : open_steps (e ∷ (es ++ fs)) far ≡ length (steps_in e) + open_steps (es ++ fs) (length (output es) + said) =
        open_said e (es ++ fs) far r is whole ∙ ap (λ (n : ℕ). length (steps_in e) + open_steps (es ++ fs) n) left in
        omega (arith, same, steps_count e es, later)

-- of one event all may
pub open_one : (e : Event) (said : ℕ) → open_steps (e ∷ []) said ≡ length (steps_of (e ∷ []))
open_one e said = by e.reply refl
  where
    by : (reply : Option Reply) → e.reply ≡ reply → open_steps (e ∷ []) said ≡ length (steps_of (e ∷ []))
    by None is = omega (arith, open_quiet e [] said is, open_nil said, steps_count e [], ap length steps_none)
    by (Some r) is = elim (either (nat_le (length (line_text e.session r)) said)) [
      | inl whole ↦ (let none = open_nil (said - length (line_text e.session r)) in omega (arith, open_said e [] said r is whole, none, steps_count e [], ap length steps_none))
      | inr part ↦ omega (arith, open_unsaid e [] said r is part, steps_count e [], ap length steps_none)
    ]
