-- The files that events make, and events that make none.
use Rattle.std.proofs.Common.{◌≡◌, ◌⊎◌, inl, inr, ℕ, zero, suc, ◌-◌, ◌≤◌, List, [], ◌∷◌, length, take, refl, sym, ap, subst, ◌∙◌, arith, Contains, Option, Some, None}
use Rattle.nb_top.proofs.Common.{MadeFile, IsNoneOf, Event, files_made, acked_turns, turns_before, steps_in, steps_of, steps_one, begun_none, begun_turns, open_front, open_one, open_steps}

-- the steps of the first turn may be made before its line is said
pub open_first : (e : Event) (es : List Event) (said : ℕ) → length (steps_in e) ≤ open_steps (e ∷ es) said
open_first e es said = omega (arith, ap length (steps_one e), open_one e said, open_front (e ∷ []) es said)

-- so all steps of one that is alone
pub open_alone : (e : Event) (said : ℕ) → length (steps_of (e ∷ [])) ≤ open_steps (e ∷ []) said
open_alone e said = omega (arith, open_one e said)

pub no_file : (file : MadeFile) → Contains {X = MadeFile} [] file → ⊥
no_file file there = omega (arith, there.1)

-- a file is the first one or one of the others
pub first_or : (file f : MadeFile) (files : List MadeFile) → Contains (file ∷ files) f → (f ≡ file) ⊎ Contains files f
first_or file f files (zero, low, is) = inl (sym is)
first_or file f files (suc k, low, is) = inr (k, omega (arith, low), is)

-- before the others it makes no more than they
pub made_behind : (e : Event) (es : List Event) → e.made ≡ None → files_made (e ∷ es) ≡ files_made es
unfolding files_made
made_behind e es none = ap (λ (made : Option MadeFile). elim made as (λ z. List MadeFile) [ Some file ↦ file ∷ files_made es | None ↦ files_made es ]) none

no_event : (n : ℕ) (file : MadeFile) → Contains (files_made (take n [])) file → ⊥
unfolding files_made
no_event zero file there = no_file file there
no_event (suc n) file there = no_file file there

-- alone none, nor does a front of it
pub none_front : (e : Event) → e.made ≡ None → (n : ℕ) (file : MadeFile) → Contains (files_made (take n (e ∷ []))) file → ⊥
unfolding files_made
none_front e none zero file there = no_file file there
none_front e none (suc n) file there = no_event n file (subst (λ (files : List MadeFile). Contains files file) (made_behind e (take n []) none) there)

pub none_made : (e : Event) → e.made ≡ None → (file : MadeFile) → Contains (files_made (e ∷ [])) file → ⊥
none_made e none = none_front e none 1

-- before a line is said, no turn is acknowledged that makes one
pub none_yet : (es : List Event) (file : MadeFile) → Contains (files_made (take (acked_turns es 0) es)) file → ⊥
none_yet es file there = no_event 0 file (subst (λ (n : ℕ). Contains (files_made (take n es)) file) (turns_before es) there)

-- before a step is made, no turn has begun that makes one
pub none_begun : (es : List Event) (file : MadeFile) → Contains (files_made (take (begun_turns es 0) es)) file → ⊥
none_begun es file there = no_event 0 file (subst (λ (n : ℕ). Contains (files_made (take n es)) file) (begun_none es) there)

-- nor is it where the first turn alone has made its steps, and makes none
pub none_first : (e : Event) (es : List Event) → e.made ≡ None → (file : MadeFile) → Contains (files_made (take (begun_turns (e ∷ es) (length (steps_in e))) (e ∷ es))) file → ⊥
unfolding begun_turns files_made
none_first e es none file there = by (length (steps_in e)) refl there
  where
    by : (n : ℕ) → length (steps_in e) ≡ n → Contains (files_made (take (begun_turns (e ∷ es) n) (e ∷ es))) file → ⊥
    by zero is there = no_file file there
    by (suc n) is there =
        let done : suc n - length (steps_in e) ≡ 0 = omega (arith, is) in
        none_front e none 1 file
        (subst (λ (k : ℕ). Contains (files_made (take (suc k) (e ∷ es))) file) (ap (begun_turns es) done ∙ begun_none es) there)

-- no name is that of a file that it makes
pub none_alone : (e : Event) → e.made ≡ None → (m : List ℕ) → IsNoneOf (files_made (e ∷ [])) m
none_alone e none m bytes there = none_made e none (m, bytes) there
