-- Which state a case of the table tells.
use Rattle.std.proofs.Common.{◌≡◌, ◌≢◌, ◌≤◌, inl, inr, ℕ, zero, suc, List, [], ◌∷◌, ◌++◌, replicate, refl, sym, ap, subst, ◌∙◌, arith, Bool, not, ◌==◌, None, Result, Ok, Err}
use Rattle.nb_cases.proofs.Common.{normal_state, stalled_state, applying_state, NoFile, Base, base_of, Cause, when, not_state, Image, image_state, delta_name, owner_in, owner_with, noted, Diverts, DivertsNone, OnAttach, OnOpen, OnWrite, none_to_end}
use Rattle.std.proofs.lemmas.Bool.Decides.{eqb_tells}
use Rattle.nb_fields.specs.Bytes.{number_in, number_of}
use Rattle.nb_host.specs.declared.refusals.Refusal.{Refusal}
use Rattle.nb_host.specs.declared.refusals.Refusal.TheVariants.{WrongState as in_state, Unfinished as unfinished}
use Rattle.nb_cases.specs.declared.events.Case.{Case}
use Rattle.nb_cases.specs.declared.events.Case.TheVariants.{NoCall, Go, WrongState, Unfinished, Main, Delta, BothOrMain, GoWithDelta, GoWithoutDelta, GoOrUnfinished}
use Rattle.nb_cases.proofs.EventLaws.{diverts_none_merge, diverts_none_normal, diverts_stalled}
use Rattle.nb_host.proofs.PlainLaws.{some_none}

-- ---- an open database is asked for a turn

-- an image of a state
image_of : ℕ → Image
image_of state = (replicate 22 0 ++ state ∷ 0 ∷ []) ∷ []

image_is : (state : ℕ) → state ≤ 2 → image_state (image_of state) ≡ state
unfolding image_of number_in number_of
image_is zero low = refl
image_is (suc zero) low = refl
image_is (suc (suc zero)) low = refl
image_is (suc (suc (suc more))) low = absurd (omega (arith, low))

-- no test applies
equal : (n k : ℕ) → when (not (n == k)) (in_state n) ≡ None → n ≡ k
equal n k none = elim (eqb_tells n k) [
  | inl w ↦ w.1
  | inr w ↦ absurd (some_none (in_state n) (sym (ap (λ (t : Bool). when (not t) (in_state n)) w.0) ∙ none))
]

some : (n : ℕ) → when (n == 0) (in_state normal_state) ≡ None → 1 ≤ n
some n none = elim (eqb_tells n 0) [
  | inl w ↦ absurd (some_none (in_state normal_state) (sym (ap (λ (t : Bool). when t (in_state normal_state)) w.0) ∙ none))
  | inr w ↦ omega (arith, w.1)
]

-- what isn't refused by its state goes
module _ (cause : Image → Cause) (state : ℕ) (low : state ≤ 2) (case : Case) (says : OnOpen cause state case) where
  pub goes : case ≢ WrongState → (image : Image) → image_state image ≡ state → cause image ≡ None
  goes other = by case says other
    where
      by : (case : Case) → OnOpen cause state case → case ≢ WrongState → (image : Image) → image_state image ≡ state → cause image ≡ None
      by Go says other = says
      by WrongState says other = absurd (other refl)
      by NoCall says other = absurd (omega (arith, low, says))
      by Unfinished says other = absurd says
      by Main says other = absurd says
      by Delta says other = absurd says
      by BothOrMain says other = absurd says
      by GoWithDelta says other = absurd says
      by GoWithoutDelta says other = absurd says
      by GoOrUnfinished says other = absurd says

-- so its state is known
module _ (state : ℕ) (low : state ≤ 2) (case : Case) (other : case ≢ WrongState) where
  only_in : (one : ℕ) → OnOpen (not_state one) state case → state ≡ one
  only_in one says =
      let is = image_is state low in
      equal state one (sym (ap (λ (n : ℕ). when (not (n == one)) (in_state n)) is) ∙ goes (not_state one) state low case says other (image_of state) is)

  pub only_normal : OnOpen (not_state normal_state) state case → state ≡ normal_state
  only_normal = only_in 0

  pub only_stalled : OnOpen (not_state stalled_state) state case → state ≡ stalled_state
  only_stalled = only_in 1

  pub some_backup : OnOpen none_to_end state case → 1 ≤ state
  some_backup says =
      let is = image_is state low in
      some state (sym (ap (λ (n : ℕ). when (n == 0) (in_state normal_state)) is) ∙ goes none_to_end state low case says other (image_of state) is)

-- ---- a page is written

-- a page that has no entry gets one
is_noted : noted 0 [] ≡ [] → ⊥
unfolding noted
is_noted e = cc

-- in the stalled state, and in no other
stalled_diverts : DivertsNone 1 → ⊥
stalled_diverts none =
    let b : Base = base_of (image_of 1) in
    let is = image_is 1 (omega arith) in
    is_noted (sym (diverts_stalled b 0 [] is) ∙ none b 0 [] is)

only_stalled_diverts : (state : ℕ) → state ≤ 2 → Diverts state → state ≡ stalled_state
only_stalled_diverts zero low diverts =
    let b : Base = base_of (image_of 0) in
    let is = image_is 0 low in
    absurd (is_noted (sym (diverts b 0 [] is) ∙ diverts_none_normal b 0 [] is))
only_stalled_diverts (suc zero) low diverts = refl
only_stalled_diverts (suc (suc zero)) low diverts =
    let b : Base = base_of (image_of 2) in
    let is = image_is 2 low in
    absurd (is_noted (sym (diverts b 0 [] is) ∙ diverts_none_merge b 0 [] is))
only_stalled_diverts (suc (suc (suc more))) low diverts = absurd (omega (arith, low))

-- a page goes to the difference file alone in the stalled state
pub diverted_stalled : (state : ℕ) → state ≤ 2 → OnWrite state Delta → state ≡ stalled_state
diverted_stalled state low says = only_stalled_diverts state low says.1

-- and otherwise in another one
pub plain_not_stalled : (state : ℕ) (case : Case) → OnWrite state case → case ≢ Delta → state ≢ stalled_state
plain_not_stalled state case says other stalled = by case (subst (λ (n : ℕ). OnWrite n case) stalled says) other
  where
    by : (case : Case) → OnWrite 1 case → case ≢ Delta → ⊥
    by Delta says other = other refl
    by Main says other = stalled_diverts says.1
    by BothOrMain says other = stalled_diverts says.1
    by NoCall says other = omega (arith, says)
    by Go says other = says
    by WrongState says other = says
    by Unfinished says other = says
    by GoWithDelta says other = says
    by GoWithoutDelta says other = says
    by GoOrUnfinished says other = says

-- ---- a database is opened

opened_refused : (b : Base) → Ok b ≡ Err unfinished → ⊥
opened_refused b e = cc

otherwise_refused : (name : List ℕ) → let other : Result Base Refusal = Err (NoFile name) in other ≡ Err unfinished → ⊥
otherwise_refused name e = cc

-- it is refused as unfinished where a merge into a standby was stopped
pub unfinished_applying : (state : ℕ) → state ≤ 3 → OnAttach state Unfinished → state ≡ applying_state
unfolding owner_in owner_with
unfinished_applying zero low says = absurd (opened_refused _ (says [] [] None))
unfinished_applying (suc zero) low says = absurd (otherwise_refused (delta_name []) (says [] [] None))
unfinished_applying (suc (suc zero)) low says = absurd (otherwise_refused (delta_name []) (says [] [] None))
unfinished_applying (suc (suc (suc zero))) low says = refl
unfinished_applying (suc (suc (suc (suc more)))) low says = absurd (omega (arith, low))

-- and in no other state
pub opened_not_applying : (state : ℕ) (case : Case) → OnAttach state case → case ≢ Unfinished → state ≢ applying_state
unfolding owner_in owner_with
opened_not_applying state case says other applying = by case (subst (λ (n : ℕ). OnAttach n case) applying says) other
  where
    by : (case : Case) → OnAttach 3 case → case ≢ Unfinished → ⊥
    by Unfinished says other = other refl
    by Go says other = opened_refused _ (sym (says [] [] None))
    by GoWithDelta says other = otherwise_refused (delta_name []) (sym (says [] [] None))
    by NoCall says other = says
    by WrongState says other = says
    by Main says other = says
    by Delta says other = says
    by BothOrMain says other = says
    by GoWithoutDelta says other = says
    by GoOrUnfinished says other = says
