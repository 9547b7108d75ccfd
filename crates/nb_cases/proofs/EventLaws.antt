-- The table of states and events: each cell says what its state says of its event.
use Rattle.std.proofs.Common.{◌≡◌, ℕ, zero, suc, List, [], ◌∷◌, refl, ap, ◌∙◌, arith, Bool, true, false, not, ◌||◌, ◌==◌, Some, None, is_some}
use Rattle.nb_cases.proofs.Common.{normal_state, stalled_state, merge_state, applying_state, DeltaPresent, Base, Cause, first_cause, when, not_state, Image, image_state, delta_name, owner_in, noted, on_base, AreTheCases, DivertsNone, IsFileIn, IsMainAlone, IsWithDelta, Diverts, none_to_end}
use Rattle.nb_fields.specs.Header.{state_of}
use Rattle.nb_host.specs.Files.{File}
use Rattle.nb_host.specs.declared.refusals.Refusal.TheVariants.{WrongState as in_state}
use Rattle.nb_model.specs.InPlace.{not_finishing, not_mergeable, not_next, not_standby}
use Rattle.nb_model.specs.Jobs.{not_fixable}
use Rattle.nb_model.specs.Levels.{Contents}
use Rattle.nb_cases.specs.declared.events.Event.TheVariants.{Attach, Begin, End, MergeTurn, Fixup, Write, CopyTo, Apply, Access}

-- the rows of the table
abbrev pub rows : List (List ℕ)
rows =
    (1 ∷ 1 ∷ 2 ∷ 0 ∷ 2 ∷ 4 ∷ 2 ∷ 1 ∷ 1 ∷ [])
    ∷ (7 ∷ 2 ∷ 1 ∷ 0 ∷ 8 ∷ 5 ∷ 1 ∷ 2 ∷ 2 ∷ [])
    ∷ (7 ∷ 2 ∷ 1 ∷ 1 ∷ 2 ∷ 6 ∷ 2 ∷ 2 ∷ 2 ∷ [])
    ∷ (3 ∷ 0 ∷ 0 ∷ 0 ∷ 2 ∷ 0 ∷ 0 ∷ 9 ∷ 0 ∷ [])
    ∷ []

-- the files
main_alone : IsMainAlone 0
unfolding owner_in
main_alone name bytes delta = refl

with_delta_stalled : IsWithDelta 1
unfolding owner_in
with_delta_stalled name bytes delta = refl

with_delta_merge : IsWithDelta 2
unfolding owner_in
with_delta_merge name bytes delta = refl

-- what is brought into the difference file
diverted_in : (state : ℕ) (b : Base) (p : ℕ) → List ℕ
diverted_in state b p = elim (state == stalled_state) [ true ↦ noted p b.diverted | false ↦ b.diverted ]

pub diverts_stalled : Diverts 1
unfolding on_base diverted_in
diverts_stalled b p bytes is = ap (λ (n : ℕ). diverted_in n b p) is

pub diverts_none_normal : DivertsNone 0
unfolding on_base diverted_in
diverts_none_normal b p bytes is = ap (λ (n : ℕ). diverted_in n b p) is

pub diverts_none_merge : DivertsNone 2
unfolding on_base diverted_in
diverts_none_merge b p bytes is = ap (λ (n : ℕ). diverted_in n b p) is

-- what an open database is asked
module _ (image : Image) (state : ℕ) (is : image_state image ≡ state) where
  not_in : (one : ℕ) → not_state one image ≡ when (not (state == one)) (in_state state)
  not_in one = ap (λ (n : ℕ). when (not (n == one)) (in_state n)) is

  to_end : none_to_end image ≡ when (state == normal_state) (in_state normal_state)
  to_end = ap (λ (n : ℕ). when (n == 0) (in_state normal_state)) is

-- a copy
fix_cause : (form : Cause) (state : ℕ) (delta : Cause) → Cause
fix_cause form state delta = first_cause (form ∷ when (not (state == stalled_state)) (in_state state) ∷ delta ∷ [])

module _ (state : ℕ) (name bytes : List ℕ) (delta : File) (is : IsFileIn state bytes) where
  abbrev present : Cause
  present = when (is_some delta) (DeltaPresent (delta_name name))

  fixed_by : not_fixable name (Some bytes) delta ≡ fix_cause None state present
  unfolding not_fixable fix_cause
  fixed_by = ap (λ (form : Cause). fix_cause form (state_of bytes) present) is.0 ∙ ap (λ (n : ℕ). fix_cause None n present) is.1

fix_other : (state : ℕ) (delta : Cause) → (state == stalled_state) ≡ false → fix_cause None state delta ≡ Some (in_state state)
unfolding fix_cause first_cause
fix_other state delta other = ap (λ (t : Bool). first_cause (None ∷ when (not t) (in_state state) ∷ delta ∷ [])) other

fix_stalled : (delta : Cause) → fix_cause None 1 delta ≡ delta
unfolding fix_cause first_cause
fix_stalled None = refl
fix_stalled (Some refusal) = refl

-- a standby
standby_cause : (form : Cause) (state : ℕ) → Cause
standby_cause form state = first_cause (form ∷ when (state == stalled_state || state == merge_state) (in_state state) ∷ [])

module _ (state : ℕ) (name bytes : List ℕ) (is : IsFileIn state bytes) where
  stands : not_standby name (Some bytes) ≡ standby_cause None state
  unfolding not_standby standby_cause
  stands = ap (λ (form : Cause). standby_cause form (state_of bytes)) is.0 ∙ ap (standby_cause None) is.1

  merges : (level : List ℕ) (c : Contents) → not_mergeable bytes level c ≡ elim (state == applying_state) as (λ t. Cause) [ true ↦ not_finishing level bytes c | false ↦ not_next level bytes c ]
  unfolding not_mergeable
  merges level c = ap (λ (n : ℕ). elim (n == 3) as (λ t. Cause) [ true ↦ not_finishing level bytes c | false ↦ not_next level bytes c ]) is.1

stands_normal : standby_cause None 0 ≡ None
unfolding standby_cause first_cause
stands_normal = refl

stands_stalled : standby_cause None 1 ≡ Some (in_state stalled_state)
unfolding standby_cause first_cause
stands_stalled = refl

stands_merge : standby_cause None 2 ≡ Some (in_state merge_state)
unfolding standby_cause first_cause
stands_merge = refl

stands_applying : standby_cause None 3 ≡ None
unfolding standby_cause first_cause
stands_applying = refl

pub the_cases : AreTheCases rows
unfolding owner_in
the_cases zero Attach low = main_alone
the_cases zero Begin low = λ image is. not_in image 0 is 0
the_cases zero End low = λ image is. to_end image 0 is
the_cases zero MergeTurn low = λ e. omega (arith, e)
the_cases zero Fixup low = λ name bytes delta is. fixed_by 0 name bytes delta is ∙ fix_other 0 _ refl
the_cases zero Write low = (main_alone, diverts_none_normal)
the_cases zero CopyTo low = λ image is. not_in image 0 is 1
the_cases zero Apply low = λ name level bytes c is. (stands 0 name bytes is ∙ stands_normal, merges 0 name bytes is level c)
the_cases zero Access low = λ image is. not_in image 0 is 0
the_cases (suc zero) Attach low = with_delta_stalled
the_cases (suc zero) Begin low = λ image is. not_in image 1 is 0
the_cases (suc zero) End low = λ image is. to_end image 1 is
the_cases (suc zero) MergeTurn low = λ e. omega (arith, e)
the_cases (suc zero) Fixup low = λ name bytes delta is. fixed_by 1 name bytes delta is ∙ fix_stalled _
the_cases (suc zero) Write low = (with_delta_stalled, diverts_stalled)
the_cases (suc zero) CopyTo low = λ image is. not_in image 1 is 1
the_cases (suc zero) Apply low = λ name bytes is. stands 1 name bytes is ∙ stands_stalled
the_cases (suc zero) Access low = λ image is. not_in image 1 is 0
the_cases (suc (suc zero)) Attach low = with_delta_merge
the_cases (suc (suc zero)) Begin low = λ image is. not_in image 2 is 0
the_cases (suc (suc zero)) End low = λ image is. to_end image 2 is
the_cases (suc (suc zero)) MergeTurn low = refl
the_cases (suc (suc zero)) Fixup low = λ name bytes delta is. fixed_by 2 name bytes delta is ∙ fix_other 2 _ refl
the_cases (suc (suc zero)) Write low = (with_delta_merge, diverts_none_merge)
the_cases (suc (suc zero)) CopyTo low = λ image is. not_in image 2 is 1
the_cases (suc (suc zero)) Apply low = λ name bytes is. stands 2 name bytes is ∙ stands_merge
the_cases (suc (suc zero)) Access low = λ image is. not_in image 2 is 0
the_cases (suc (suc (suc zero))) Attach low = λ name bytes delta. refl
the_cases (suc (suc (suc zero))) Begin low = refl
the_cases (suc (suc (suc zero))) End low = refl
the_cases (suc (suc (suc zero))) MergeTurn low = λ e. omega (arith, e)
the_cases (suc (suc (suc zero))) Fixup low = λ name bytes delta is. fixed_by 3 name bytes delta is ∙ fix_other 3 _ refl
the_cases (suc (suc (suc zero))) Write low = refl
the_cases (suc (suc (suc zero))) CopyTo low = refl
the_cases (suc (suc (suc zero))) Apply low = λ name level bytes c is. (stands 3 name bytes is ∙ stands_applying, merges 3 name bytes is level c)
the_cases (suc (suc (suc zero))) Access low = refl
the_cases (suc (suc (suc (suc more)))) event low = absurd (omega (arith, low))
