-- The plan of a ship, case by case.
use Rattle.std.proofs.Common.{◌≡◌, ℕ, List, refl, sym, ap, ◌∙◌, Bool, true, false, ◌==◌, not, Option, None, Some, is_some, Result, Ok, Err}
use Rattle.std.proofs.lemmas.Bool.{eq-eqb, ne_eqb}
use Rattle.nb_top.proofs.Common.{File, Files, World, Fault, Refused, Device, Memory, Refusal, Base, Cause, Image, image_state, delta_name, owner, ShowsIn, normal_state, when, Attaches, IsAttached, Held}
use Rattle.nb_host.specs.declared.refusals.Refusal.TheVariants.{WrongState}
use Rattle.nb_host.specs.Names.{same_name}
use Rattle.nb_model.specs.Causes.{Tested, broken_at}
use Rattle.nb_model.specs.Chains.{History, Spot, backup_spot, guid_in, pages_of}
use Rattle.nb_engine.specs.History.{row_at}
use Rattle.nb_engine.specs.declared.rows.HistoryRow.{HistoryRow}
use Rattle.nb_ship.specs.Answers.{Says}
use Rattle.nb_ship.specs.Steps.{first_step, since}
use Rattle.nb_ship.specs.declared.steps.Step.{Step}
use Rattle.nb_ship.specs.Looks.{look_at}
use Rattle.nb_ship.specs.declared.found.Found.{Found}
use Rattle.nb_ship.specs.declared.found.Found.TheVariants.{Next}
use Rattle.nb_ship.specs.declared.found.Look.{Look}
use Rattle.nb_top.specs.declared.ship_plan.ShipPlan.{ShipPlan}
use Rattle.nb_top.specs.Shipping.{ship_plan}
use Rattle.nb_top.specs.Shipping.{IsOpenNormal, OpensNormal, after_look, is_known, not_asked, not_normal, plan_by, plan_with}

-- a primary in the normal state, and one in another
pub is_normal : (image : Image) → (image_state image == normal_state) ≡ true → not_normal image ≡ None
is_normal image is = ap (λ (t : Bool). when (not t) (WrongState (image_state image))) is

pub is_other : (image : Image) → (image_state image == normal_state) ≡ false → not_normal image ≡ Some (WrongState (image_state image))
is_other image is = ap (λ (t : Bool). when (not t) (WrongState (image_state image))) is

module _ (files : Files) (primary standby : List ℕ) where
  -- it isn't opened
  pub plan_unopened : (refusal : Refusal) → owner primary (files primary) (files (delta_name primary)) ≡ Err refusal → ship_plan files primary standby ≡ Err refusal
  unfolding ship_plan
  plan_unopened refusal is = rw (is, ship_plan) refl

  module _ (b : Base) (shows : ShowsIn primary b files) where
    opened : ship_plan files primary standby ≡ plan_with b.image (look_at files standby)
    unfolding ship_plan
    opened = let is : owner primary (files primary) (files (delta_name primary)) ≡ Ok b = shows in rw (is, ship_plan) refl

    abbrev by_cause : Cause → Result Look Refusal → Result ShipPlan Refusal
    by_cause cause looked = elim cause as (λ z. Result ShipPlan Refusal) [ Some refusal ↦ Err refusal | None ↦ elim looked as (λ z. Result ShipPlan Refusal) [ Err refusal ↦ Err refusal | Ok look ↦ after_look b.image look ] ]

    -- it is in another state
    pub plan_other : (refusal : Refusal) → not_normal b.image ≡ Some refusal → ship_plan files primary standby ≡ Err refusal
    plan_other refusal is = opened ∙ ap (λ (c : Cause). by_cause c (look_at files standby)) is

    module _ (normal : not_normal b.image ≡ None) where
      by_look : ship_plan files primary standby ≡ by_cause None (look_at files standby)
      by_look = opened ∙ ap (λ (c : Cause). by_cause c (look_at files standby)) normal

      -- the look is refused
      pub plan_unlooked : (refusal : Refusal) → look_at files standby ≡ Err refusal → ship_plan files primary standby ≡ Err refusal
      plan_unlooked refusal is = by_look ∙ ap (by_cause None) is

      module _ (look : Look) (is : look_at files standby ≡ Ok look) where
        abbrev by_history : Cause → Result ShipPlan Refusal
        by_history cause = elim cause as (λ z. Result ShipPlan Refusal) [ Some refusal ↦ Err refusal | None ↦ Ok (plan_by look (is_known b.image look.found)) ]

        looked : ship_plan files primary standby ≡ by_history (not_asked b.image look.found)
        looked = by_look ∙ ap (by_cause None) is

        -- its history is broken
        pub plan_unasked : (refusal : Refusal) → not_asked b.image look.found ≡ Some refusal → ship_plan files primary standby ≡ Err refusal
        plan_unasked refusal broken = looked ∙ ap by_history broken

        -- there is one
        pub plan_made : (known : Bool) → not_asked b.image look.found ≡ None → known ≡ is_known b.image look.found → ship_plan files primary standby ≡ Ok (plan_by look known)
        plan_made known formed same = looked ∙ ap by_history formed ∙ ap (λ (k : Bool). Ok (plan_by look k)) (sym same)

-- ---- by what the calls answer

module _ (old new : World) (primary : List ℕ) where
  -- it isn't opened
  pub unopened : (fault : Fault) → Attaches (Err fault) old new primary → OpensNormal (Err fault) old.files primary new
  unopened (Refused refusal) answer = λ standby. plan_unopened old.files primary standby refusal answer
  unopened Device answer = tt
  unopened Memory answer = tt

  module _ (held : Held) (at : IsAttached held old new primary) where
    state_is : held.files.state ≡ image_state at.base.image
    state_is = at.opened.files.agrees.state

    -- it is in the normal state, or in another
    pub opened_normal : held.files.state ≡ normal_state → IsOpenNormal old.files primary new held
    opened_normal normal = record { base = at.base; shows = at.stands; normal = is_normal at.base.image (eq-eqb (image_state at.base.image) normal_state (sym state_is ∙ normal)); opened = at.opened }

    pub opened_other : (found : ℕ) → found ≡ held.files.state → (held.files.state ≡ normal_state → ⊥) → (standby : List ℕ) → ship_plan old.files primary standby ≡ Err (WrongState found)
    opened_other found same other standby =
        plan_other old.files primary standby at.base at.stands (WrongState found)
        (is_other at.base.image (ne_eqb (image_state at.base.image) normal_state (λ is. other (state_is ∙ is))) ∙ ap (λ (n : ℕ). Some (WrongState n)) (sym (same ∙ state_is)))

module _ (files : Files) (primary standby : List ℕ) where
  pub says_unopened : (fault : Fault) (w : World) → OpensNormal (Err fault) files primary w → Says (ship_plan files primary standby) (Err fault)
  says_unopened (Refused refusal) w answer = answer standby
  says_unopened Device w answer = tt
  says_unopened Memory w answer = tt

  module _ (w : World) (held : Held) (at : IsOpenNormal files primary w held) where
    pub says_unlooked : (fault : Fault) → Says (look_at files standby) (Err fault) → Says (ship_plan files primary standby) (Err fault)
    says_unlooked (Refused refusal) answer = plan_unlooked files primary standby at.base at.shows at.normal refusal answer
    says_unlooked Device answer = tt
    says_unlooked Memory answer = tt

    module _ (look : Look) (is : look_at files standby ≡ Ok look) where
      pub says_unasked : (fault : Fault) → Tested {T = Bool} (Err fault) (not_asked at.base.image look.found) → Says (ship_plan files primary standby) (Err fault)
      says_unasked (Refused refusal) answer = plan_unasked files primary standby at.base at.shows at.normal look is refusal answer
      says_unasked Device answer = tt
      says_unasked Memory answer = tt

      pub says_made : (known : Bool) → not_asked at.base.image look.found ≡ None → known ≡ is_known at.base.image look.found → (plan : ShipPlan) → plan.first ≡ first_step look.found known → plan.since ≡ since look.guid look.found known
          → ship_plan files primary standby ≡ Ok plan
      says_made known formed same plan first from =
          plan_made files primary standby at.base at.shows at.normal look is known formed same
          ∙ ap (λ (s : Step). Ok (record { first = s; since = since look.guid look.found known })) (sym first) ∙ ap (λ (g : List ℕ). Ok (record { first = plan.first; since = g })) (sym from)

-- ---- by what a walk of the history answers

-- a row stands there exactly where its slot does
row_there : (spot : Option Spot) → is_some (row_at spot) ≡ is_some spot
row_there None = refl
row_there (Some spot) = refl

module _ (image : Image) (found : Found) (guid : List ℕ) (is : found ≡ Next guid) where
  -- the history is asked, and has that row or none
  pub asked_test : broken_at (pages_of History image) ≡ None → not_asked image found ≡ None
  asked_test formed = ap (not_asked image) is ∙ formed

  pub asked_known : (row : Option HistoryRow) → row ≡ row_at (backup_spot (λ slot. same_name (guid_in slot) guid) image) → is_some row ≡ is_known image found
  asked_known row same = ap is_some same ∙ row_there (backup_spot (λ slot. same_name (guid_in slot) guid) image) ∙ sym (ap (is_known image) is)

  -- or it is broken
  pub asked_fails : (fault : Fault) → Tested {T = Option HistoryRow} (Err fault) (broken_at (pages_of History image)) → Tested {T = Bool} (Err fault) (not_asked image found)
  asked_fails (Refused refusal) broken = ap (not_asked image) is ∙ broken
  asked_fails Device broken = tt
  asked_fails Memory broken = tt
