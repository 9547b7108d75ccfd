-- How the faults of a shadow count, and what a change comes to for its twin.
use Rattle.std.proofs.Common.{IsErr, ◌≡◌, inl, inr, ℕ, Bool, true, false, List, refl, sym, ◌∙◌, ap, subst, arith, Result, Ok, Err, Option, Some, None, OnErr, MatchResult}
use Rattle.std.proofs.lemmas.Bool.{false≢true}
use Rattle.nb_host.specs.Causes.{CountsFault, FaultCount, Rose}
use Rattle.nb_shadow.specs.declared.pair.Pairs.{Pairs}
use Rattle.nb_shadow.specs.Pairs.{AreApart, HasTwin, IsNoTwin, IsTwinName}
use Rattle.nb_shadow.specs.Shadowed.{counted}
use Rattle.nb_shadow.specs.Entries.{Asks, Enters, EntersAlone, EntersBoth, Follows, IsRefused, Raised, Refuses}

module _ (reference : ℕ) (ps : Pairs) where
  -- the twin's own count rose
  pub own_rose : (host : FaultCount) (before after : ℕ) → Raised before after → Rose (counted reference ps host before) (counted reference ps host after)
  own_rose host before after raised = let risen = raised.risen in let lower = raised.no_lower in record { whose = refl; risen = omega (arith, risen, lower); no_lower = omega (arith, lower) }

  -- the host's count
  pub host_counts : {T E : Type 0} (r : Result T E) (old new : FaultCount) (before after : ℕ) → CountsFault r old new → after ≡ before → CountsFault r (counted reference ps old before) (counted reference ps new after)
  host_counts (Ok x) old new before after is same = ap (λ (f : FaultCount). counted reference ps f after) is ∙ ap (counted reference ps old) same
  host_counts (Err e) old new before after is same =
      let risen = is.risen in let lower = is.no_lower in
      record {
        whose = ap (λ (w : List (List ℕ)). (counted reference ps (record old { whose = w }) before).whose) is.whose;
        risen = omega (arith, risen, lower, same);
        no_lower = omega (arith, lower, same);
      }

  -- of two calls, the first of them Ok, the second counts
  pub second_counts : {T E : Type 0} (s : Result T E) (old mid new : FaultCount) (before after : ℕ) → mid ≡ old → CountsFault s mid new → after ≡ before → CountsFault s (counted reference ps old before) (counted reference ps new after)
  second_counts s old mid new before after first second same = host_counts s old new before after (subst (λ (f : FaultCount). CountsFault s f new) first second) same

module _ (E : Type 0) (ps : Pairs) (name : List ℕ) (was is : Bool) (before after : ℕ) where
  pub enters_alone : (o : Option (List ℕ)) → o ≡ None → Enters {E = E} ps name (Ok o) was is before after → EntersAlone ps name was is before after
  enters_alone o none enters = subst (λ (q : Option (List ℕ)). Enters {E = E} ps name (Ok q) was is before after) none enters

  pub enters_both : (o : Option (List ℕ)) (copy : List ℕ) → o ≡ Some copy → Enters {E = E} ps name (Ok o) was is before after → EntersBoth ps name copy was is before after
  enters_both o copy some enters = subst (λ (q : Option (List ℕ)). Enters {E = E} ps name (Ok q) was is before after) some enters

-- a name that was let in isn't refused
no_refusal : {P : Type 0} (ps : Pairs) (name : List ℕ) (was : Bool) → IsNoTwin ps name → (HasTwin ps name → was ≡ true → ⊥) → IsRefused ps name was → P
no_refusal ps name was no_twin kept (inl (inl main)) = absurd (no_twin.not_main main)
no_refusal ps name was no_twin kept (inl (inr delta)) = absurd (no_twin.not_delta delta)
no_refusal ps name was no_twin kept (inr behind) = absurd (kept behind.0 behind.1)

-- no file that has a twin is one
apart_names : {P : Type 0} (ps : Pairs) (name : List ℕ) → AreApart ps → IsTwinName ps name → HasTwin ps name → P
apart_names ps name apart (inl copy) (inl main) = absurd (apart.in_main (sym main ∙ copy))
apart_names ps name apart (inl copy) (inr delta) = absurd (apart.delta_copy (sym delta ∙ copy))
apart_names ps name apart (inr copy) (inl main) = absurd (apart.main_copy (sym main ∙ copy))
apart_names ps name apart (inr copy) (inr delta) = absurd (apart.in_delta (sym delta ∙ copy))

module _ {H T E : Type 0} (faults : H → FaultCount) (ps : Pairs) (name : List ℕ) (was is : Bool) (before after : ℕ) where
  -- a call that the twin refused
  pub follows_refused : (e : E) (h : H) → AreApart ps → Refuses ps name was is before after → Follows {T = T} faults (Err e) ps name was is h h
  follows_refused e h apart refuses = record {
    blame = λ kept_up no_twin. no_refusal ps name was no_twin (λ has behind. false≢true (sym kept_up ∙ behind)) refuses.why;
    behind = λ has. by refuses.why has;
    refuses = λ why. (refl, refl);
  }
    where
      by : IsRefused ps name was → HasTwin ps name → is ≡ true
      by (inr behind) has = refuses.same ∙ behind.1
      by (inl twin) has = apart_names ps name apart twin has

  -- a call that was the host's alone
  pub follows_alone : (r : Result T E) (old new : H) → EntersAlone ps name was is before after → CountsFault r (faults old) (faults new) → Follows faults r ps name was is old new
  follows_alone r old new enters counts = record { blame = blamed r counts; behind = kept r; refuses = no_refusal ps name was enters.no_twin (λ has behind. has_none has) }
    where
      has_none : HasTwin ps name → ⊥
      has_none (inl main) = enters.has_none.not_main main
      has_none (inr delta) = enters.has_none.not_delta delta

      blamed : (r : Result T E) → CountsFault r (faults old) (faults new) → OnErr r (was ≡ false → IsNoTwin ps name → Rose (faults old) (faults new))
      blamed (Ok x) counts = tt
      blamed (Err e) counts = λ kept_up no_twin. counts

      kept : (r : Result T E) → MatchResult r (λ _. is ≡ was) (λ _. HasTwin ps name → is ≡ true)
      kept (Ok x) = enters.same
      kept (Err e) = λ has. absurd (has_none has)

  -- a call of which both parts are done, and the twin isn't behind again
  pub follows_both : (copy : List ℕ) (x : T) (old new : H) → EntersBoth ps name copy was is before after → Follows {E = E} faults (Ok x) ps name was false old new
  follows_both copy x old new enters = record {
    blame = tt;
    behind = sym enters.kept_up;
    refuses = no_refusal ps name was enters.no_twin (λ has behind. false≢true (sym enters.kept_up ∙ behind));
  }

  -- one of which the host failed in one part
  pub follows_failed : (copy : List ℕ) (e : E) (old mid new : H) → EntersBoth ps name copy was is before after → faults mid ≡ faults old → Rose (faults mid) (faults new) → Follows {T = T} faults (Err e) ps name was is old new
  follows_failed copy e old mid new enters same rose = record {
    blame = λ kept_up no_twin. subst (λ (f : FaultCount). Rose f (faults new)) same rose;
    behind = λ has. enters.until;
    refuses = no_refusal ps name was enters.no_twin (λ has behind. false≢true (sym enters.kept_up ∙ behind));
  }

-- a call that changes nothing: refused, or the host's
module _ {H T E : Type 0} (faults : H → FaultCount) (ps : Pairs) (name : List ℕ) where
  pub asks_refused : (e : E) (h : H) → IsTwinName ps name → Asks {T = T} faults (Err e) ps name h h
  asks_refused e h (inl main) = record { blame = λ no_twin. absurd (no_twin.not_main main); refuses = λ why. (refl, refl) }
  asks_refused e h (inr delta) = record { blame = λ no_twin. absurd (no_twin.not_delta delta); refuses = λ why. (refl, refl) }

  pub asks_passed : (r : Result T E) (old new : H) → IsNoTwin ps name → CountsFault r (faults old) (faults new) → Asks faults r ps name old new
  asks_passed r old new no_twin counts = record { blame = by r counts; refuses = none }
    where
      by : (r : Result T E) → CountsFault r (faults old) (faults new) → OnErr r (IsNoTwin ps name → Rose (faults old) (faults new))
      by (Ok x) counts = tt
      by (Err e) counts = λ no_twin. counts

      none : IsTwinName ps name → IsErr r × (new ≡ old)
      none (inl main) = absurd (no_twin.not_main main)
      none (inr delta) = absurd (no_twin.not_delta delta)
