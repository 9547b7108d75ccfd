-- A merge that was stopped is finished by the same file again, and refused of every other.
use Rattle.std.proofs.Common.{◌≡◌, ◌≢◌, ◌⊎◌, inl, inr, ℕ, List, [], ◌∷◌, refl, sym, ap, ◌∙◌, arith, Bool, true, false, not, ◌||◌, ◌==◌, Some, None, Ok, Err}
use Rattle.nb_inplace.proofs.Common.{eq-eqb, or_from, size_of, guid_of, pending_of, Files, same_name, Refusal, Unfinished, ChainSize, Cause, first_cause, when, is_another, not_finishing, not_mergeable, not_standby, in_place, Contents, read_level, IsFileIn, IsMergeable, IsHalf, same_other, same_self}
use Rattle.nb_cases.specs.declared.events.Event.TheVariants.{Apply}
use Rattle.nb_cases.proofs.EventLaws.{the_cases}
use Rattle.nb_inplace.proofs.VerdictLaws.{IsAccepted, accepted, answered, verdict_by}
use Rattle.nb_inplace.proofs.HalfLaws.{half_state, half_pending, half_previous, half_size}

same_texts : (a b : List ℕ) → a ≡ b → same_name a b ≡ true
same_texts a b e = ap (same_name a) (sym e) ∙ same_self a

-- what is asked of a standby in the applying state
abbrev cause_of : (another sized : Bool) → Refusal → Cause
cause_of another sized r = first_cause (when another Unfinished ∷ when (not sized) r ∷ [])

no_cause : (r : Refusal) → cause_of false true r ≡ None
unfolding first_cause
no_cause r = refl

unfinished : (sized : Bool) (r : Refusal) → cause_of true sized r ≡ Some Unfinished
unfolding first_cause
unfinished sized r = refl

module _ (standby bytes : List ℕ) (is : IsFileIn 3 bytes) (files : Files) (name level : List ℕ) (c : Contents) (here : files standby ≡ Some bytes) (there : files name ≡ Some level) (read : read_level level ≡ Ok c) where
  stands : (not_standby standby (Some bytes) ≡ None) × (not_mergeable bytes name c ≡ not_finishing name bytes c)
  stands = the_cases 3 Apply (omega arith) standby name bytes c is

  abbrev other_size : Refusal
  other_size = ChainSize name c.head.size (size_of bytes)

  asked : in_place files standby name ≡ answered c (cause_of (is_another bytes c) (c.head.size == size_of bytes) other_size)
  unfolding not_finishing
  asked = verdict_by files standby name bytes level c here stands.0 there read ∙ ap (answered c) stands.1

  -- it is gone on with by the file of its two GUIDs
  pub goes_on : pending_of bytes ≡ c.head.guid → guid_of bytes ≡ c.head.previous → c.head.size ≡ size_of bytes → in_place files standby name ≡ Ok c
  goes_on pending previous size =
      asked ∙ ap (λ (t : Bool). answered c (cause_of t (c.head.size == size_of bytes) other_size)) (or_from _ _ (ap not (same_texts (pending_of bytes) c.head.guid pending)) (ap not (same_texts (guid_of bytes) c.head.previous previous)))
      ∙ ap (λ (t : Bool). answered c (cause_of false t other_size)) (eq-eqb c.head.size (size_of bytes) size) ∙ ap (answered c) (no_cause other_size)

  -- and by no other
  pub refuses : (pending_of bytes ≢ c.head.guid) ⊎ (guid_of bytes ≢ c.head.previous) → in_place files standby name ≡ Err Unfinished
  refuses other =
      asked ∙ ap (λ (t : Bool). answered c (cause_of t (c.head.size == size_of bytes) other_size)) (another other) ∙ ap (answered c) (unfinished (c.head.size == size_of bytes) other_size)
    where
      second : (a b : Bool) → b ≡ false → (not a || not b) ≡ true
      second true b e = ap not e
      second false b e = refl

      another : (pending_of bytes ≢ c.head.guid) ⊎ (guid_of bytes ≢ c.head.previous) → is_another bytes c ≡ true
      another (inl pending) = ap (λ (t : Bool). not t || not (same_name (guid_of bytes) c.head.previous)) (same_other (pending_of bytes) c.head.guid pending)
      another (inr previous) = second (same_name (pending_of bytes) c.head.guid) (same_name (guid_of bytes) c.head.previous) (same_other (guid_of bytes) c.head.previous previous)

-- What a half of a mergeable standby is answered.
module _ (old files : Files) (standby name bytes half : List ℕ) (c : Contents) (m : IsMergeable old standby name bytes c) (h : IsHalf bytes c half) (here : files standby ≡ Some half) where
  its : IsAccepted old name bytes c
  its = accepted old standby name bytes c m

  applying : IsFileIn 3 half
  applying = (h.formed, half_state old standby name bytes c m half h)

  -- the same file is accepted
  pub half_goes_on : files name ≡ old name → IsMergeable files standby name half c
  half_goes_on same = record {
    there = here;
    accepted = goes_on standby half applying files name its.level c here (same ∙ its.there) its.read (half_pending old standby name bytes c m half h) (half_previous old standby name bytes c m half h) (its.size ∙ sym (half_size old standby name bytes c m half h));
  }

  -- and one of another GUID, or that goes on from another, is refused
  pub half_refuses : (other level : List ℕ) (d : Contents) → files other ≡ Some level → read_level level ≡ Ok d → (d.head.guid ≢ c.head.guid) ⊎ (d.head.previous ≢ c.head.previous) → in_place files standby other ≡ Err Unfinished
  half_refuses other level d there read apart =
      refuses standby half applying files other level d here there read (elim apart [
        | inl guid ↦ inl (λ e. guid (sym e ∙ half_pending old standby name bytes c m half h))
        | inr previous ↦ inr (λ e. previous (sym e ∙ half_previous old standby name bytes c m half h))
      ])
