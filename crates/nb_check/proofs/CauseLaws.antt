-- What a check and a reclaim do of their turns, by their causes.
use Rattle.std.proofs.Common.{◌≡◌, [], ◌∷◌, length, ap, ◌∙◌, Some, None}
use Rattle.nb_check.proofs.Common.{Refusal, Leaked, Freed, Refused, Cause, first_cause, read_only, Image, Seen, Outcome, says, unless, chains, unsound, leaked, unsound_by, chains_cause, check_cause, reclaim_cause, reclaimed, check_turn, reclaim_turn}
use Rattle.nb_model.proofs.WholeLaws.{two_none}
use Rattle.nb_state.proofs.TestLaws.{first_applies}

two_second : (c d : Cause) → c ≡ None → (r : Refusal) → d ≡ Some r → first_cause (c ∷ d ∷ []) ≡ Some r
unfolding first_cause
two_second c d none r e = ap (λ (x : Cause). first_cause (x ∷ d ∷ [])) none ∙ ap (λ (x : Cause). first_cause (x ∷ [])) e

pub unsound_fails : (image : Image) (r : Refusal) → unsound_by (unsound image) ≡ Some r → check_cause image ≡ Some r
unsound_fails image r e = first_applies (unsound_by (unsound image)) (chains_cause image (chains image)) r e

pub chain_fails : (image : Image) → unsound_by (unsound image) ≡ None → (r : Refusal) → chains_cause image (chains image) ≡ Some r → check_cause image ≡ Some r
chain_fails image none r e = two_second (unsound_by (unsound image)) (chains_cause image (chains image)) none r e

pub check_free : (image : Image) → unsound_by (unsound image) ≡ None → chains_cause image (chains image) ≡ None → check_cause image ≡ None
check_free image none formed = two_none (unsound_by (unsound image)) (chains_cause image (chains image)) none formed

pub closed_fails : (image : Image) (r : Refusal) → read_only image ≡ Some r → reclaim_cause image ≡ Some r
closed_fails image r e = first_applies (read_only image) (check_cause image) r e

pub check_fails : (image : Image) → read_only image ≡ None → (r : Refusal) → check_cause image ≡ Some r → reclaim_cause image ≡ Some r
check_fails image none r e = two_second (read_only image) (check_cause image) none r e

pub reclaim_free : (image : Image) → read_only image ≡ None → check_cause image ≡ None → reclaim_cause image ≡ None
reclaim_free image open_to checked = two_none (read_only image) (check_cause image) open_to checked

abbrev by_cause : (s : Seen) → Outcome → Cause → Outcome
by_cause s o c = unless s c o

guarded : (s : Seen) (o : Outcome) (c : Cause) (r : Refusal) → c ≡ Some r → unless s c o ≡ says s (Refused r) []
unfolding unless
guarded s o c r e = ap (by_cause s o) e

free : (s : Seen) (o : Outcome) (c : Cause) → c ≡ None → unless s c o ≡ o
unfolding unless
free s o c e = ap (by_cause s o) e

module _ (s : Seen) where
  pub check_refused : (r : Refusal) → check_cause s.base.image ≡ Some r → check_turn s ≡ says s (Refused r) []
  unfolding check_turn
  check_refused r e = guarded s _ (check_cause s.base.image) r e

  pub check_says : check_cause s.base.image ≡ None → check_turn s ≡ says s (Leaked (leaked s.base.image)) []
  unfolding check_turn
  check_says e = free s _ (check_cause s.base.image) e

  pub reclaim_refused : (r : Refusal) → reclaim_cause s.base.image ≡ Some r → reclaim_turn s ≡ says s (Refused r) []
  unfolding reclaim_turn
  reclaim_refused r e = guarded s _ (reclaim_cause s.base.image) r e

  pub reclaim_says : reclaim_cause s.base.image ≡ None → reclaim_turn s ≡ says s (Freed (length (leaked s.base.image))) (reclaimed s.base.image).strokes
  unfolding reclaim_turn
  reclaim_says e = free s _ (reclaim_cause s.base.image) e
