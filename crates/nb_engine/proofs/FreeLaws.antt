-- Giving a page back, by the causes of its turn.
use Rattle.std.proofs.Common.{◌≡◌, ℕ, List, [], ◌∷◌, refl, sym, ap, ◌∙◌, true, false, Some, None}
use Rattle.nb_engine.proofs.Common.{inventory_kind, Refusal, Access, Refused, Done, Image, is_read_only, Draft, drafted, give_page, inventory_of, Cause, first_cause, read_only, not_kind, not_raw, not_of_form, no_room, Seen, says, unless, free_turn, mark_cause, mark_strokes, refused_by, judged_by, mark_form, mark_room, applies, first_here, first_next, no_cause, when_false}
use Rattle.nb_engine.proofs.WriteLaws.{is_raw}

-- the turn, by its causes
module _ (s : Seen) (p : ℕ) where
  abbrev image : Image
  image = s.base.image

  abbrev draft : Draft
  draft = give_page p (drafted image)

  abbrev causes : List Cause
  causes = not_raw image p ∷ read_only image ∷ []

  pub free_untaken : (r : Refusal) → not_raw image p ≡ Some r → free_turn s p ≡ says s (Refused r) []
  unfolding free_turn
  free_untaken r e = refused_by s causes draft Done r (first_here (not_raw image p) (read_only image ∷ []) r e)

  module _ (raw : not_raw image p ≡ None) where
    pub free_closed : (r : Refusal) → read_only image ≡ Some r → free_turn s p ≡ says s (Refused r) []
    unfolding free_turn
    free_closed r e = refused_by s causes draft Done r (first_next (not_raw image p) (read_only image ∷ []) raw ∙ first_here (read_only image) [] r e)

    form : not_kind image inventory_kind (inventory_of image p) ≡ None
    form = (is_raw image p raw).form

    -- what marking the page finds is all that may still refuse it
    found : first_cause (not_of_form draft ∷ no_room draft ∷ []) ≡ mark_cause image p
    found = by (mark_cause image p) refl
      where
        by : (c : Cause) → mark_cause image p ≡ c → first_cause (not_of_form draft ∷ no_room draft ∷ []) ≡ mark_cause image p
        by None e = first_next (not_of_form draft) _ (mark_form s.base p form 1 ∙ e) ∙ first_next (no_room draft) [] (mark_room s.base p form 1 e) ∙ no_cause ∙ sym e
        by (Some r) e = first_here (not_of_form draft) _ r (mark_form s.base p form 1 ∙ e) ∙ sym e

    pub free_is : read_only image ≡ None → free_turn s p ≡ unless s (mark_cause image p) (says s Done (mark_strokes image p 1))
    unfolding free_turn
    free_is free =
        judged_by s causes draft Done (first_next (not_raw image p) (read_only image ∷ []) raw ∙ first_next (read_only image) [] free ∙ no_cause)
        ∙ ap (λ (c : Cause). unless s c (says s Done draft.strokes)) found

-- whether the database may be changed, by its flag
pub closed_cause : (image : Image) → is_read_only image ≡ true → read_only image ≡ Some (Access 1)
closed_cause image closed = applies (is_read_only image) (Access 1) closed

pub open_cause : (image : Image) → is_read_only image ≡ false → read_only image ≡ None
open_cause image open_ = when_false (is_read_only image) (Access 1) open_
