-- What is shown is what the turns say.
use Rattle.std.proofs.Common.{◌≡◌, ℕ, List, [], length, sym, ap, subst, ◌∙◌, Some, None, Result}
use Rattle.nb_shown.proofs.Common.{inventory_place, inventory_kind, Refusal, all_needed, pages_turn, taken_of, Cause, not_kind, not_of_form, Image, image_turn, PageCounts, counts_below, bytes_of_image, image_shown, pages_shown}
use Rattle.sha2.specs.Sha256.{sha256}
use Rattle.nb_host.specs.declared.faults.Fault.{Fault}
use Rattle.nb_model.specs.declared.reply.Reply.TheVariants.{Refused}
use Rattle.nb_model.specs.Outcomes.{Seen, says}
use Rattle.nb_model.specs.Causes.{Tested}
use Rattle.nb_alloc.proofs.CauseLaws.{unless_refused, unless_allowed}

-- the same test, by the page size
pub tested_at : {T : Type 0} (result : Result T Fault) (image : Image) (n m k : ℕ) → n ≡ m → Tested result (not_kind image inventory_kind (inventory_place n k)) → Tested result (not_kind image inventory_kind (inventory_place m k))
tested_at result image n m k same tested = subst (λ (size : ℕ). Tested result (not_kind image inventory_kind (inventory_place size k))) same tested

-- the pages
pub pages_refused : (s : Seen) (r : Refusal) → not_of_form (all_needed s.base.image) ≡ Some r → pages_turn s ≡ says s (Refused r) []
unfolding pages_turn
pages_refused s r e = unless_refused s _ _ r e

pub pages_says : (s : Seen) (counts : PageCounts) → not_of_form (all_needed s.base.image) ≡ None → counts ≡ counts_below s.base.image (length s.base.image) → pages_turn s ≡ says s (pages_shown counts) []
unfolding pages_turn taken_of
pages_says s counts none is = unless_allowed s _ _ none ∙ ap (λ (c : PageCounts). says s (pages_shown c) []) (sym is)

-- the image
pub image_says : (s : Seen) (count : ℕ) (digest : List ℕ) → count ≡ length s.base.image → digest ≡ sha256 (bytes_of_image s.base.image) → image_turn s ≡ says s (image_shown count digest) []
unfolding image_turn
image_says s count digest counted is =
    ap (λ (n : ℕ). says s (image_shown n (sha256 (bytes_of_image s.base.image))) []) (sym counted) ∙ ap (λ (d : List ℕ). says s (image_shown count d) []) (sym is)

pub never_refused : (s : Seen) (r : Refusal) → ◌≡◌ {A = Cause} None (Some r) → image_turn s ≡ says s (Refused r) []
never_refused s r e = cc
