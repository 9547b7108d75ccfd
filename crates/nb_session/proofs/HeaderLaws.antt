-- What is shown of the header of an open database.
use Rattle.std.proofs.Common.{◌≡◌, ℕ, List, length, refl, sym, ap, ◌∙◌, Bool, Ok, Some, true, false, ◌==◌}
use Rattle.nb_session.proofs.Common.{normal_state, World, Reply, HeaderShown, Base, image_size, image_state, image_scn, image_guid, is_forced, is_read_only, flag, Seen, delta_count, header_turn, Trail, Quiet, Agrees, Held, AgreesWith, IsOpen, Does, makes_none, header_of}

pub header_does : (w : World) (held : Held) (t : Trail) (s : Seen) (reply : Reply) → t.base ≡ s.base → Quiet w w → IsOpen w held t → reply ≡ header_of t.base → Does (λ r. r) (Ok reply) w w held held t (header_turn s)
unfolding header_turn
header_does w held t s reply base quiet is shown = record {
  answer = ap Some (sym (shown ∙ ap header_of base));
  makes = makes_none (Ok reply) w w held held t refl quiet is is;
  idle = λ told. quiet;
}

-- in the normal state no entry counts
pub delta_none : (b : Base) → image_state b.image ≡ normal_state → delta_count b ≡ 0
unfolding delta_count
delta_none b normal = ap (λ (n : ℕ). elim (n == 0) as (λ z. ℕ) [ true ↦ 0 | false ↦ length b.diverted ]) normal

pub delta_some : (b : Base) → (image_state b.image == normal_state) ≡ false → delta_count b ≡ length b.diverted
unfolding delta_count
delta_some b other = ap (λ (t : Bool). elim t as (λ z. ℕ) [ true ↦ 0 | false ↦ length b.diverted ]) other

-- what is shown of all that is held
pub shown : (held : Held) (b : Base) (size pages state scn : ℕ) (guid : List ℕ) (forced : Bool) (access delta : ℕ) → Agrees held.files b → AgreesWith held b
    → size ≡ held.files.page_size → pages ≡ held.files.count → state ≡ held.files.state → scn ≡ held.scn → guid ≡ held.guid → forced ≡ held.files.forced → access ≡ flag held.read_only → delta ≡ delta_count b
    → HeaderShown size pages state scn guid forced access delta ≡ header_of b
shown held b size pages state scn guid forced access delta files agrees a p s n g f c d =
    ap (λ (x : ℕ). HeaderShown x pages state scn guid forced access delta) (a ∙ files.page_size)
    ∙ ap (λ (x : ℕ). HeaderShown (image_size b.image) x state scn guid forced access delta) (p ∙ files.count)
    ∙ ap (λ (x : ℕ). HeaderShown (image_size b.image) (length b.image) x scn guid forced access delta) (s ∙ files.state)
    ∙ ap (λ (x : ℕ). HeaderShown (image_size b.image) (length b.image) (image_state b.image) x guid forced access delta) (n ∙ agrees.scn)
    ∙ ap (λ (x : List ℕ). HeaderShown (image_size b.image) (length b.image) (image_state b.image) (image_scn b.image) x forced access delta) (g ∙ agrees.guid)
    ∙ ap (λ (x : Bool). HeaderShown (image_size b.image) (length b.image) (image_state b.image) (image_scn b.image) (image_guid b.image) x access delta) (f ∙ files.forced)
    ∙ ap (λ (x : ℕ). HeaderShown (image_size b.image) (length b.image) (image_state b.image) (image_scn b.image) (image_guid b.image) (is_forced b.image) x delta) (c ∙ ap flag agrees.read_only)
    ∙ ap (λ (x : ℕ). HeaderShown (image_size b.image) (length b.image) (image_state b.image) (image_scn b.image) (image_guid b.image) (is_forced b.image) (flag (is_read_only b.image)) x) d
