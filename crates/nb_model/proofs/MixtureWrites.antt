-- A page write and mixtures: whether it is kept or lost, what is left is a mixture with the database after it.
use Rattle.std.proofs.Common.{◌≡◌, ◌≢◌, inl, inr, ℕ, ◌+◌, ◌<◌, ◌≤◌, List, [], ◌∷◌, ◌++◌, length, sym, ap, subst, ◌∙◌, arith, max}
use Rattle.nb_model.proofs.Common.{eqb_tells, Contains-append_left, Page, Image, page_at, with_page, Base, HasPage, IsMixture, Contains-push}
use Rattle.nb_model.proofs.SoundLaws.{with_page_length}
use Rattle.nb_model.proofs.StrokeLaws.{with_page_same, with_page_other}

one_more : (bases : List Base) (new : Base) (p : ℕ) (bytes : Page) → HasPage bases p bytes → HasPage (bases ++ new ∷ []) p bytes
one_more bases new p bytes has = record { base = has.base; there = Contains-append_left bases (new ∷ []) has.base has.there; below = has.below; same = has.same }

-- `new` is behind a write of page p.
module _ (bases : List Base) (now image : Image) (mixed : IsMixture bases now image) (p : ℕ) (bytes : Page) (low : p ≤ length now) (new : Base) (is : new.image ≡ with_page p bytes now) where
  low_mixed : p ≤ length image
  low_mixed = omega (arith, low, mixed.long)

  long : length new.image ≡ max (length now) (p + 1)
  long = ap length is ∙ with_page_length p bytes now low

  new_same : page_at new.image p ≡ bytes
  new_same = ap (λ (x : Image). page_at x p) is ∙ with_page_same p bytes now low

  new_other : (q : ℕ) → q ≢ p → page_at new.image q ≡ page_at now q
  new_other q ne = ap (λ (x : Image). page_at x q) is ∙ with_page_other p q bytes now low ne

  -- The write is kept,
  pub mixture_put : IsMixture (bases ++ new ∷ []) new.image (with_page p bytes image)
  mixture_put = record {
    long = with_page_length p bytes image low_mixed ∙ ap (λ (n : ℕ). max n (p + 1)) mixed.long ∙ sym long;
    first = elim (eqb_tells 0 p) [
      | inl w ↦ ap (page_at (with_page p bytes image)) w.1 ∙ with_page_same p bytes image low_mixed ∙ sym new_same ∙ sym (ap (page_at new.image) w.1)
      | inr w ↦ with_page_other p 0 bytes image low_mixed w.1 ∙ mixed.first ∙ sym (new_other 0 w.1)
    ];
    each = λ q inside. elim (eqb_tells q p) [
      | inl w ↦ record {
        base = new;
        there = Contains-push bases new;
        below = omega (arith, w.1, long);
        same = ap (page_at (with_page p bytes image)) w.1 ∙ with_page_same p bytes image low_mixed ∙ sym new_same ∙ sym (ap (page_at new.image) w.1);
      }
      | inr w ↦
          subst (HasPage (bases ++ new ∷ []) q) (sym (with_page_other p q bytes image low_mixed w.1))
          (one_more bases new q (page_at image q) (mixed.each q (omega (arith, inside, w.1, low_mixed, with_page_length p bytes image low_mixed))))
    ];
  }

  -- or lost, where it makes the database no longer and isn't of page 0.
  pub mixture_lost : p < length now → p ≢ 0 → IsMixture (bases ++ new ∷ []) new.image image
  mixture_lost below some = record {
    long = omega (arith, mixed.long, long, below);
    first = mixed.first ∙ sym (new_other 0 (λ (e : 0 ≡ p). some (sym e)));
    each = λ q inside. one_more bases new q (page_at image q) (mixed.each q inside);
  }
