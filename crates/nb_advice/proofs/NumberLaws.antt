-- Numbers after numbers.
use Rattle.std.proofs.Common.{◌≡◌, ℕ, ◌+◌, List, ◌∷◌, ◌++◌, drop, flat_map, ap, sym, ◌∙◌, append_assoc}
use Rattle.nb_advice.specs.Dangers.{numbers, spaced}

-- one more
pub one_more : (text pages : List ℕ) (i page : ℕ) → drop i pages ≡ page ∷ drop (i + 1) pages → (text ++ spaced page) ++ numbers (drop (i + 1) pages) ≡ text ++ numbers (drop i pages)
one_more text pages i page is = append_assoc text (spaced page) (numbers (drop (i + 1) pages)) ∙ ap (λ (xs : List ℕ). text ++ numbers xs) (sym is)
