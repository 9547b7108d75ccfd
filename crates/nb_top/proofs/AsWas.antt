-- Files of which those under some names are as they were.
use Rattle.std.proofs.Common.{◌≡◌, ◌≢◌, inl, inr, ℕ, List, [], ◌∷◌, refl, sym, ap, subst, ◌∙◌}
use Rattle.nb_top.proofs.Common.{File, Files, with_file, decide, with_file-same, with_file-other}

-- the name is none of these
abbrev pub IsOff : List (List ℕ) → List ℕ → Type 0
IsOff [] m = Unit {0}
IsOff (n ∷ ns) m = (m ≢ n) × IsOff ns m

module _ (was : Files) where
  abbrev pub as_was : List (List ℕ) → Files → Files
  as_was [] files = files
  as_was (n ∷ ns) files = with_file (as_was ns files) n (was n)

  -- what holds of one as it was, and of one that is off them, holds of each
  pub was_has : (P : File → Type 0) (ns : List (List ℕ)) (files : Files) (m : List ℕ) → P (was m) → (IsOff ns m → P (files m)) → P (as_was ns files m)
  was_has P [] files m before off = off tt
  was_has P (n ∷ ns) files m before off = elim (decide m n) [
    | inl same ↦ subst P (ap was same ∙ sym (ap (as_was (n ∷ ns) files) same ∙ with_file-same (as_was ns files) n (was n))) before
    | inr other ↦ subst P (sym (with_file-other (as_was ns files) n (was n) m other)) (was_has P ns files m before (λ rest. off (other, rest)))
  ]

  pub was_off : (ns : List (List ℕ)) (files : Files) (m : List ℕ) → IsOff ns m → as_was ns files m ≡ files m
  was_off [] files m off = refl
  was_off (n ∷ ns) files m off = with_file-other (as_was ns files) n (was n) m off.0 ∙ was_off ns files m off.1
