-- The files of certain names, taken alone.
use Rattle.std.proofs.Common.{true≢false, ◌≡◌, ◌≢◌, inl, inr, ℕ, zero, suc, List, [], ◌∷◌, true, false, refl, sym, ap, subst, ◌∙◌, arith, Bool, ◌||◌, Some, None, Contains}
use Rattle.std.specs.List.{list_any}
use Rattle.nb_host.specs.Names.{same_name}
use Rattle.nb_top.proofs.Common.{File, Files, decide, none_some}
use Rattle.nb_host.proofs.NameLaws.{same_self, same_other}
use Rattle.nb_top.specs.Among.{is_among, among}

-- one more name
among_first : (m : List ℕ) (names : List (List ℕ)) → is_among (m ∷ names) m ≡ true
among_first m names = ap (λ (t : Bool). t || list_any (same_name m) names) (same_self m)

among_next : (n m : List ℕ) (names : List (List ℕ)) → is_among names m ≡ true → is_among (n ∷ names) m ≡ true
among_next n m names is = by (same_name m n) is
  where
    by : (t : Bool) → list_any (same_name m) names ≡ true → (t || list_any (same_name m) names) ≡ true
    by true h = refl
    by false h = h

-- another name is one where it is one of the rest
pub among_skip : (m n : List ℕ) (names : List (List ℕ)) → m ≢ n → is_among (n ∷ names) m ≡ is_among names m
among_skip m n names off = ap (λ (t : Bool). t || list_any (same_name m) names) (same_other m n off)

-- each of the names is one
pub is_there : (names : List (List ℕ)) (m : List ℕ) → Contains names m → is_among names m ≡ true
is_there [] m (k, low, is) = absurd (omega (arith, low))
is_there (n ∷ names) m (zero, low, is) = subst (λ (x : List ℕ). is_among (n ∷ names) x ≡ true) is (among_first n names)
is_there (n ∷ names) m (suc k, low, is) = among_next n m names (is_there names m (k, omega (arith, low), is))

-- and there is no other
pub there_is : (names : List (List ℕ)) (m : List ℕ) → is_among names m ≡ true → Contains names m
there_is [] m is = absurd (true≢false (sym is))
there_is (n ∷ names) m is = elim (decide m n) [
  | inl same ↦ (0, omega arith, sym same)
  | inr off ↦ let rest = there_is names m (sym (ap (λ (t : Bool). t || list_any (same_name m) names) (same_other m n off)) ∙ is) in (suc rest.0, omega (arith, rest.1), rest.2)
]

module _ (names : List (List ℕ)) (files : Files) where
  -- the file of one of them is there
  pub among_own : (m : List ℕ) → is_among names m ≡ true → among names files m ≡ files m
  among_own m is = ap (λ (t : Bool). elim t as (λ z. File) [ true ↦ files m | false ↦ None ]) is

  -- and no other
  pub among_off : (m : List ℕ) → is_among names m ≡ false → among names files m ≡ None
  among_off m is = ap (λ (t : Bool). elim t as (λ z. File) [ true ↦ files m | false ↦ None ]) is

  -- what is there is the file of one of them
  pub record IsThere (m bytes : List ℕ) : Type 0 where
    pub named : is_among names m ≡ true
    pub there : files m ≡ Some bytes

  pub among_there : (m bytes : List ℕ) → among names files m ≡ Some bytes → IsThere m bytes
  among_there m bytes is = by (is_among names m) refl
    where
      by : (t : Bool) → is_among names m ≡ t → IsThere m bytes
      by true in_it = record { named = in_it; there = sym (among_own m in_it) ∙ is }
      by false off = absurd (none_some bytes (sym (among_off m off) ∙ is))
