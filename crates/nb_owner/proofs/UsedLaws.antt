-- The pages in memory, as one is used or dropped.
use Rattle.std.proofs.Common.{◌≡◌, ℕ, zero, suc, ◌-◌, true, false, nat_eq, List, [], ◌∷◌, take, Option, Some, None, refl, sym, ap, subst, ◌∙◌}
use Rattle.nb_owner.proofs.Common.{AllByRecursion, IsDistinct, option_map, option_map_or, keys_of, lookup, lookup_entry, remove_entry, eqb-true, IsDistinct-head, IsDistinct-tail, IsDistinct-cons, lru_cache, promoted, put_entries, Contains-lookup_entry, lookup-lookup_entry}

module _ {V : Type 0} (p : ℕ) where
  abbrev Other : ℕ × V → Type 0
  Other e = nat_eq p e.0 ≡ false

  -- what holds of all pages holds of those that are left
  module _ (P Q : ℕ × V → Type 0) (goes : (e : ℕ × V) → Other e → P e → Q e) where
    others : (es : List (ℕ × V)) → AllByRecursion Other es → AllByRecursion P es → AllByRecursion Q es
    others [] apart all = tt
    others (e ∷ es) apart all = (goes e apart.0 all.0, others es apart.1 all.1)

  All-removed : (P : ℕ × V → Type 0) (es : List (ℕ × V)) → AllByRecursion P es → AllByRecursion P (remove_entry (nat_eq p) es)
  All-removed P [] all = tt
  All-removed P (e ∷ es) all = (elim (nat_eq p e.0) as (λ b. nat_eq p e.0 ≡ b → AllByRecursion P (remove_entry (nat_eq p) (e ∷ es))) [
    | true ↦ λ is. rw is all.1
    | false ↦ λ is. rw is (all.0, All-removed P es all.1)
  ]) refl

  All-front : (P : ℕ × V → Type 0) (n : ℕ) (es : List (ℕ × V)) → AllByRecursion P es → AllByRecursion P (take n es)
  All-front P zero es all = tt
  All-front P (suc n) [] all = tt
  All-front P (suc n) (e ∷ es) all = (all.0, All-front P n es all.1)

-- a fact of all keys is one of all pages
from_keys : {V : Type 0} (P : ℕ → Type 0) (es : List (ℕ × V)) → AllByRecursion P (keys_of es) → AllByRecursion (λ e. P e.0) es
from_keys P [] all = tt
from_keys P (e ∷ es) all = (all.0, from_keys P es all.1)

to_keys : {V : Type 0} (P : ℕ → Type 0) (es : List (ℕ × V)) → AllByRecursion (λ e. P e.0) es → AllByRecursion P (keys_of es)
to_keys P [] all = tt
to_keys P (e ∷ es) all = (all.0, to_keys P es all.1)

module _ {V : Type 0} (p : ℕ) where
  -- no page is there twice, so after a removal it is there no more
  none_left : (es : List (ℕ × V)) → IsDistinct nat_eq (keys_of es) → AllByRecursion (Other p) (remove_entry (nat_eq p) es)
  none_left [] once = tt
  none_left (e ∷ es) once = (elim (nat_eq p e.0) as (λ b. nat_eq p e.0 ≡ b → AllByRecursion (Other p) (remove_entry (nat_eq p) (e ∷ es))) [
    | true ↦ λ is. rw is (subst (λ (k : ℕ). AllByRecursion (λ (f : ℕ × V). nat_eq k f.0 ≡ false) es) (sym (eqb-true p e.0 is)) (from_keys (λ k. nat_eq e.0 k ≡ false) es (IsDistinct-head nat_eq e.0 (keys_of es) once)))
    | false ↦ λ is. rw is (is, none_left es (IsDistinct-tail nat_eq e.0 (keys_of es) once))
  ]) refl

  pub once_removed : (es : List (ℕ × V)) → IsDistinct nat_eq (keys_of es) → IsDistinct nat_eq (keys_of (remove_entry (nat_eq p) es))
  once_removed [] once = once
  once_removed (e ∷ es) once = (elim (nat_eq p e.0) as (λ b. nat_eq p e.0 ≡ b → IsDistinct nat_eq (keys_of (remove_entry (nat_eq p) (e ∷ es)))) [
    | true ↦ λ is. rw is (IsDistinct-tail nat_eq e.0 (keys_of es) once)
    | false ↦ λ is. rw is (IsDistinct-cons nat_eq e.0 (keys_of (remove_entry (nat_eq p) es))
        (to_keys (λ k. nat_eq e.0 k ≡ false) (remove_entry (nat_eq p) es) (All-removed p (λ f. nat_eq e.0 f.0 ≡ false) es (from_keys (λ k. nat_eq e.0 k ≡ false) es (IsDistinct-head nat_eq e.0 (keys_of es) once))))
        (once_removed es (IsDistinct-tail nat_eq e.0 (keys_of es) once)))
  ]) refl

  none_there : (es : List (ℕ × V)) → lookup_entry (nat_eq p) es ≡ None → AllByRecursion (Other p) es
  none_there [] none = tt
  none_there (e ∷ es) none = (elim (nat_eq p e.0) as (λ b. nat_eq p e.0 ≡ b → AllByRecursion (Other p) (e ∷ es)) [
    | true ↦ λ is. let h = rw is at none in cc
    | false ↦ λ is. (is, none_there es (rw is at none))
  ]) refl

  once_front : (n : ℕ) (es : List (ℕ × V)) → IsDistinct nat_eq (keys_of es) → IsDistinct nat_eq (keys_of (take n es))
  unfolding IsDistinct
  once_front zero es once = tt
  once_front (suc n) [] once = once
  once_front (suc n) (e ∷ es) once = IsDistinct-cons nat_eq e.0 (keys_of (take n es))
      (to_keys (λ k. nat_eq e.0 k ≡ false) (take n es) (All-front p (λ f. nat_eq e.0 f.0 ≡ false) n es (from_keys (λ k. nat_eq e.0 k ≡ false) es (IsDistinct-head nat_eq e.0 (keys_of es) once))))
      (once_front n es (IsDistinct-tail nat_eq e.0 (keys_of es) once))

-- A page that is dropped.
module _ {V : Type 0} (p : ℕ) (es : List (ℕ × V)) (once : IsDistinct nat_eq (keys_of es)) where
  pub All-dropped : (P Q : ℕ × V → Type 0) → ((e : ℕ × V) → nat_eq p e.0 ≡ false → P e → Q e) → AllByRecursion P es → AllByRecursion Q (remove_entry (nat_eq p) es)
  All-dropped P Q goes all = others p P Q goes (remove_entry (nat_eq p) es) (none_left p es once) (All-removed p P es all)

  -- A page that is put in first.
  module _ (cap : ℕ) (v : V) where
    abbrev after : Option (ℕ × V) → List (ℕ × V)
    after o = option_map_or (λ e. (e.0, v) ∷ remove_entry (nat_eq p) es) o ((p, v) ∷ take (cap - 1) es)

    pub All-put : (P Q : ℕ × V → Type 0) → ((e : ℕ × V) → nat_eq p e.0 ≡ false → P e → Q e) → Q (p, v) → AllByRecursion P es → AllByRecursion Q (put_entries nat_eq (lru_cache es cap) p v)
    All-put P Q goes own all = by (lookup_entry (nat_eq p) es) refl
      where
        by : (o : Option (ℕ × V)) → lookup_entry (nat_eq p) es ≡ o → AllByRecursion Q (after o)
        by None none = (own, others p P Q goes (take (cap - 1) es) (All-front p (Other p) (cap - 1) es (none_there p es none)) (All-front p P (cap - 1) es all))
        by (Some e) found = (subst (λ (k : ℕ). Q (k, v)) (eqb-true p e.0 (Contains-lookup_entry (nat_eq p) es e found).1) own, All-dropped P Q goes all)

    pub once_put : IsDistinct nat_eq (keys_of (put_entries nat_eq (lru_cache es cap) p v))
    once_put = by (lookup_entry (nat_eq p) es) refl
      where
        by : (o : Option (ℕ × V)) → lookup_entry (nat_eq p) es ≡ o → IsDistinct nat_eq (keys_of (after o))
        by None none = IsDistinct-cons nat_eq p (keys_of (take (cap - 1) es)) (to_keys (λ k. nat_eq p k ≡ false) (take (cap - 1) es) (All-front p (Other p) (cap - 1) es (none_there p es none))) (once_front p (cap - 1) es once)
        by (Some e) found =
            let key : p ≡ e.0 = eqb-true p e.0 (Contains-lookup_entry (nat_eq p) es e found).1 in
            IsDistinct-cons nat_eq e.0 (keys_of (remove_entry (nat_eq p) es))
            (subst (λ (k : ℕ). AllByRecursion (λ j. nat_eq k j ≡ false) (keys_of (remove_entry (nat_eq p) es))) key (to_keys (λ k. nat_eq p k ≡ false) (remove_entry (nat_eq p) es) (none_left p es once)))
            (once_removed p es once)

-- A page that is there.
module _ {V : Type 0} (p : ℕ) (es : List (ℕ × V)) (v : V) (there : lookup (nat_eq p) es ≡ Some v) where
  entry_of : (o : Option (ℕ × V)) → lookup_entry (nat_eq p) es ≡ o → (k : ℕ) × (lookup_entry (nat_eq p) es ≡ Some (k, v)) × (p ≡ k)
  entry_of None none = let h : None ≡ Some v = ap (option_map (λ (e : ℕ × V). e.1)) (sym none) ∙ lookup-lookup_entry (nat_eq p) es ∙ there in cc
  entry_of (Some e) found =
      let h : Some e.1 ≡ Some v = ap (option_map (λ (e : ℕ × V). e.1)) (sym found) ∙ lookup-lookup_entry (nat_eq p) es ∙ there in
      let same : e.1 ≡ v = cc in
      (e.0, found ∙ ap (λ (u : V). Some (e.0, u)) same, eqb-true p e.0 (Contains-lookup_entry (nat_eq p) es e found).1)

  -- what holds of all pages holds of it
  pub All-found : (P : ℕ × V → Type 0) → AllByRecursion P es → P (p, v)
  All-found P = find es there
    where
      find : (fs : List (ℕ × V)) → lookup (nat_eq p) fs ≡ Some v → AllByRecursion P fs → P (p, v)
      find [] none all = cc
      find (f ∷ fs) is all = (elim (nat_eq p f.0) as (λ b. nat_eq p f.0 ≡ b → P (p, v)) [
        | true ↦ λ e. let h = rw e at is in let same : f.1 ≡ v = cc in subst (λ (k : ℕ). P (k, v)) (sym (eqb-true p f.0 e)) (subst (λ (u : V). P (f.0, u)) same all.0)
        | false ↦ λ e. find fs (rw e at is) all.1
      ]) refl

  -- to use it is to put it in as it is
  pub promoted_put : (cap : ℕ) → promoted (nat_eq p) es ≡ put_entries nat_eq (lru_cache es cap) p v
  promoted_put cap =
      let e = entry_of (lookup_entry (nat_eq p) es) refl in
      ap (λ o. option_map_or (λ f. f ∷ remove_entry (nat_eq p) es) o es) e.1
      ∙ sym (ap (λ o. option_map_or (λ f. (f.0, v) ∷ remove_entry (nat_eq p) es) o ((p, v) ∷ take (cap - 1) es)) e.1)

-- a page that isn't there is used in no way
pub promoted_absent : {V : Type 0} (p : ℕ) (es : List (ℕ × V)) → lookup (nat_eq p) es ≡ None → promoted (nat_eq p) es ≡ es
promoted_absent {V} p es none = by (lookup_entry (nat_eq p) es) refl
  where
    by : (o : Option (ℕ × V)) → lookup_entry (nat_eq p) es ≡ o → promoted (nat_eq p) es ≡ es
    by None is = ap (λ o. option_map_or (λ f. f ∷ remove_entry (nat_eq p) es) o es) is
    by (Some e) is = let h : Some e.1 ≡ None = ap (option_map (λ (f : ℕ × V). f.1)) (sym is) ∙ lookup-lookup_entry (nat_eq p) es ∙ none in cc
