-- Names that are equal and others, and files under them.
use Rattle.std.proofs.Common.{◌≡◌, ◌≢◌, ◌⊎◌, inl, inr, ℕ, Bool, true, false, List, refl, sym, ◌∙◌, ap, subst, if◌then◌else◌, MatchBool}
use Rattle.nb_host.proofs.Common.{same_name}
use Rattle.std.specs.Cmp.Lexicographic.{told_text, nat_list_eq_equiv}
use Rattle.nb_host.specs.Files.{File, Files, with_file}
use mathlib.Core.Path.{fun_ext}

pub same_self : (n : List ℕ) → same_name n n ≡ true
same_self n = nat_list_eq_equiv.refl n

pub same_other : (m n : List ℕ) → m ≢ n → same_name m n ≡ false
same_other m n other = by_test (same_name m n) refl
  where
    by_test : (b : Bool) → b ≡ same_name m n → same_name m n ≡ false
    by_test true is = absurd (other (told_text m n true is))
    by_test false is = sym is

pub decide : (m n : List ℕ) → (m ≡ n) ⊎ (m ≢ n)
decide m n = by_test (same_name m n) refl
  where
    by_test : (b : Bool) → b ≡ same_name m n → (m ≡ n) ⊎ (m ≢ n)
    by_test true is = inl (told_text m n true is)
    by_test false is = inr (told_text m n false is)

-- what a test of two names chooses
module _ (P Q : Type 0) where
  pub at_same : (n : List ℕ) → MatchBool (same_name n n) P Q → P
  at_same n is = subst (λ b. MatchBool b P Q) (same_self n) is

  pub to_same : (n : List ℕ) → P → MatchBool (same_name n n) P Q
  to_same n is = subst (λ b. MatchBool b P Q) (sym (same_self n)) is

  pub at_other : (m n : List ℕ) → m ≢ n → MatchBool (same_name m n) P Q → Q
  at_other m n other is = subst (λ b. MatchBool b P Q) (same_other m n other) is

  pub to_other : (m n : List ℕ) → m ≢ n → Q → MatchBool (same_name m n) P Q
  to_other m n other is = subst (λ b. MatchBool b P Q) (sym (same_other m n other)) is

module _ (files : Files) (n : List ℕ) (file : File) where
  pub with_file-same : with_file files n file n ≡ file
  unfolding with_file
  with_file-same = ap (λ (b : Bool). if b then file else files n) (same_self n)

  pub with_file-other : (m : List ℕ) → m ≢ n → with_file files n file m ≡ files m
  unfolding with_file
  with_file-other m other = ap (λ (b : Bool). if b then file else files m) (same_other m n other)

-- the same name again
pub with_file-again : (files : Files) (n : List ℕ) (first second : File) → with_file (with_file files n first) n second ≡ with_file files n second
unfolding with_file
with_file-again files n first second = fun_ext (λ m. by_test m (same_name m n))
  where
    by_test : (m : List ℕ) (b : Bool) → (if b then second else (if b then first else files m)) ≡ (if b then second else files m)
    by_test m true = refl
    by_test m false = refl

-- two names in either order
pub with_file-swap : (files : Files) (m n : List ℕ) (one other : File) → m ≢ n → with_file (with_file files m one) n other ≡ with_file (with_file files n other) m one
unfolding with_file
with_file-swap files m n one other differ = fun_ext (λ q. by_tests q (same_name q m) (same_name q n) refl refl)
  where
    by_tests : (q : List ℕ) (b c : Bool) → b ≡ same_name q m → c ≡ same_name q n → (if c then other else (if b then one else files q)) ≡ (if b then one else (if c then other else files q))
    by_tests q true true is_m is_n = absurd (differ (sym (told_text q m true is_m) ∙ told_text q n true is_n))
    by_tests q true false is_m is_n = refl
    by_tests q false true is_m is_n = refl
    by_tests q false false is_m is_n = refl

-- the file that was there
pub with_file-keep : (files : Files) (n : List ℕ) → with_file files n (files n) ≡ files
unfolding with_file
with_file-keep files n = fun_ext (λ m. by_test m (same_name m n) refl)
  where
    by_test : (m : List ℕ) (b : Bool) → b ≡ same_name m n → (if b then files n else files m) ≡ files m
    by_test m true is = ap files (sym (told_text m n true is))
    by_test m false is = refl

-- the file under a name that was just given to it
pub with_file-named : (old new : Files) (name : List ℕ) (file : File) → new ≡ with_file old name file → new name ≡ file
with_file-named old new name file is = ap (λ (f : Files). f name) is ∙ with_file-same old name file
