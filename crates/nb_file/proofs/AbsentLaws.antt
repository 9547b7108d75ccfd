-- Names that are added to a list, and taken out of it.
use Rattle.std.proofs.Common.{◌≡◌, ℕ, Bool, true, false, ◌||◌, not, List, [], ◌∷◌, ◌++◌, ◌∙◌, ap}
use Rattle.std.specs.List.{list_any, filter}
use Rattle.std.proofs.lemmas.List.Folds.{list_any-append}
use Rattle.std.proofs.lemmas.Map.Views.{any-filter_same}
use Rattle.std.specs.Cmp.Lexicographic.{nat_list_eq_equiv}
use Rattle.nb_host.specs.Names.{same_name}
use Rattle.nb_file.proofs.Common.{false≢true}
use Rattle.nb_file.specs.Absent.{has_name}

either : (a b : Bool) → b ≡ true → (a || b) ≡ true
either true b is = λ i. true
either false b is = is

first : (a b : Bool) → a ≡ true → (a || b) ≡ true
first true b is = λ i. true
first false b is = absurd (false≢true is)

-- the name that is added is one of them
pub has_added : (names : List (List ℕ)) (name : List ℕ) → has_name (names ++ name ∷ []) name ≡ true
has_added names name =
    list_any-append (λ own. same_name own name) names (name ∷ []) ∙ either (has_name names name) (has_name (name ∷ []) name) (first (same_name name name) false (nat_list_eq_equiv.refl name))

-- the name that is taken out is none of those that are left
pub has_left : (names : List (List ℕ)) (name : List ℕ) → has_name (filter (λ own. not (same_name own name)) names) name ≡ false
has_left names name = any-filter_same (λ own. same_name own name) (λ own. not (same_name own name)) false (λ k is. ap not is) names

-- and of another name nothing changes
pub has_other : (names : List (List ℕ)) (name other : List ℕ) → same_name other name ≡ false → has_name (filter (λ own. not (same_name own name)) names) other ≡ has_name names other
has_other names name other apart =
    any-filter_same (λ own. same_name own other) (λ own. not (same_name own name)) true (λ k is. ap not (nat_list_eq_equiv.congr k other name is ∙ apart)) names
