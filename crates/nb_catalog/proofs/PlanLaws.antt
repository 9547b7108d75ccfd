-- A plan by its parts.
use Rattle.std.proofs.Common.{◌≡◌, ℕ, List, ap, ap₂, ◌∙◌, Option, filter, count_by, is_some, not}
use Rattle.nb_catalog.proofs.Common.{LevelHead, Entry, parents_of, entries_of, points, kept, line_by, newest, is_in_lines, places, plan_of}

module _ (heads : List LevelHead) (keep : ℕ) (ps : List (Option ℕ)) (es lined last : List Entry) (parents_are : ps ≡ parents_of heads) (entries_are : es ≡ entries_of heads)
    (lined_are : lined ≡ filter (λ e. is_some (line_by ps e)) es) (last_are : last ≡ newest keep lined) where
  points_are : lined ≡ points heads
  points_are = lined_are ∙ ap₂ (λ (p : List (Option ℕ)) (l : List Entry). filter (λ e. is_some (line_by p e)) l) parents_are entries_are

  kept_are : last ≡ kept heads keep
  kept_are = last_are ∙ ap (newest keep) points_are

  pub plan_is : (count : ℕ) (outside without : List ℕ) → count ≡ count_by (is_in_lines ps last) es → outside ≡ places (filter (λ e. not (is_in_lines ps last e)) lined)
      → without ≡ places (filter (λ e. not (is_some (line_by ps e))) es) → record { kept = count; dropped = outside; orphans = without } ≡ plan_of heads keep
  plan_is count outside without counted dropped_are orphans_are =
      let a = counted ∙ ap (λ (l : List Entry). count_by (is_in_lines ps last) l) entries_are ∙ ap₂ (λ (p : List (Option ℕ)) (l : List Entry). count_by (is_in_lines p l) (entries_of heads)) parents_are kept_are in
      let b = dropped_are ∙ ap (λ (l : List Entry). places (filter (λ e. not (is_in_lines ps last e)) l)) points_are
      ∙ ap₂ (λ (p : List (Option ℕ)) (l : List Entry). places (filter (λ e. not (is_in_lines p l e)) (points heads))) parents_are kept_are in
      let o = orphans_are ∙ ap₂ (λ (p : List (Option ℕ)) (l : List Entry). places (filter (λ e. not (is_some (line_by p e))) l)) parents_are entries_are in
      λ i. record { kept = a i; dropped = b i; orphans = o i }
