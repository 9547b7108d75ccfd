-- What a plan drops is in no line of a kept point.
use Rattle.std.proofs.Common.{◌≡◌, ℕ, List, refl, sym, ap, subst, ◌∙◌, eq-eqb, Bool, true, false, not, ◌==◌, nat_lt, Option, Some, filter, count_by, option_map, Contains}
use Rattle.nb_catalog.proofs.Common.{unwrap_or, LevelHead, Entry, parents_of, is_among, line, points, kept, dropped, is_newer, is_in_line, is_needed, plan_of, Retention, IsSafe}
use Rattle.nb_catalog.proofs.InLaws.{in_from, in_to, in_filter, in_map, any_of}

module _ (heads : List LevelHead) (keep : ℕ) where
  kept_point : (e : Entry) → Contains (kept heads keep) e → Contains (points heads) e
  kept_point e is = in_to (points heads) e (in_filter (λ e. nat_lt (count_by (λ d. is_newer d e) (points heads)) keep) (points heads) e (in_from (kept heads keep) e is)).0

  -- a file in the line of a kept point is needed
  in_line_needed : (d e : Entry) (chain : List ℕ) → Contains (kept heads keep) e → line heads e ≡ Some chain → Contains chain d.place → is_needed heads keep d ≡ true
  in_line_needed d e chain kept_is is within =
      let among : is_among d.place chain ≡ true = any_of (λ p. p == d.place) chain d.place (in_from chain d.place within) (eq-eqb d.place d.place refl) in
      let found : is_in_line (parents_of heads) d.place e ≡ true = ap (λ (o : Option (List ℕ)). unwrap_or (option_map (is_among d.place) o) false) is ∙ among in
      any_of (is_in_line (parents_of heads) d.place) (kept heads keep) e (in_from (kept heads keep) e kept_is) found

  not_both : (b : Bool) → not b ≡ true → b ≡ true → ⊥
  not_both true isnt is = absurd (cc isnt)
  not_both false isnt is = absurd (cc is)

  not_dropped : (e : Entry) (chain : List ℕ) (place : ℕ) → Contains (kept heads keep) e → line heads e ≡ Some chain → Contains chain place → Contains (dropped heads keep) place → ⊥
  not_dropped e chain place kept_is is within out =
      let unneeded = λ (d : Entry). not (is_needed heads keep d) in
      let found = in_map (λ (d : Entry). d.place) (filter unneeded (points heads)) place (in_from (dropped heads keep) place out) in
      let d : Entry = found.0 in
      let here : Contains chain d.place = subst (λ (p : ℕ). Contains chain p) (sym found.2) within in
      not_both (is_needed heads keep d) (in_filter unneeded (points heads) d found.1).1 (in_line_needed d e chain kept_is is here)

  pub is_safe : (plan : Retention) → plan ≡ plan_of heads keep → IsSafe heads keep plan
  is_safe plan is = record {
    points = kept_point;
    needed = λ e chain place kept_is lined within out. not_dropped e chain place kept_is lined within (subst (λ (p : Retention). Contains p.dropped place) is out);
  }
