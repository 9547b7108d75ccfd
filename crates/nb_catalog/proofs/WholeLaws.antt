-- Each file is needed, dropped or an orphan.
use Rattle.std.proofs.Common.{◌≡◌, inl, inr, ℕ, zero, suc, ◌+◌, ◌<◌, List, [], ◌∷◌, ◌++◌, length, refl, sym, ap, subst, ◌∙◌, arith, eqb-true, ◌⊎◌, ◌==◌, Bool, true, false, not, cond, filter, count_by, nat_lt, Option, Some, None, is_some, option_map, ◌||◌}
use Rattle.nb_catalog.proofs.Common.{unwrap_or, list_any, slice_index_or, get_or-map, length-map, sum_by-cons, position-Some, LevelHead, Entry, whole_head, is_parent, parent, parents_of, line_at, is_among, entries_of, line, is_point, points, kept, is_newer, is_in_line, is_needed, plan_of, Retention}
use Rattle.nb_catalog.proofs.InLaws.{In, in_filter}
use Rattle.nb_catalog.proofs.EntryLaws.{entry_at, in_entries, length-entries}
use Rattle.nb_catalog.proofs.LineLaws.{line_split}
use Rattle.nb_catalog.proofs.ReadLaws.{parent_level}

pub in_last : {X : Type 0} (xs : List X) (y x : X) → In (xs ++ y ∷ []) x → In xs x ⊎ (y ≡ x)
in_last [] y x (inl same) = inr same
in_last [] y x (inr none) = absurd none
in_last (z ∷ zs) y x (inl same) = inl (inl same)
in_last (z ∷ zs) y x (inr is) = by (in_last zs y x is)
  where
    by : In zs x ⊎ (y ≡ x) → ((z ≡ x) ⊎ In zs x) ⊎ (y ≡ x)
    by (inl there) = inl (inr there)
    by (inr same) = inr same

-- what passes for one of a list
any_from : {X : Type 0} (test : X → Bool) (xs : List X) → list_any test xs ≡ true → (x : X) × In xs x × (test x ≡ true)
any_from test [] is = absurd (cc is)
any_from {X} test (y ∷ ys) is = by (test y) refl is (any_from test ys)
  where
    by : (b : Bool) → test y ≡ b → (b || list_any test ys) ≡ true → (list_any test ys ≡ true → (x : X) × In ys x × (test x ≡ true)) → (x : X) × ((y ≡ x) ⊎ In ys x) × (test x ≡ true)
    by true passes all further = (y, inl refl, passes)
    by false fails rest further = let found = further rest in (found.0, inr found.1, found.2)

module _ (heads : List LevelHead) where
  abbrev head : ℕ → LevelHead
  head p = slice_index_or heads p (whole_head [])

  abbrev HasLine : ℕ → Type 0
  HasLine p = is_some (line_at (parents_of heads) (head p).level p) ≡ true

  -- each file of a line has a line
  each_lined : (level place : ℕ) (l : List ℕ) → line_at (parents_of heads) level place ≡ Some l → place < length heads → (head place).level ≡ level → (p : ℕ) → In l p → HasLine p
  unfolding line_at
  each_lined zero place l lined within level p is =
      let same : place ∷ [] ≡ l = cc lined in
      let here : In (place ∷ []) p = subst (λ (ps : List ℕ). In ps p) (sym same) is in
      by here
    where
      by : In (place ∷ []) p → HasLine p
      by (inl same) = subst HasLine same (ap (λ (n : ℕ). is_some (line_at (parents_of heads) n place)) level)
      by (inr none) = absurd none
  each_lined (suc level) place l lined within leveled p is =
      let parts = line_split (parents_of heads) level place l lined in
      let found : parent heads (head place) ≡ Some parts.0 = sym (get_or-map (parent heads) heads place (whole_head []) None within) ∙ parts.2 in
      let goes = position-Some (is_parent (head place)) heads parts.0 (whole_head []) found in
      let low : (head parts.0).level ≡ level = omega (arith, parent_level (head place) (head parts.0) goes.1, leveled) in
      by parts.1 (in_last parts.1 place p (subst (λ (ps : List ℕ). In ps p) parts.4 is)) (each_lined level parts.0 parts.1 parts.3 goes.0 low p)
    where
      by : (front : List ℕ) → In front p ⊎ (place ≡ p) → (In front p → HasLine p) → HasLine p
      by front (inl there) further = further there
      by front (inr same) further = subst HasLine same (ap (λ (n : ℕ). is_some (line_at (parents_of heads) n place)) leveled ∙ ap is_some lined)

  some_among : (place : ℕ) (o : Option (List ℕ)) → unwrap_or (option_map (is_among place) o) false ≡ true → (l : List ℕ) × (o ≡ Some l) × In l place
  some_among place None is = absurd (cc is)
  some_among place (Some l) is = let found = any_from (λ p. p == place) l is in (l, refl, subst (In l) (eqb-true found.0 place found.2) found.1)

  -- a file that is needed is a point
  needed_point : (keep : ℕ) (e : Entry) → In (entries_of heads) e → is_needed heads keep e ≡ true → is_point heads e ≡ true
  needed_point keep e there needed =
      let found = any_from (is_in_line (parents_of heads) e.place) (kept heads keep) needed in
      let d : Entry = found.0 in
      let point = in_filter (λ e. nat_lt (count_by (λ d. is_newer d e) (points heads)) keep) (points heads) d found.1 in
      let listed = in_filter (is_point heads) (entries_of heads) d point.0 in
      let at = in_entries 0 heads d (whole_head []) listed.0 in
      let place : at.0 ≡ d.place = ap (λ (x : Entry). x.place) (ap (λ (k : ℕ). entry_at k (head at.0)) (omega arith) ∙ at.2) in
      let level : (head d.place).level ≡ d.level = ap (λ (k : ℕ). (head k).level) (sym place) ∙ ap (λ (x : Entry). x.level) at.2 in
      let among = some_among e.place (line heads d) found.2 in
      let lined = each_lined d.level d.place among.0 among.1 (subst (λ (k : ℕ). k < length heads) place at.1) level e.place among.2 in
      let own = in_entries 0 heads e (whole_head []) there in
      let own_place : own.0 ≡ e.place = ap (λ (x : Entry). x.place) (ap (λ (k : ℕ). entry_at k (head own.0)) (omega arith) ∙ own.2) in
      let own_level : (head e.place).level ≡ e.level = ap (λ (k : ℕ). (head k).level) (sym own_place) ∙ ap (λ (x : Entry). x.level) own.2 in
      ap (λ (n : ℕ). is_some (line_at (parents_of heads) n e.place)) (sym own_level) ∙ lined

-- one element more, counted and kept by a test
module _ {X : Type 0} (test : X → Bool) (x : X) (xs : List X) where
  count_in : test x ≡ true → count_by test (x ∷ xs) ≡ 1 + count_by test xs
  count_in e = sum_by-cons (λ y. cond (test y) 1 0) x xs ∙ ap (λ (b : Bool). cond b 1 0 + count_by test xs) e

  count_out : test x ≡ false → count_by test (x ∷ xs) ≡ 0 + count_by test xs
  count_out e = sum_by-cons (λ y. cond (test y) 1 0) x xs ∙ ap (λ (b : Bool). cond b 1 0 + count_by test xs) e

  kept_in : test x ≡ true → filter test (x ∷ xs) ≡ x ∷ filter test xs
  kept_in e = ap (λ (b : Bool). cond b (x ∷ filter test xs) (filter test xs)) e

  kept_out : test x ≡ false → filter test (x ∷ xs) ≡ filter test xs
  kept_out e = ap (λ (b : Bool). cond b (x ∷ filter test xs) (filter test xs)) e

-- each is counted once
counted : {X : Type 0} (f g : X → Bool) (xs : List X) → ((x : X) → In xs x → f x ≡ true → g x ≡ true) → count_by f xs + length (filter (λ x. not (f x)) (filter g xs)) + length (filter (λ x. not (g x)) xs) ≡ length xs
counted f g [] within = refl
counted {X} f g (x ∷ xs) within = by (f x) (g x) (within x (inl refl)) (counted f g xs (λ y is. within y (inr is))) refl refl
  where
    by : (a b : Bool) → (f x ≡ true → g x ≡ true) → count_by f xs + length (filter (λ x. not (f x)) (filter g xs)) + length (filter (λ x. not (g x)) xs) ≡ length xs → f x ≡ a → g x ≡ b
        → count_by f (x ∷ xs) + length (filter (λ x. not (f x)) (filter g (x ∷ xs))) + length (filter (λ x. not (g x)) (x ∷ xs)) ≡ length (x ∷ xs)
    by true true goes rest fa gb =
        let c = count_in f x xs fa in
        let m = ap (λ (l : List X). length (filter (λ y. not (f y)) l)) (kept_in g x xs gb) ∙ ap length (kept_out (λ y. not (f y)) x (filter g xs) (ap not fa)) in
        let o = ap length (kept_out (λ y. not (g y)) x xs (ap not gb)) in
        omega (arith, c, m, o, rest)
    by true false goes rest fa gb = absurd (cc (sym gb ∙ goes fa))
    by false true goes rest fa gb =
        let c = count_out f x xs fa in
        let m = ap (λ (l : List X). length (filter (λ y. not (f y)) l)) (kept_in g x xs gb) ∙ ap length (kept_in (λ y. not (f y)) x (filter g xs) (ap not fa)) in
        let o = ap length (kept_out (λ y. not (g y)) x xs (ap not gb)) in
        omega (arith, c, m, o, rest)
    by false false goes rest fa gb =
        let c = count_out f x xs fa in
        let m = ap (λ (l : List X). length (filter (λ y. not (f y)) l)) (kept_out g x xs gb) in
        let o = ap length (kept_in (λ y. not (g y)) x xs (ap not gb)) in
        omega (arith, c, m, o, rest)

pub plan_whole : (heads : List LevelHead) (keep : ℕ) (plan : Retention) → plan ≡ plan_of heads keep → plan.kept + length plan.dropped + length plan.orphans ≡ length heads
plan_whole heads keep plan is =
    let place : Entry → ℕ = λ e. e.place in
    let out = length-map (filter (λ e. not (is_needed heads keep e)) (points heads)) place in
    let lost = length-map (filter (λ e. not (is_point heads e)) (entries_of heads)) place in
    let all = counted (is_needed heads keep) (is_point heads) (entries_of heads) (needed_point heads keep) in
    ap (λ (p : Retention). p.kept + length p.dropped + length p.orphans) is ∙ omega (arith, out, lost, all, length-entries 0 heads)
