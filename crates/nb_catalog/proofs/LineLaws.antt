-- The line of a file, step by step.
use Rattle.std.proofs.Common.{◌≡◌, ◌≢◌, ℕ, zero, suc, ◌+◌, ◌-◌, ◌==◌, List, [], ◌∷◌, ◌++◌, Bool, refl, sym, ap, ◌∙◌, arith, length, length-append, ◌||◌, Option, Some, None, option_map}
use Rattle.nb_catalog.proofs.Common.{slice_index_or, list_any, line_at, is_among, or_false}
use Rattle.std.proofs.lemmas.List.Folds.{list_any-append}

-- a file of level 0 alone is its line
pub line_of_zero : (parents : List (Option ℕ)) (level place : ℕ) → level ≡ 0 → line_at parents level place ≡ Some (place ∷ [])
unfolding line_at
line_of_zero parents zero place h = refl
line_of_zero parents (suc level) place h = absurd (omega (arith, h))

-- without a parent there is no line
pub line_without_parent : (parents : List (Option ℕ)) (level place : ℕ) → level ≢ 0 → slice_index_or parents place None ≡ None → line_at parents level place ≡ None
unfolding line_at
line_without_parent parents zero place h none = absurd (h refl)
line_without_parent parents (suc level) place h none =
    ap (λ (above : Option ℕ). elim above [ None ↦ None | Some a ↦ option_map (λ (line : List ℕ). line ++ place ∷ []) (line_at parents level a) ]) none

-- the line of the parent, and the file
pub line_behind_parent : (parents : List (Option ℕ)) (level place above : ℕ) → level ≢ 0 → slice_index_or parents place None ≡ Some above
    → line_at parents level place ≡ option_map (λ line. line ++ place ∷ []) (line_at parents (level - 1) above)
unfolding line_at
line_behind_parent parents zero place above h some = absurd (h refl)
line_behind_parent parents (suc level) place above h some =
    let less : level ≡ suc level - 1 = omega arith in
    ap (λ (a : Option ℕ). elim a [ None ↦ None | Some a ↦ option_map (λ (line : List ℕ). line ++ place ∷ []) (line_at parents level a) ]) some
    ∙ ap (λ (l : ℕ). option_map (λ (line : List ℕ). line ++ place ∷ []) (line_at parents l above)) less

-- a place is among those of a line with one more
pub among_more : (wanted place : ℕ) (line : Option (List ℕ)) → option_map (is_among wanted) (option_map (λ l. l ++ place ∷ []) line) ≡ option_map (λ b. b || (place == wanted)) (option_map (is_among wanted) line)
among_more wanted place None = refl
among_more wanted place (Some l) = ap Some (list_any-append (λ p. p == wanted) l (place ∷ []) ∙ ap (λ (b : Bool). list_any (λ p. p == wanted) l || b) (or_false (place == wanted)))

-- so by the parent
pub among_behind : (parents : List (Option ℕ)) (level place above wanted : ℕ) (known : Option Bool) → level ≢ 0 → slice_index_or parents place None ≡ Some above → known ≡ option_map (is_among wanted) (line_at parents (level - 1) above)
    → option_map (is_among wanted) (line_at parents level place) ≡ option_map (λ b. b || (place == wanted)) known
among_behind parents level place above wanted known h some is =
    ap (option_map (is_among wanted)) (line_behind_parent parents level place above h some) ∙ among_more wanted place (line_at parents (level - 1) above) ∙ sym (ap (option_map (λ b. b || (place == wanted))) is)

pub among_none : (parents : List (Option ℕ)) (level place wanted : ℕ) → level ≢ 0 → slice_index_or parents place None ≡ None → option_map (is_among wanted) (line_at parents level place) ≡ None
among_none parents level place wanted h none = ap (option_map (is_among wanted)) (line_without_parent parents level place h none)

pub among_zero : (parents : List (Option ℕ)) (level place wanted : ℕ) → level ≡ 0 → option_map (is_among wanted) (line_at parents level place) ≡ Some (place == wanted)
among_zero parents level place wanted h = ap (option_map (is_among wanted)) (line_of_zero parents level place h) ∙ ap Some (or_false (place == wanted))

-- a line of a level above 0 is that of the parent, and the file
pub line_split : (parents : List (Option ℕ)) (level place : ℕ) (line : List ℕ) → line_at parents (suc level) place ≡ Some line
    → (above : ℕ) × (front : List ℕ) × (slice_index_or parents place None ≡ Some above) × (line_at parents level above ≡ Some front) × (line ≡ front ++ place ∷ [])
unfolding line_at
line_split parents level place line is = by (slice_index_or parents place None) refl is
  where
    behind : (above : ℕ) → slice_index_or parents place None ≡ Some above → (front : Option (List ℕ)) → line_at parents level above ≡ front → option_map (λ (l : List ℕ). l ++ place ∷ []) front ≡ Some line
        → (above : ℕ) × (front : List ℕ) × (slice_index_or parents place None ≡ Some above) × (line_at parents level above ≡ Some front) × (line ≡ front ++ place ∷ [])
    behind above parent None lined e = absurd (cc e)
    behind above parent (Some front) lined e = (above, front, parent, lined, sym (cc e))

    by : (o : Option ℕ) → slice_index_or parents place None ≡ o → (elim o as (λ x. Option (List ℕ)) [ None ↦ None | Some above ↦ option_map (λ (l : List ℕ). l ++ place ∷ []) (line_at parents level above) ]) ≡ Some line
        → (above : ℕ) × (front : List ℕ) × (slice_index_or parents place None ≡ Some above) × (line_at parents level above ≡ Some front) × (line ≡ front ++ place ∷ [])
    by None parent e = absurd (cc e)
    by (Some above) parent e = behind above parent (line_at parents level above) refl e

-- a line has one file for each level
pub length-line : (parents : List (Option ℕ)) (level place : ℕ) (line : List ℕ) → line_at parents level place ≡ Some line → length line ≡ level + 1
unfolding line_at
length-line parents zero place line is = let same : place ∷ [] ≡ line = cc is in ap length (sym same)
length-line parents (suc level) place line is =
    let parts = line_split parents level place line is in
    let behind = length-line parents level parts.0 parts.1 parts.3 in
    omega (arith, behind, ap length parts.4 ∙ length-append parts.1 (place ∷ []))
