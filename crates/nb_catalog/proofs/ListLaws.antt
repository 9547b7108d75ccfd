-- Reading names line by line.
use Rattle.std.proofs.Common.{◌≡◌, ◌≢◌, inl, inr, ℕ, zero, suc, ◌+◌, ◌-◌, ◌≤◌, List, [], ◌∷◌, ◌++◌, length, refl, sym, ap, ◌∙◌, arith, length-append, true, false, Result, Ok, Err}
use Rattle.nb_catalog.proofs.Common.{cases_Bool, cond-true, cond-false, append-nil, Refusal, BadScript, Bytes, Numbered, with_first, is_next, names_on}
use Rattle.nb_catalog.proofs.FileLaws.{with_all, with_all-first}

no_lines : (most : ℕ) (before : List Bytes) → names_on most before [] ≡ Ok []
unfolding names_on
no_lines zero before = refl
no_lines (suc most) before = refl

no_room : (before : List Bytes) (line : Numbered) (lines : List Numbered) → names_on 0 before (line ∷ lines) ≡ Err (BadScript line.0)
unfolding names_on
no_room before line lines = refl

pub no_name : (most : ℕ) (before : List Bytes) (line : Numbered) (lines : List Numbered) → is_next before line.1 ≡ false → names_on (suc most) before (line ∷ lines) ≡ Err (BadScript line.0)
unfolding names_on
no_name most before line lines is = cond-false (is_next before line.1) _ _ is

pub one_name : (most : ℕ) (before : List Bytes) (line : Numbered) (lines : List Numbered) → is_next before line.1 ≡ true → names_on (suc most) before (line ∷ lines) ≡ with_first line.1 (names_on most (before ++ line.1 ∷ []) lines)
unfolding names_on
one_name most before line lines is = cond-true (is_next before line.1) _ _ is

-- these names were read so far, of all that are meant
module _ (meant : Result (List Bytes) Refusal) (names : List Bytes) (lines : List Numbered) (so_far : meant ≡ with_all names (names_on (1000 - length names) names lines)) where
  pub names_all : lines ≡ [] → meant ≡ Ok names
  names_all none = so_far ∙ ap (λ (ls : List Numbered). with_all names (names_on (1000 - length names) names ls)) none ∙ ap (with_all names) (no_lines (1000 - length names) names) ∙ ap Ok (append-nil names)

  module _ (line : Numbered) (behind : List Numbered) (is : lines ≡ line ∷ behind) where
    by_room : (room : ℕ) → 1000 - length names ≡ room → meant ≡ with_all names (names_on room names (line ∷ behind))
    by_room room left = so_far ∙ ap (λ (ls : List Numbered). with_all names (names_on (1000 - length names) names ls)) is ∙ ap (λ (n : ℕ). with_all names (names_on n names (line ∷ behind))) left

    pub names_full : length names ≡ 1000 → meant ≡ Err (BadScript line.0)
    names_full full = by_room 0 (omega (arith, full)) ∙ ap (with_all names) (no_room names line behind)

    module _ (few : length names ≤ 1000) (room : length names ≢ 1000) where
      room_left : 1000 - length names ≡ suc (999 - length names)
      room_left = omega (arith, few, room)

      pub names_bad : is_next names line.1 ≡ false → meant ≡ Err (BadScript line.0)
      names_bad bad = by_room (suc (999 - length names)) room_left ∙ ap (with_all names) (no_name (999 - length names) names line behind bad)

      pub names_more : (new : List Bytes) → is_next names line.1 ≡ true → new ≡ names ++ line.1 ∷ [] → meant ≡ with_all new (names_on (1000 - length new) new behind)
      names_more new good added =
          let long : length new ≡ length names + 1 = ap length added ∙ length-append names (line.1 ∷ []) in
          let less : 999 - length names ≡ 1000 - length new = omega (arith, long) in
          by_room (suc (999 - length names)) room_left ∙ ap (with_all names) (one_name (999 - length names) names line behind good)
          ∙ with_all-first names line.1 (names_on (999 - length names) (names ++ line.1 ∷ []) behind)
          ∙ ap (λ (ns : List Bytes). with_all ns (names_on (999 - length names) ns behind)) (sym added) ∙ ap (λ (n : ℕ). with_all new (names_on n new behind)) less

      pub names_few : (new : List Bytes) → new ≡ names ++ line.1 ∷ [] → length new ≤ 1000
      names_few new added = omega (arith, few, room, ap length added ∙ length-append names (line.1 ∷ []))

-- a list with a line has a name
first_some : (name : Bytes) (rest : Result (List Bytes) Refusal) (names : List Bytes) → with_first name rest ≡ Ok names → 1 ≤ length names
first_some name (Ok more) [] is = absurd (cc is)
first_some name (Ok more) (n ∷ names) is = omega arith
first_some name (Err r) names is = absurd (cc is)

pub some_names : (line : Numbered) (lines : List Numbered) (names : List Bytes) → names_on 1000 [] (line ∷ lines) ≡ Ok names → 1 ≤ length names
unfolding names_on
some_names line lines names is = elim (cases_Bool (is_next [] line.1)) [
  | inl is_name ↦ first_some line.1 (names_on 999 (line.1 ∷ []) lines) names (sym (one_name 999 [] line lines is_name) ∙ is)
  | inr is_none ↦ absurd (cc (sym (no_name 999 [] line lines is_none) ∙ is))
]
