-- What is marked of pages while chains are walked over: which are left, and which are in danger.
use Rattle.std.specs.Prelude.{◌≡◌, ℕ, ◌<◌, List, length, Bool, true, false, ◌||◌}
use Rattle.nb_check.specs.declared.set.Marks.{Marks}
use Rattle.nb_check.specs.Sets.{has, room_of, IsWithout}
use Rattle.nb_model.specs.Danger.{is_twice}
use Rattle.nb_model.specs.Leaks.{is_among}

-- Page p is hit by these: it is among them and isn't left, or is among them twice.
abbrev pub is_hit : (left : Bool) → (p : ℕ) → List ℕ → Bool
is_hit left p ps = elim left [ true ↦ is_twice p ps | false ↦ is_among p ps ]

-- Chains have reached these pages: none of them is left, and those that were hit are in danger.
pub record IsReached (before : Marks) (ps : List ℕ) (after : Marks) : Type 0 where
  pub left : IsWithout before.left ps after.left
  pub danger : (p : ℕ) → p < room_of before.danger → has after.danger p ≡ (has before.danger p || is_hit (has before.left p) p ps)
  pub left_room : length after.left ≡ length before.left
  pub danger_room : length after.danger ≡ length before.danger
