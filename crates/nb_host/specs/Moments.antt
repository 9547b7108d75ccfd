-- Moments: what was said at one, and what a crash then leaves.
use Rattle.std.specs.Prelude.{◌≡◌, ◌⊎◌, ℕ, ◌≤◌, List, length, take}
use Rattle.nb_host.specs.Files.{Files}
use Rattle.nb_host.specs.World.{World}
use Rattle.nb_host.specs.Crash.{LeavesAll}

-- at this moment
pub record IsNow (w : World) (files : Files) (said : List ℕ) : Type 0 where
  pub left : LeavesAll w files
  pub output : said ≡ w.said

-- while bytes were said
pub record IsWhileSaying (old new : World) (files : Files) (said : List ℕ) : Type 0 where
  pub left : LeavesAll new files
  pub no_shorter : length old.said ≤ length said
  pub part : said ≡ take (length said) new.said

-- Time goes on, from `old` to `new` of the same host: the moments that count are those that counted, and those that are `here`.
pub record Elapses (old new : World) (here : Files → List ℕ → Type 0) : Type 0 where
  pub later : old.moment ≤ new.moment
  pub nothing_else : (t : ℕ) (files : Files) (said : List ℕ) → t ≤ old.moment → new.left_since t files said → old.left_since t files said ⊎ here files said
  pub keeps : (t : ℕ) (files : Files) (said : List ℕ) → t ≤ old.moment → old.left_since t files said → new.left_since t files said

-- a call that says nothing
abbrev pub Passes : World → World → Type 0
Passes old new = Elapses old new (IsNow new)

-- a call that says something
abbrev pub PassesSaying : World → World → Type 0
PassesSaying old new = Elapses old new (IsWhileSaying old new)

-- this moment counts, and since this moment there is no other
pub record IsTimely (w : World) : Type 0 where
  pub counts_now : (t : ℕ) (files : Files) → t ≤ w.moment → LeavesAll w files → w.left_since t files w.said
  pub only_now : (files : Files) (said : List ℕ) → w.left_since w.moment files said → IsNow w files said

-- P holds at each moment from `old` to `new` of the same host
pub record AtEachMoment (old new : World) (P : Files → List ℕ → Type 0) : Type 0 where
  pub later : old.moment ≤ new.moment
  pub each : (files : Files) (said : List ℕ) → new.left_since old.moment files said → P files said
  -- seen by a run of calls that began earlier
  pub earlier : (t : ℕ) (files : Files) (said : List ℕ) → t ≤ old.moment → new.left_since t files said → old.left_since t files said ⊎ P files said
