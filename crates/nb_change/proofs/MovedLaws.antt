-- How runs of calls on one file go on, where each moves it by a step.
use Rattle.std.proofs.Common.{◌≡◌, ◌⊎◌, inl, inr, ⊎_elim, ℕ, List, refl, subst}
use Rattle.nb_change.proofs.Common.{File, Files, World, Leaves, IsDurable, IsStill, IsTimely, Passes, Names, Only, Changes, Moved, Remade}
use Rattle.nb_change.proofs.ChangesLaws.{begun, weaker_has, moved_on}
use Rattle.nb_change.proofs.CallLaws.{still_alone}
use Rattle.nb_change.proofs.SettledLaws.{durable_is}

-- before the first call, where the step may do nothing
pub moved_begun : (old : World) (names : Names) (name : List ℕ) (step : File → File → Type 0) → IsTimely old → ((b : File) → Leaves old name b → step b b) → Changes old old names (Moved old name step)
moved_begun old names name step timely none = begun old names (Moved old name step) timely (λ files left. record { before = files name; was = left name; by = none (files name) (left name) })

-- less is said of the step
pub moved_weaker : (old new : World) (names : Names) (name : List ℕ) (step all : File → File → Type 0) → Changes old new names (Moved old name step) → ((b c : File) → Leaves old name b → step b c → all b c) → Changes old new names (Moved old name all)
moved_weaker old new names name step all is weak =
    weaker_has old new names (Moved old name step) (Moved old name all) is (λ files moved. record { before = moved.before; was = moved.was; by = weak moved.before (files name) moved.was moved.by })

-- one step after another
pub moved_joined : (old mid new : World) (name : List ℕ) (first second all : File → File → Type 0) → Changes old mid (Only name) (Moved old name first) → Changes mid new (Only name) (Moved mid name second)
    → ((b c : File) → Leaves old name b → first b c → all b c) → ((b c d : File) → Leaves old name b → Leaves mid name c → first b c → second c d → all b d) → Changes old new (Only name) (Moved old name all)
moved_joined old mid new name first second all one two weak by =
    moved_on old mid new (Only name) (Moved old name first) (Moved old name all) name second one two refl
    (λ files moved. record { before = moved.before; was = moved.was; by = weak moved.before (files name) moved.was moved.by })
    (λ before files left moved next others. record { before = moved.before; was = moved.was; by = by moved.before (before name) (files name) moved.was (left name) moved.by next })

-- less is said of what was made
pub remade_weaker : (old new : World) (names : Names) (name : List ℕ) (made all : File → Type 0) → Changes old new names (Remade old name made) → ((c : File) → made c → all c) → Changes old new names (Remade old name all)
remade_weaker old new names name made all is weak = weaker_has old new names (Remade old name made) (Remade old name all) is (λ files. ⊎_elim inl (λ m. inr (weak (files name) m)))

-- a step from a durable file is one from what reads
pub moved_from : (old : World) (name : List ℕ) (file : File) (step : File → File → Type 0) (files : Files) → IsDurable old name file → Moved old name step files → step file (files name)
moved_from old name file step files durable moved = subst (λ (f : File). step f (files name)) (durable_is old name file durable moved.before moved.was) moved.by

-- a call by itself that changes no file, where the step may do nothing
pub moved_still : (old new : World) (names : Names) (name : List ℕ) (step : File → File → Type 0) → IsTimely old → IsStill old new → new.said ≡ old.said → Passes old new → ((b : File) → Leaves old name b → step b b) → Changes old new names (Moved old name step)
moved_still old new names name step timely still silent time none =
    still_alone old new names (Moved old name step) timely still silent time (λ files left. record { before = files name; was = left name; by = none (files name) (left name) })

-- before the first call, where nothing was made
pub remade_begun : (old : World) (names : Names) (name : List ℕ) (made : File → Type 0) → IsTimely old → Changes old old names (Remade old name made)
remade_begun old names name made timely = begun old names (Remade old name made) timely (λ files left. inl (left name))
