-- A copy that its state doesn't refuse may be fixed where no difference file stands beside.
use Rattle.std.proofs.Common.{◌≡◌, ◌≢◌, ℕ, List, refl, Some, None}
use Rattle.nb_fixup.proofs.Common.{not_fixable, IsFileIn, OnFixup}
use Rattle.nb_cases.specs.declared.events.Case.{Case}
use Rattle.nb_cases.specs.declared.events.Case.TheVariants.{NoCall, Go, WrongState, Unfinished, Main, Delta, BothOrMain, GoWithDelta, GoWithoutDelta, GoOrUnfinished}

pub may_be_fixed : (state : ℕ) (case : Case) → OnFixup state case → case ≢ WrongState → (name bytes : List ℕ) → IsFileIn state bytes → not_fixable name (Some bytes) None ≡ None
may_be_fixed state GoWithoutDelta says other name bytes is = says name bytes None is
may_be_fixed state WrongState says other name bytes is = absurd (other refl)
may_be_fixed state NoCall says other name bytes is = absurd says
may_be_fixed state Go says other name bytes is = absurd says
may_be_fixed state Unfinished says other name bytes is = absurd says
may_be_fixed state Main says other name bytes is = absurd says
may_be_fixed state Delta says other name bytes is = absurd says
may_be_fixed state BothOrMain says other name bytes is = absurd says
may_be_fixed state GoWithDelta says other name bytes is = absurd says
may_be_fixed state GoOrUnfinished says other name bytes is = absurd says
