use Rattle.std.proofs.Common.{List, ℕ, sym, ap, subst, Bool, true, false}
use Rattle.nb_inplace.proofs.Common.{Cause, Contents, TestedByReads, Standby, not_the_same, not_behind}
use Rattle.nb_inplace.proofs.accepting.accept_head.Goals as goal

-- the tests by whether a merge was begun
abbrev by_begun : Standby → (name : List ℕ) → Contents → Bool → Cause
by_begun s name d begun = elim begun [ true ↦ not_the_same s name d | false ↦ not_behind s name d ]

pub returns-then-standby-clause-test : goal.returns-then-standby-clause-test
returns-then-standby-clause-test c d same =
    subst (λ (cause : Cause). TestedByReads c.finishes.result cause) (sym (ap (by_begun c.args.standby.now c.args.file.now d) c.if-standby.true)) (c.finishes.ensures.test d same)

pub returns-else-standby-clause-test : goal.returns-else-standby-clause-test
returns-else-standby-clause-test c d same =
    subst (λ (cause : Cause). TestedByReads c.goes_on.result cause) (sym (ap (by_begun c.args.standby.now c.args.file.now d) c.if-standby.false)) (c.goes_on.ensures.test d same)
