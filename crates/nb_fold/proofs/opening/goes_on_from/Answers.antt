use Rattle.std.proofs.Common.{◌≡◌, ℕ, ◌+◌, sym, ap, subst, ◌∙◌, length, Option}
use Rattle.nb_fold.proofs.Common.{eqb-true, head_of, LevelHead, Cause, Head, Contents, TestedAlone, first_size, not_after}
use Rattle.nb_change.proofs.ResultLaws.{on_ok_then}
use Rattle.nb_fold.proofs.AddLaws.{last_there, last_alike, no_last, some_of, same_test}
use Rattle.nb_fold.proofs.opening.goes_on_from.Goals as goal

pub returns-then-is_empty-clause-test : goal.returns-then-is_empty-clause-test
returns-then-is_empty-clause-test c last x is_last head =
    ap (λ (o : Option Contents). not_after o c.args.name.now x) (no_last c.args.sources.now last (eqb-true (length c.args.sources.now) 0 (sym c.is_empty.ensures ∙ c.if-is_empty.true)) is_last)

pub returns-clause-test : goal.returns-clause-test
returns-clause-test c last x is_last head =
    let some = some_of c.args.sources.now (sym c.is_empty.ensures ∙ c.if-is_empty.false) in
    let l = last_there c.args.sources.now c.index-sources-sources.result last some c.index-sources-sources.is is_last in
    let here : head_of c.head-last.result ≡ l.0.head = ap head_of c.head-last.ensures.value ∙ l.2 in
    let same = same_test (c.from-wanted.result + 1) (l.0.head.level + 1) c.of.result l.0 c.args.name.now x (ap (λ (n : ℕ). n + 1) (c.from-wanted.ensures ∙ ap (λ (h : Head). h.level) here))
    (c.of.ensures.guid ∙ ap (λ (h : Head). h.guid) here) (c.of.ensures.scn ∙ ap (λ (h : Head). h.scn) here) (c.of.ensures.size ∙ ap (λ (h : Head). h.size) here) in
    subst (λ (o : Option Contents). TestedAlone c.goes_on.result (not_after o c.args.name.now x)) (sym l.1) (subst (λ (cause : Cause). TestedAlone c.goes_on.result cause) same (c.goes_on.ensures.test x head))

pub returns-clause-size : goal.returns-clause-size
returns-clause-size c =
    on_ok_then c.goes_on.result
    (λ (same : c.args.head.now.page_size ≡ c.of.result.page_size). λ some alike. same ∙ c.of.ensures.size ∙ ap (λ (h : LevelHead). h.page_size) c.head-last.ensures.value ∙ last_alike (first_size c.args.sources.now) c.args.sources.now c.index-sources-sources.result some c.index-sources-sources.is alike)
    c.goes_on.ensures.size
