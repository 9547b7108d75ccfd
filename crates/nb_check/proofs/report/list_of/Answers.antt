use Rattle.std.proofs.Common.{◌≡◌, ℕ, List, [], ◌∷◌, ◌++◌, sym, ap, ◌∙◌, arith}
use Rattle.nb_check.proofs.Common.{filter, range_with_len, has, room_of, pages_in}
use Rattle.nb_check.proofs.ReportLaws.{one_more, none_more}
use Rattle.nb_check.proofs.report.list_of.Goals as goal

pub loop-page-preserved-then-not-has : goal.loop-page-preserved-then-not-has
loop-page-preserved-then-not-has c = c.loop-page.invariant ∙ sym (none_more (has c.args.pages.now) c.loop-page.page (sym c.has.ensures ∙ c.if-not-has.true))

pub loop-page-preserved : goal.loop-page-preserved
loop-page-preserved c =
    c.in_ok-push.ensures.ok ∙ ap (λ (ps : List ℕ). ps ++ c.loop-page.page ∷ []) c.loop-page.invariant ∙ sym (one_more (has c.args.pages.now) c.loop-page.page (sym c.has.ensures ∙ c.if-not-has.false))

pub returns-clause-ok : goal.returns-clause-ok
unfolding pages_in
returns-clause-ok c =
    let all : c.loop-page.page ≡ room_of c.args.pages.now = omega (arith, c.loop-page-test.false, c.loop-page.auto.page-end, c.room-page-end.ensures.value) in
    c.loop-page.invariant ∙ ap (λ (n : ℕ). filter (has c.args.pages.now) (range_with_len 0 n)) all
