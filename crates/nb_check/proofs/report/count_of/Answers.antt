use Rattle.std.proofs.Common.{◌≡◌, ℕ, ◌+◌, length, sym, ap, ◌∙◌, arith}
use Rattle.nb_check.proofs.Common.{filter, range_with_len, has, room_of, pages_in}
use Rattle.nb_check.proofs.ReportLaws.{counted, passed, filtered_most}
use Rattle.nb_check.proofs.report.count_of.Goals as goal

pub loop-page-preserved-then-not-has : goal.loop-page-preserved-then-not-has
loop-page-preserved-then-not-has c = c.loop-page.invariant ∙ sym (passed (has c.args.pages.now) c.loop-page.page (sym c.has.ensures ∙ c.if-not-has.true))

pub overflow_add-count : goal.overflow_add-count
overflow_add-count c = let most = filtered_most (has c.args.pages.now) c.loop-page.page 0 in omega (arith, most, c.loop-page.invariant, c.loop-page-test.true, c.room-page-end.ensures.most)

pub loop-page-preserved : goal.loop-page-preserved
loop-page-preserved c = ap (λ (n : ℕ). n + 1) c.loop-page.invariant ∙ sym (counted (has c.args.pages.now) c.loop-page.page (sym c.has.ensures ∙ c.if-not-has.false))

pub returns : goal.returns
unfolding pages_in
returns c =
    let all : c.loop-page.page ≡ room_of c.args.pages.now = omega (arith, c.loop-page-test.false, c.loop-page.auto.page-end, c.room-page-end.ensures.value) in
    c.loop-page.invariant ∙ ap (λ (n : ℕ). length (filter (has c.args.pages.now) (range_with_len 0 n))) all
