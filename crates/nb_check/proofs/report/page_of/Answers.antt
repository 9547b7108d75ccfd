use Rattle.std.proofs.Common.{◌≡◌, ℕ, ◌<◌, length, sym, ap, ◌∙◌, arith, Bool, slice_index}
use Rattle.nb_check.proofs.Common.{filter, range_with_len, has, room_of, pages_in}
use Rattle.nb_check.proofs.ReportLaws.{counted, passed, listed}
use Rattle.nb_check.proofs.report.page_of.Goals as goal

pub loop-page-init : goal.loop-page-init
loop-page-init c = omega arith

pub loop-page-preserved-then-not-has : goal.loop-page-preserved-then-not-has
loop-page-preserved-then-not-has c =
    let same = passed (has c.args.pages.now) c.loop-page.page (sym c.has.ensures ∙ c.if-not-has.true) in
    omega (arith, c.loop-page.invariant, same)

pub returns-then-left-eq0 : goal.returns-then-left-eq0
unfolding pages_in
returns-then-left-eq0 c =
    let test : ℕ → Bool = has c.args.pages.now in
    let at : c.args.i ≡ length (filter test (range_with_len 0 c.loop-page.page)) = omega (arith, c.loop-page.invariant, c.if-left-eq0.true) in
    let low : c.loop-page.page < room_of c.args.pages.now = omega (arith, c.loop-page-test.true, c.room-page-end.ensures.value) in
    sym (ap (slice_index (pages_in c.args.pages.now)) at ∙ listed test (room_of c.args.pages.now) c.loop-page.page low (sym c.has.ensures ∙ c.if-not-has.false))

pub loop-page-preserved : goal.loop-page-preserved
loop-page-preserved c =
    let more = counted (has c.args.pages.now) c.loop-page.page (sym c.has.ensures ∙ c.if-not-has.false) in
    omega (arith, c.loop-page.invariant, more, c.if-left-eq0.false)

pub returns : goal.returns
unfolding pages_in
returns c =
    let all : c.loop-page.page ≡ room_of c.args.pages.now = omega (arith, c.loop-page-test.false, c.loop-page.auto.page-end, c.room-page-end.ensures.value) in
    let many = ap (λ (n : ℕ). length (filter (has c.args.pages.now) (range_with_len 0 n))) all in
    absurd (omega (arith, c.loop-page.invariant, many, c.requires))
