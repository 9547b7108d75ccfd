use Rattle.std.proofs.Common.{◌<◌, ◌≤◌, ℕ, length, sym, ap, ◌∙◌, arith, ◌==◌}
use Rattle.nb_alloc.proofs.Common.{kind_of, page_at, lt_no, Held, true≢false}
use Rattle.nb_alloc.proofs.TestLaws.{kind_past_end, kind_below, kind_read}
use Rattle.nb_alloc.proofs.make.has_page.Goals as goal
use Rattle.nb_alloc.proofs.PutLaws.{old_below}

pub returns-then-number-count-clause-value : goal.returns-then-number-count-clause-value
returns-then-number-count-clause-value g c t tells is =
    let count = c.count.ensures.value ∙ ap (λ (h : Held). h.files.count) c.in_ok-take_old.ensures.looks.same ∙ is.files.agrees.count in
    let low : c.args.number < length t.base.image = omega (arith, count, c.if-number-count.true) in
    let page = c.in_ok-take_old.ensures.page t tells is ∙ old_below c.args.number t.base.image low in
    let kind = kind_read c.read_head.result c.take_old.new.into t.base.image c.args.number c.read_head.ensures page in
    ap (λ (k : ℕ). k == c.code.result) kind ∙ ap (λ (k : ℕ). kind_of (page_at t.base.image c.args.number) == k) c.code.ensures ∙ sym (kind_below t.base.image _ c.args.number low)

pub returns-else-number-count-clause-value : goal.returns-else-number-count-clause-value
returns-else-number-count-clause-value g c t tells is =
    let count = c.count.ensures.value ∙ ap (λ (h : Held). h.files.count) c.in_ok-take_old.ensures.looks.same ∙ is.files.agrees.count in
    let far : length t.base.image ≤ c.args.number = omega (arith, count, c.if-number-count.false) in
    lt_no c.args.number c.count.result c.if-number-count.false ∙ sym (kind_past_end t.base.image _ c.args.number far)

pub returns-then-number-count-clause-below : goal.returns-then-number-count-clause-below
returns-then-number-count-clause-below g c has = omega (arith, c.if-number-count.true, c.count.ensures.value, ap (λ (h : Held). h.files.count) c.in_ok-take_old.ensures.looks.same)

pub returns-else-number-count-clause-below : goal.returns-else-number-count-clause-below
returns-else-number-count-clause-below g c has = absurd (true≢false (sym has ∙ lt_no c.args.number c.count.result c.if-number-count.false))
