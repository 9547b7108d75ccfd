use Rattle.std.proofs.Common.{◌<◌, ◌≤◌, ℕ, length, sym, ap, ◌∙◌, arith, Some}
use Rattle.nb_alloc.proofs.Common.{PageRange}
use Rattle.nb_alloc.proofs.DoesLaws.{tested_on, on_err}
use Rattle.nb_alloc.proofs.TestLaws.{kind_read, raw_past, raw_untaken, raw_system, raw_is}
use Rattle.nb_alloc.proofs.reads.read_raw.Goals as goal

pub returns-then-number-count-clause-reads : goal.returns-then-number-count-clause-reads
returns-then-number-count-clause-reads g c t tells is =
    let image = t.base.image in
    let far : length image ≤ c.args.number = omega (arith, is.files.agrees.count, c.count-count.ensures.value, c.if-number-count.true) in
    record { test = raw_past image c.args.number far ∙ ap (λ (n : ℕ). Some (PageRange c.args.number n)) (sym (c.count-count.ensures.value ∙ is.files.agrees.count)); page = tt }

pub returns-in_err-check_taken-clause-reads : goal.returns-in_err-check_taken-clause-reads
returns-in_err-check_taken-clause-reads g c t tells is =
    let low : c.args.number < length t.base.image = omega (arith, is.files.agrees.count, c.count-count.ensures.value, c.if-number-count.false) in
    record {
      test = tested_on (Unit {0}) (Unit {0}) _ _ _ _ c.from_residual.ensures (raw_untaken t.base.image c.args.number low) (c.in_err-check_taken.ensures.test t tells is);
      page = on_err _ _ _ c.from_residual.ensures;
    }

pub returns-then-read_head-code-clause-reads : goal.returns-then-read_head-code-clause-reads
returns-then-read_head-code-clause-reads g c t tells is =
    let image = t.base.image in
    let low : c.args.number < length image = omega (arith, is.files.agrees.count, c.count-count.ensures.value, c.if-number-count.false) in
    let page = c.in_ok-read.ensures.page t tells (c.in_ok-check_taken.ensures.looks.opened t tells is) low in
    let kind = kind_read c.read_head.result c.read.new.into image c.args.number c.read_head.ensures page in
    record { test = raw_system image c.args.number low (c.in_ok-check_taken.ensures.test t tells is) (λ e. c.if-read_head-code.true (kind ∙ e ∙ sym c.code.ensures)); page = tt }

pub returns-clause-reads : goal.returns-clause-reads
returns-clause-reads g c t tells is =
    let image = t.base.image in
    let low : c.args.number < length image = omega (arith, is.files.agrees.count, c.count-count.ensures.value, c.if-number-count.false) in
    let page = c.in_ok-read.ensures.page t tells (c.in_ok-check_taken.ensures.looks.opened t tells is) low in
    let kind = kind_read c.read_head.result c.read.new.into image c.args.number c.read_head.ensures page in
    record { test = raw_is image c.args.number low (c.in_ok-check_taken.ensures.test t tells is) (sym kind ∙ c.if-read_head-code.false ∙ c.code.ensures); page = page }
