use Rattle.std.proofs.Common.{◌<◌, ◌≤◌, length, sym, ◌∙◌, arith}
use Rattle.nb_shown.proofs.Common.{inventory_kind, kind_read, kind_past, kind_other, kind_is}
use Rattle.nb_shown.proofs.pages.read_map.Goals as goal

pub returns-then-place-count-clause-reads : goal.returns-then-place-count-clause-reads
returns-then-place-count-clause-reads g c t tells is =
    let far : length t.base.image ≤ c.args.place = omega (arith, is.files.agrees.count, c.count.ensures.value, c.if-place-count.true) in
    record { test = kind_past t.base.image 2 c.args.place far; page = tt }

pub returns-then-read_head-code-clause-reads : goal.returns-then-read_head-code-clause-reads
returns-then-read_head-code-clause-reads g c t tells is =
    let low : c.args.place < length t.base.image = omega (arith, is.files.agrees.count, c.count.ensures.value, c.if-place-count.false) in
    let page = c.in_ok-read.ensures.page t tells is low in
    let kind = kind_read c.read_head.result c.read.new.into t.base.image c.args.place c.read_head.ensures page in
    record { test = kind_other t.base.image 2 c.args.place low (λ e. c.if-read_head-code.true (kind ∙ e ∙ sym c.code.ensures)); page = tt }

pub returns-clause-reads : goal.returns-clause-reads
returns-clause-reads g c t tells is =
    let low : c.args.place < length t.base.image = omega (arith, is.files.agrees.count, c.count.ensures.value, c.if-place-count.false) in
    let page = c.in_ok-read.ensures.page t tells is low in
    let kind = kind_read c.read_head.result c.read.new.into t.base.image c.args.place c.read_head.ensures page in
    record { test = kind_is t.base.image inventory_kind c.args.place low (sym kind ∙ c.if-read_head-code.false ∙ c.code.ensures); page = page }
