use Rattle.std.proofs.Common.{◌<◌, ◌≤◌, length, replicate, sym, ap, ◌∙◌, arith}
use Rattle.nb_alloc.proofs.MakeLaws.{old_past}
use Rattle.nb_alloc.proofs.make.take_old.Goals as goal
use Rattle.nb_alloc.proofs.PutLaws.{old_below}

pub returns-in_ok-read-clause-page : goal.returns-in_ok-read-clause-page
returns-in_ok-read-clause-page g c t tells is =
    let low : c.args.number < length t.base.image = omega (arith, is.files.agrees.count, c.count.ensures.value, c.if-number-count.true) in
    c.in_ok-read.ensures.page t tells is low ∙ sym (old_below c.args.number t.base.image low)

pub returns-else-number-count-clause-page : goal.returns-else-number-count-clause-page
returns-else-number-count-clause-page g c t tells is =
    let far : length t.base.image ≤ c.args.number = omega (arith, is.files.agrees.count, c.count.ensures.value, c.if-number-count.false) in
    c.fill.ensures.after (λ y e. e) ∙ ap (λ n. replicate n 0) (c.requires.room ∙ is.files.agrees.page_size) ∙ sym (old_past c.args.number t.base.image far)
