use Rattle.std.proofs.Common.{replicate, refl, ap, ◌∙◌}
use Rattle.nb_base.proofs.PageReads.{page_there, page_past}
use Rattle.nb_base.proofs.reads.read_page.Goals as goal

pub returns-then-not-branch-clause-page : goal.returns-then-not-branch-clause-page
returns-then-not-branch-clause-page g c bytes tells is formed size =
    c.fill.ensures.after (λ y e. e) ∙ ap (λ n. replicate n 0) (c.read_page.auto.into) ∙ page_past bytes formed c.args.number _ size _ is c.args.into.now c.read_page.new.into refl c.in_ok-read_page.field-0 c.if-not-branch.true (c.in_ok-read_page.ensures.answer tells)

pub returns-else-not-branch-clause-page : goal.returns-else-not-branch-clause-page
returns-else-not-branch-clause-page g c bytes tells is formed size =
    page_there bytes formed c.args.number _ size _ is c.args.into.now c.read_page.new.into refl c.in_ok-read_page.field-0 c.if-not-branch.false (c.in_ok-read_page.ensures.answer tells)
