use Rattle.std.proofs.Common.{ℕ, ap, sym, ◌∙◌, Some}
use Rattle.nb_base.proofs.Common.{NotDatabase, length_cause}
use Rattle.nb_base.proofs.AttachLaws.{parted, too_few, too_many, fits}
use Rattle.nb_base.proofs.attach.count_pages.Goals.{then-len-size-ne0-via-then-len-size-ne0, then-len-size-ne0-via-else-len-size-ne0+then-pages-lt-LEAST_PAGES}
use Rattle.nb_base.proofs.attach.count_pages.Goals as goal

pub returns-then-len-size-ne0-clause-test : goal.returns-then-len-size-ne0-clause-test
returns-then-len-size-ne0-clause-test c =
    let size : ℕ = c.from-size.result in
    ap (length_cause c.args.len) (sym c.from-size.ensures)
    ∙ elim c.then-len-size-ne0.branch [
      | then-len-size-ne0-via-then-len-size-ne0 w ↦ parted c.args.len size w.if-len-size-ne0.true
      | then-len-size-ne0-via-else-len-size-ne0+then-pages-lt-LEAST_PAGES w ↦ too_few c.args.len size w.if-pages-lt-LEAST_PAGES.true
    ]
    ∙ ap (λ (k : ℕ). Some (NotDatabase k)) (sym c.min-page.ensures)

pub returns-then-pages-gt-MOST_PAGES-clause-test : goal.returns-then-pages-gt-MOST_PAGES-clause-test
returns-then-pages-gt-MOST_PAGES-clause-test c =
    ap (length_cause c.args.len) (sym c.from-size.ensures) ∙ too_many c.args.len c.from-size.result c.if-len-size-ne0.false c.if-pages-lt-LEAST_PAGES.false c.if-pages-gt-MOST_PAGES.true

pub returns-clause-test : goal.returns-clause-test
returns-clause-test c =
    ap (length_cause c.args.len) (sym c.from-size.ensures) ∙ fits c.args.len c.from-size.result c.if-len-size-ne0.false c.if-pages-lt-LEAST_PAGES.false c.if-pages-gt-MOST_PAGES.false
