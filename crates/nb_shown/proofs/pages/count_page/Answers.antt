use Rattle.std.proofs.Common.{refl, true, false}
use Rattle.nb_shown.proofs.Common.{kind_of, page_at, is_free_page, kind_read}
use Rattle.nb_shown.proofs.CountLaws.{counted_next, is_unused, is_used}
use Rattle.nb_shown.proofs.pages.count_page.Goals as goal

pub returns-then-not-used-clause-counts : goal.returns-then-not-used-clause-counts
returns-then-not-used-clause-counts g c t tells is low used counts =
    let image = t.base.image in
    let kind = kind_of (page_at image c.args.number) in
    counted_next image c.args.number kind true _ _ (is_unused c.args.used (is_free_page image c.args.number) c.if-not-used.true used) refl counts (c.add_free.ensures.counts kind)

pub returns-clause-counts : goal.returns-clause-counts
returns-clause-counts g c t tells is low used counts =
    let image = t.base.image in
    let page = c.in_ok-read.ensures.page t tells is low in
    counted_next image c.args.number c.read_head.result.kind false _ _ (is_used c.args.used (is_free_page image c.args.number) c.if-not-used.false used)
    (kind_read c.read_head.result c.read.new.into image c.args.number c.read_head.ensures page) counts c.add_taken.ensures.counts
