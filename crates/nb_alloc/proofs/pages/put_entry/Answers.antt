use Rattle.std.proofs.Common.{◌≡◌, sym, ap, subst, false, ◌==◌}
use Rattle.nb_alloc.proofs.Common.{is_zeros, Page}
use Rattle.nb_alloc.proofs.RaiseLaws.{entered, stamped-some}
use Rattle.nb_alloc.proofs.pages.put_entry.Goals as goal

pub returns-clause-page : goal.returns-clause-page
returns-clause-page c low =
    entered c.args.page.now c.raise.new.page c.stamp.new.page c.args.index c.args.scn c.code.result c.args.place (c.raise.ensures.raised low) c.stamp.ensures.written c.code.ensures c.requires.index

pub returns-clause-some : goal.returns-clause-some
returns-clause-some c =
    subst (λ (x : Page). is_zeros x ≡ false) (sym c.stamp.ensures.written) (stamped-some c.raise.new.page c.code.result _ c.args.scn c.args.place (ap (λ k. k == 0) c.code.ensures))
