use Rattle.std.proofs.Common.{◌≡◌, sym, ap, subst, false, ◌==◌}
use Rattle.nb_alloc.proofs.Common.{is_zeros, Page, bit_for}
use Rattle.nb_alloc.proofs.MarkLaws.{with_it}
use Rattle.nb_alloc.proofs.RaiseLaws.{stamped-some}
use Rattle.nb_alloc.proofs.pages.put_bit.Goals as goal

pub returns-clause-page : goal.returns-clause-page
returns-clause-page c = with_it c.args.map.now c.set_bit.new.map c.stamp.new.page c.args.index (bit_for c.args.free) c.code.result c.args.scn c.args.place c.set_bit.ensures c.stamp.ensures.written c.code.ensures

pub returns-clause-some : goal.returns-clause-some
returns-clause-some c =
    subst (λ (x : Page). is_zeros x ≡ false) (sym c.stamp.ensures.written) (stamped-some c.set_bit.new.map c.code.result _ c.args.scn c.args.place (ap (λ k. k == 0) c.code.ensures))
