use Rattle.std.proofs.Common.{ℕ, ◌+◌, length, subst, sym}
use Rattle.nb_file.proofs.Common.{IsWhole}
use Rattle.nb_file.proofs.GrowthLaws.{page-ends}
use Rattle.nb_file.proofs.held.Held.write_page.Goals as goal

pub write-requires-clause-whole : goal.write-requires-clause-whole
write-requires-clause-whole g c = subst (λ (at : ℕ). IsWhole (length c.args.page.now) (at + length c.args.page.now)) (sym c.place_of.ensures) (page-ends c.args.index (length c.args.page.now))
