use Rattle.std.proofs.Common.{arith}
use Rattle.nb_delta.proofs.EntryLaws.{few}
use Rattle.nb_delta.proofs.entries.Entries.len.Goals as goal

pub overflow_cast-result : goal.overflow_cast-result
overflow_cast-result c = let most = few c.self.inside.pages.items c.self.invariant.0 in omega (arith, most, c.self.inside.pages.ok.0)

pub returns-clause-most : goal.returns-clause-most
returns-clause-most c = let most = few c.self.inside.pages.items c.self.invariant.0 in omega (arith, most, c.self.inside.pages.ok.0)
