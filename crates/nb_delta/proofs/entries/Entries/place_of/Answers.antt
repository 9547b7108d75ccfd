use Rattle.std.proofs.Common.{◌≡◌, subst, rules}
use Rattle.nb_delta.proofs.Common.{place_of, AreEntries}
use Rattle.nb_delta.proofs.EntryLaws.{few, place_below}
use Rattle.nb_delta.proofs.entries.Entries.place_of.Goals as goal

pub returns-clause-inside : goal.returns-clause-inside
returns-clause-inside c =
    let is : c.copied.result ≡ place_of c.args.self.now c.args.page = search rules in
    place_below c.args.page c.args.self.now c.copied.result is

pub returns-clause-few : goal.returns-clause-few
returns-clause-few c = few c.args.self.now (subst AreEntries c.self.view_is c.self.invariant.0)
