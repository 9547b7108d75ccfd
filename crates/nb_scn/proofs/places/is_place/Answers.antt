use Rattle.std.proofs.Common.{◌<◌, arith}
use Rattle.nb_scn.proofs.Common.{entries_in, size_facts}
use Rattle.nb_scn.proofs.PlaceLaws.{place_found, found_place}
use Rattle.nb_scn.proofs.places.is_place.Goals as goal

pub returns-clause-place : goal.returns-clause-place
returns-clause-place c =
    let facts = size_facts c.args.size c.requires.size in
    let some : 0 < entries_in c.args.size = omega (arith, facts.at_least) in rw c.is_scn_place.ensures (
      λ is. place_found c.args.size c.args.page some is,
      λ p. found_place c.args.size c.args.page p.0 some p.1,
    )
