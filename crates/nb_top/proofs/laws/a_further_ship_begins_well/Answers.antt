use Rattle.nb_top.proofs.LongNames.{ship_file}
use Rattle.nb_top.proofs.ShipOnward.{begins_well, half_waits, rests_wait}
use Rattle.nb_top.proofs.WordNames.{plain_database, plain_file}
use Rattle.nb_ship.specs.Names.{ship_of}
use Rattle.nb_top.proofs.laws.a_further_ship_begins_well.Goals as goal

pub returns-clause-begins : goal.returns-clause-begins
returns-clause-begins c = λ files account primary standby can fits given normal.
    begins_well files account primary standby (plain_database primary fits) (plain_file (ship_of standby) (ship_file standby given)) can normal

pub returns-clause-rests : goal.returns-clause-rests
returns-clause-rests c = λ files kept image standby bytes backup look on named looked. rests_wait files kept image standby bytes backup look on named looked

pub returns-clause-half : goal.returns-clause-half
returns-clause-half c = λ old files standby bytes half contents kept image mergeable is here same named. half_waits old files standby bytes half contents mergeable is here same kept image named
