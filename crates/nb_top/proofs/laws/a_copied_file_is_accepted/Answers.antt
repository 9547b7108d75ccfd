use Rattle.nb_ship.specs.Names.{ship_of}
use Rattle.nb_top.proofs.LongNames.{ship_file}
use Rattle.nb_top.proofs.ShipOnward.{copied_accepts}
use Rattle.nb_top.proofs.WordNames.{plain_file}
use Rattle.nb_top.proofs.laws.a_copied_file_is_accepted.Goals as goal

pub returns : goal.returns
returns g c = λ account primary standby since bytes backup given copy on same looked.
    copied_accepts (g.H.Host.world c.args._before.now) (g.H.Host.world c.args._behind.now) account primary standby since bytes copy (plain_file (ship_of standby) (ship_file standby given)) backup on same looked
