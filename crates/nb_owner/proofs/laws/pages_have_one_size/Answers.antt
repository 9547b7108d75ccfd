use Rattle.nb_owner.proofs.SizeLaws.{open_sized}
use Rattle.nb_owner.proofs.laws.pages_have_one_size.Goals as goal

pub returns : goal.returns
returns g c = λ t told held. open_sized (g.H.Host.world c.args._host.now) c.args.pair.now t held
