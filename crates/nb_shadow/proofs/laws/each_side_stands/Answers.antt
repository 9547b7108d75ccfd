use Rattle.nb_shadow.proofs.AloneLaws.{database_stands, twin_stands}
use Rattle.nb_shadow.proofs.laws.each_side_stands.Goals as goal

pub returns-clause-database : goal.returns-clause-database
returns-clause-database g c told = database_stands g.H.Host.tells told c.args.shadow.now.twin.pairs c.args.shadow.now.twin.apart (g.H.Host.world c.args.shadow.now.host.now)

pub returns-clause-twin : goal.returns-clause-twin
returns-clause-twin g c told = twin_stands g.H.Host.tells told c.args.shadow.now.twin.pairs c.args.shadow.now.twin.apart (g.H.Host.world c.args.shadow.now.host.now)
