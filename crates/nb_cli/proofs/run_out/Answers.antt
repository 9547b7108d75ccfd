use Rattle.nb_cli.proofs.EndLaws.{ends_at_once}
use Rattle.nb_cli.proofs.run_out.Goals as goal

pub returns-in-Usage-clause-ends : goal.returns-in-Usage-clause-ends
returns-in-Usage-clause-ends g c asked by = ends_at_once g.H.Host.tells g.H.Host.world c.run_read-status.result c.args.host.now c.run_read-status.new.host asked (c.run_read-status.ensures.runs asked by)
