use Rattle.nb_top.proofs.CopyLaws.{begins_copied}
use Rattle.nb_top.proofs.laws.a_run_may_begin_on_copies.Goals as goal

pub returns : goal.returns
returns g c = λ files copies account stands copied starts. begins_copied files copies account stands copied (g.H.Host.world c.args._host.now) starts
