-- What is said over a shadow its host says.
use Rattle.nb_shadow.proofs.PassLaws.{passes_saying}
use Rattle.nb_shadow.proofs.shadow.ShadowHost.say.Goals as goal

pub returns-clause-time : goal.returns-clause-time
returns-clause-time g c = passes_saying _ c.args.self.now.twin.apart g.H.Host.tells _ _ c.say.ensures.time
