use Rattle.nb_state.proofs.BeginLaws.{created}
use Rattle.nb_state.proofs.store.Store.create.Goals as goal

pub returns-clause-creates : goal.returns-clause-creates
returns-clause-creates g c tells = created c.in_ok-pair.pair _ _ c.args.name.now c.args.page_size c.args.raw (c.in_ok-pair.ensures.creates tells) c.in_ok-pair.ensures.blank.none c.in_ok-pair.ensures.page_size (c.in_ok-pair.ensures.within tells)
