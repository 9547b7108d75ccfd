use Rattle.nb_restore.proofs.SourceLaws.{source_ready}
use Rattle.nb_restore.proofs.readers.start_reader.Goals as goal

pub returns-clause-ready : goal.returns-clause-ready
returns-clause-ready g c tells target link source = source_ready _ _ c.args.name.now _ _ c.in_ok-reader.reader g.H.Host.tells tells source c.in_ok-reader.ensures.answer
