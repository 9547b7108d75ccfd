use Rattle.std.proofs.Common.{◌∷◌}
use Rattle.nb_model.proofs.SpelledLaws.{level_spelled, pages_some}
use Rattle.nb_model.proofs.laws.what_is_read_is_spelled.Goals as goal

pub returns-clause-spelled : goal.returns-clause-spelled
returns-clause-spelled c = λ bytes version h r rs are reads. level_spelled bytes (record { version = version; head = h; pages = r ∷ rs }) are reads

pub returns-clause-some : goal.returns-clause-some
returns-clause-some c = λ bytes contents are reads. pages_some bytes contents.version contents.head contents.pages (level_spelled bytes contents are reads)
