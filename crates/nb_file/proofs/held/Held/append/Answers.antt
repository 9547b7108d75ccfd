use Rattle.nb_file.proofs.HeldLaws.{added_at_end}
use Rattle.nb_file.proofs.held.Held.append.Goals as goal

pub returns-clause-bytes : goal.returns-clause-bytes
returns-clause-bytes g c = λ told. added_at_end c.write.result _ _ _ c.in_ok-at.at (c.in_ok-at.ensures.len told) (c.write.ensures.bytes told)
