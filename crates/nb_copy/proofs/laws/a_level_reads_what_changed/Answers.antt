use Rattle.std.proofs.Common.{◌-◌, length, arith}
use Rattle.nb_copy.proofs.Common.{reads_at}
use Rattle.nb_copy.proofs.ReadLaws.{reads_all, sum_most}
use Rattle.nb_copy.proofs.laws.a_level_reads_what_changed.Goals as goal

pub returns-clause-turns : goal.returns-clause-turns
returns-clause-turns c image scn is least = reads_all image scn is _ least

pub returns-clause-together : goal.returns-clause-together
returns-clause-together c image scn before after is least each =
    omega (arith, reads_all image scn is _ least, sum_most (length image) (λ p. after p - before p) (reads_at image scn) (λ p low. omega (arith, each p low)))
