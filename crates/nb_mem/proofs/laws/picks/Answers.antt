use Rattle.std.proofs.Common.{ap}
use Rattle.nb_mem.proofs.Common.{Choices, Outcome}
use Rattle.nb_mem.proofs.PickLaws.{picks_reach, keeps_all, loses_all}
use Rattle.nb_mem.proofs.laws.picks.Goals as goal

pub returns : goal.returns
returns c = record {
  reach = picks_reach;
  all = λ es n. record { file = ap (λ (x : Outcome × Choices). x.0.left) (keeps_all es n); choices = ap (λ (x : Outcome × Choices). x.1) (keeps_all es n) };
  nothing = loses_all;
}
