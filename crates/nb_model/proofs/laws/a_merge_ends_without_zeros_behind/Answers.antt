use Rattle.nb_model.proofs.TrimLaws.{finish_full, finish_whole}
use Rattle.nb_model.proofs.laws.a_merge_ends_without_zeros_behind.Goals as goal

pub returns-clause-whole : goal.returns-clause-whole
returns-clause-whole c = finish_whole

pub returns-clause-full : goal.returns-clause-full
returns-clause-full c = finish_full
