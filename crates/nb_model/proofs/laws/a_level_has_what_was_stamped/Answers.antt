use Rattle.nb_model.proofs.ChangedLaws.{changed_is_taken}
use Rattle.nb_model.proofs.laws.a_level_has_what_was_stamped.Goals as goal

pub returns : goal.returns
returns c = λ image s no_lower. changed_is_taken s image no_lower
