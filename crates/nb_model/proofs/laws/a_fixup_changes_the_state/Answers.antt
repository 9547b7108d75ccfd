use Rattle.nb_model.proofs.StrokeLaws.{fixed_page}
use Rattle.nb_model.proofs.laws.a_fixup_changes_the_state.Goals as goal

pub returns : goal.returns
returns c = fixed_page
