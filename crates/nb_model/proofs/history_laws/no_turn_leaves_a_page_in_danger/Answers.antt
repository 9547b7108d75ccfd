use Rattle.nb_model.proofs.NeatTurns.{turn_apart}
use Rattle.nb_model.proofs.history_laws.no_turn_leaves_a_page_in_danger.Goals as goal

pub returns : goal.returns
returns c = λ s session t header is neat named place sixteen. turn_apart s session header is neat t named place sixteen
