use Rattle.std.proofs.Common.{◌∙◌, ap, length, sym, subst, take}
use Rattle.nb_model.proofs.Common.{delta_name, steps_of, strokes_in, base_after, Trail, StandsIn}
use Rattle.nb_model.proofs.ForcedLaws.{acked_made, forced_front, strokes_fronted}
use Rattle.nb_model.proofs.GuidLaws.{strokes_in_steps}
use Rattle.nb_model.proofs.TrailLaws.{settled_shows, shows_settled}
use Rattle.nb_model.proofs.laws.forced_writes_leave_a_front.Goals as goal

pub returns-clause-settled : goal.returns-clause-settled
returns-clause-settled c = λ b steps count are. forced_front steps b are count

pub returns-clause-shows : goal.returns-clause-shows
returns-clause-shows c = λ name b steps count files are stands.
    settled_shows name (base_after b (strokes_in (take count steps))) (files name) (files (delta_name name)) (subst (λ (t : Trail). StandsIn name t files) (forced_front steps b are count) stands)

pub returns-clause-stands : goal.returns-clause-stands
returns-clause-stands c = λ name b steps count files are shows.
    subst (λ (t : Trail). StandsIn name t files) (sym (forced_front steps b are count)) (shows_settled name (base_after b (strokes_in (take count steps))) (files name) (files (delta_name name)) shows)

pub returns-clause-front : goal.returns-clause-front
returns-clause-front c = λ events count. strokes_fronted (steps_of events) count ∙ ap (take (length (strokes_in (take count (steps_of events))))) (strokes_in_steps events)

pub returns-clause-acknowledged : goal.returns-clause-acknowledged
returns-clause-acknowledged c = λ events said count low. acked_made events said count low
