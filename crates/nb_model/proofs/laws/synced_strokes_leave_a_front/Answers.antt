use Rattle.nb_model.proofs.Common.{delta_name}
use Rattle.nb_model.proofs.TrailLaws.{synced_front, synced_shows, forced_synced, forced_settles, first_settles}
use Rattle.nb_model.proofs.laws.synced_strokes_leave_a_front.Goals as goal

pub returns-clause-settled : goal.returns-clause-settled
returns-clause-settled c = λ b strokes k synced. synced_front strokes b synced k

pub returns-clause-shows : goal.returns-clause-shows
returns-clause-shows c = λ name b strokes k files synced stands. synced_shows name strokes b synced k (files name) (files (delta_name name)) stands

pub returns-clause-forced : goal.returns-clause-forced
returns-clause-forced c = λ b strokes forced pages. forced_synced strokes b forced pages

pub returns-clause-one : goal.returns-clause-one
returns-clause-one c = λ b p bytes forced. (forced_settles b p bytes forced, tt)

pub returns-clause-first : goal.returns-clause-first
returns-clause-first c = λ b bytes. (first_settles b bytes, tt)
