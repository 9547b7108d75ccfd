use Rattle.nb_model.proofs.Common.{bases_of}
use Rattle.nb_model.proofs.MixtureLaws.{mixed_size, mixed_state, mixed_scn, mixed_guid, mixed_forced, mixed_read_only}
use Rattle.nb_model.proofs.laws.mixtures_keep_the_header.Goals as goal

pub returns-clause-size : goal.returns-clause-size
returns-clause-size c = λ t b left. mixed_size (bases_of t) t.base b.image left.mixed

pub returns-clause-state : goal.returns-clause-state
returns-clause-state c = λ t b left. mixed_state (bases_of t) t.base b.image left.mixed

pub returns-clause-scn : goal.returns-clause-scn
returns-clause-scn c = λ t b left. mixed_scn (bases_of t) t.base b.image left.mixed

pub returns-clause-guid : goal.returns-clause-guid
returns-clause-guid c = λ t b left. mixed_guid (bases_of t) t.base b.image left.mixed

pub returns-clause-forced : goal.returns-clause-forced
returns-clause-forced c = λ t b left. mixed_forced (bases_of t) t.base b.image left.mixed

pub returns-clause-read_only : goal.returns-clause-read_only
returns-clause-read_only c = λ t b left. mixed_read_only (bases_of t) t.base b.image left.mixed
