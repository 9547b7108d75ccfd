use Rattle.std.proofs.Common.{ℕ, ◌+◌, ◌*◌, ap}
use Rattle.nb_delta.proofs.Common.{alloc_place}
use Rattle.nb_delta.proofs.places.alloc_page_of.Goals as goal

pub returns-clause-value : goal.returns-clause-value
unfolding alloc_place
returns-clause-value c = ap (λ (e : ℕ). c.args.group * (e + 1)) c.slots_in.ensures.value
