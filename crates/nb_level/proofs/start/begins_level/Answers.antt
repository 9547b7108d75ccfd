use Rattle.std.proofs.Common.{ap, sym, ◌∙◌, take, nat_eq}
use Rattle.nb_level.proofs.Common.{pointwise, begins_level}
use Rattle.nb_level.proofs.StartLaws.{begins-short}
use Rattle.nb_level.proofs.start.begins_level.Goals as goal

pub returns-then-bytes-lt4 : goal.returns-then-bytes-lt4
returns-then-bytes-lt4 c = sym (begins-short c.args.bytes.now c.if-bytes-lt4.true)

pub returns : goal.returns
unfolding begins_level
returns c = c.eq.ensures ∙ ap (λ l. pointwise nat_eq (take 4 c.args.bytes.now) l) c.as_slice.ensures
