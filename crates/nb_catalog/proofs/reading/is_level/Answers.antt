use Rattle.std.proofs.Common.{take, ◌∙◌}
use Rattle.nb_catalog.proofs.Common.{bytes_of}
use Rattle.nb_catalog.proofs.HeadLaws.{first_begins}
use Rattle.nb_catalog.proofs.reading.is_level.Goals as goal

pub returns-clause-answer : goal.returns-clause-answer
returns-clause-answer g c tells =
    let read = c.in_ok-got.ensures.answer tells in
    c.begins_level.ensures ∙ first_begins (take c.in_ok-got.got c.read_at.new.into) (bytes_of ((g.H.Host.world c.args.host.now).files c.args.name.now)) read.bytes
