use Rattle.std.proofs.Common.{sym, ◌∙◌}
use Rattle.nb_top.proofs.ScriptRead.{long_file, some_file}
use Rattle.nb_top.proofs.reading.read_file.Goals as goal

pub returns-then-size-clause-read : goal.returns-then-size-clause-read
returns-then-size-clause-read g c tells =
    let file = (g.H.Host.world c.args.host.now).files c.args.name.now in
    let there = some_file file c.in-Some.size (sym c.in-Some.is ∙ c.in_ok-size.ensures.answer tells) in
    long_file c.args.name.now there.bytes file c.in-Some.size there.is there.long c.if-size.true
