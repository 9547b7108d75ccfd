use Rattle.std.proofs.Common.{arith}
use Rattle.nb_delta.proofs.Common.{size_facts}
use Rattle.nb_delta.proofs.GroupLaws.{group_misshapen, group_names, part_misshapen, end_told}
use Rattle.nb_delta.proofs.reading.read_end.Goals as goal

pub returns-then-len-at-clause-answer : goal.returns-then-len-at-clause-answer
returns-then-len-at-clause-answer c bytes found most rest long short =
    group_names _ _ _ _ c.args.at c.broken.ensures (group_misshapen most c.args.size c.args.at bytes found (part_misshapen c.args.size c.args.at bytes _ (omega (arith, c.if-len-at.true, long)) short))

pub returns-clause-answer : goal.returns-clause-answer
returns-clause-answer c bytes found most rest long short =
    let facts = size_facts c.args.size c.requires.size in
    end_told most c.args.size c.args.at bytes found (omega arith) (omega (arith, c.if-len-at.false, long))
