use Rattle.nb_catalog.proofs.EntryLaws.{entries_more, entries_all}
use Rattle.nb_catalog.proofs.points.entries.Goals as goal

pub loop-place-preserved : goal.loop-place-preserved
loop-place-preserved c = entries_more c.args.heads.now c.loop-place.entries.items c.push.new.self.items c.loop-place.place _ c.loop-place-test.true c.loop-place.invariant c.in_ok-push.ensures.items

pub returns : goal.returns
returns c = entries_all c.args.heads.now c.loop-place.entries.items c.loop-place.place c.loop-place-test.false c.loop-place.invariant
