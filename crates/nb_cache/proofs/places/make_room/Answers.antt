use Rattle.std.proofs.Common.{take}
use Rattle.nb_cache.proofs.Common.{places}
use Rattle.nb_cache.proofs.IndexLaws.{once}
use Rattle.nb_cache.proofs.places.make_room.Goals as goal

pub refill-requires-clause-once : goal.refill-requires-clause-once
refill-requires-clause-once c = once c.args.index.now (places (take c.args.held c.args.frames.now.entries)) c.requires.indexed.finds
