use Rattle.nb_cache.proofs.IndexLaws.{found}
use Rattle.nb_cache.proofs.places.frame_of.Goals as goal

pub returns : goal.returns
returns c held indexed within =
    found c.args.index.now c.args.frames.now.entries held c.args.page indexed.finds c.len-count.ensures.valid.0 within c.find.result c.find.ensures
