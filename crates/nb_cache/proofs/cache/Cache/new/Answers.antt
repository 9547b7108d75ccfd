use Rattle.std.proofs.Common.{◌≡◌, ◌<◌, ◌∷◌, ap, ◌∙◌, arith, length}
use Rattle.nb_cache.proofs.Common.{lru_cache}
use Rattle.nb_cache.proofs.ShownLaws.{put-new, keys-below}
use Rattle.nb_cache.proofs.cache.Cache.new.Goals as goal

pub loop-key-preserved : goal.loop-key-preserved
loop-key-preserved c =
    let frames = c.loop-key.frames in
    let key = c.loop-key.key in
    let frame = c.in_ok-new.field-0 in
    let so_far = c.loop-key.invariant in
    let room : length frames.entries < frames.cap = omega arith in
    let now : c.put.new.self ≡ lru_cache ((key, frame) ∷ frames.entries) frames.cap = c.in_ok-put.ensures.entries ∙ ap (λ l. lru_cache l frames.cap) (put-new frames key frame so_far.keys room) in
    rw now (record {
      cap = so_far.cap;
      so_many = omega arith;
      keys = (omega arith, keys-below key frames.entries so_far.keys);
      sizes = (c.in_ok-new.ensures, so_far.sizes);
    })
