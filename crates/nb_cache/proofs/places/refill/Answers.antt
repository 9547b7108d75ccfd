use Rattle.std.proofs.Common.{◌≡◌, ◌<◌, ℕ, [], ◌∷◌, ◌++◌, sym, ap, ◌∙◌, arith, append_assoc, length-append, length}
use Rattle.nb_cache.proofs.Common.{map-append, Frame, places}
use Rattle.nb_cache.proofs.IndexLaws.{Finds-pushed, seen-once}
use Rattle.nb_cache.proofs.places.refill.Goals as goal

pub loop-key-preserved : goal.loop-key-preserved
loop-key-preserved c =
    let so_far = c.loop-key.invariant in
    let before = so_far.before in
    let es = c.args.frames.now.entries in
    let x : ℕ × Frame = (c.in-Some.key.now, c.in-Some.frame.now) in
    let parts : es ≡ before ++ x ∷ c.next.new.self = so_far.parts ∙ ap (λ l. before ++ l) c.in-Some.ensures.steps in
    let inside : length before < c.args.held = omega arith in
    let size = length-append before (x ∷ []) in
    let one = seen-once es before x c.next.new.self c.args.held parts inside c.requires.once in record {
      before = before ++ x ∷ [];
      parts = parts ∙ sym (append_assoc before (x ∷ []) c.next.new.self);
      size = omega (arith, size);
      finds = rw (map-append {B = ℕ × ℕ} (λ e. (e.1.page, e.0)) before (x ∷ []))
          (Finds-pushed c.loop-key.index c.enter.new.self x.1.page x.0 c.enter.ensures.holders (places before) so_far.finds one);
      room = omega arith;
      left = omega (arith, size);
    }
