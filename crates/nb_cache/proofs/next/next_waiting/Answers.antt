use Rattle.std.proofs.Common.{ℕ, [], ◌∷◌, ◌++◌, sym, ap, ◌∙◌, arith, append_assoc, length-append, map}
use Rattle.nb_cache.proofs.Common.{map-append, Frame, slot_in}
use Rattle.nb_cache.proofs.next.next_waiting.Goals as goal

pub loop-frame-preserved : goal.loop-frame-preserved
loop-frame-preserved c =
    let so_far = c.loop-frame.invariant in
    let x : ℕ × Frame = (c.in-Some.field-0-0.now, c.in-Some.frame.now) in (
      so_far.0 ++ x ∷ [],
      so_far.1 ∙ ap (λ l. so_far.0 ++ l) c.in-Some.ensures.steps ∙ sym (append_assoc so_far.0 (x ∷ []) c.next.new.self),
      omega (arith, length-append so_far.0 (x ∷ [])),
      rw (map-append slot_in so_far.0 (x ∷ [])) (c.sooner-next.ensures (map slot_in so_far.0) x.1.bytes.items so_far.3),
    )
