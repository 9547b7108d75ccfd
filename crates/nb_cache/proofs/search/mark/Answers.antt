use Rattle.std.proofs.Common.{◌≡◌, Some, refl, sym, ap, ◌∙◌, nat_eq}
use Rattle.nb_cache.proofs.Common.{lookup, option_copied_mut, Frame}
use Rattle.nb_cache.proofs.search.mark.Goals as goal

pub returns : goal.returns
returns c =
    let old : Frame = c.unwrap-frame.result.now in
    let new : Frame = record old { rank = c.args.rank } in
    let there : lookup (nat_eq c.args.key) c.args.frames.now.entries ≡ Some old = sym c.peek_mut.ensures.value ∙ ap option_copied_mut c.unwrap-frame.ensures in
    rw there (new, refl, refl)
