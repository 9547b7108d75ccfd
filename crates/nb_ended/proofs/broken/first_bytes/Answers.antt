use Rattle.std.proofs.Common.{◌≤◌, length, sym, arith}
use Rattle.std.proofs.lemmas.List.{length-take-le}
use Rattle.nb_ended.proofs.broken.first_bytes.Goals as goal

pub slice_bounds-result-end : goal.slice_bounds-result-end
slice_bounds-result-end c = let within : 200 ≤ length c.args.line.now = omega arith in sym (length-take-le 200 c.args.line.now within)
