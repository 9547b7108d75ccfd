use Rattle.std.proofs.Common.{◌≡◌, ◌-◌}
use Rattle.nb_ended.specs.Shown.{line_after}
use Rattle.nb_ended.proofs.broken.line_after.Given as goal

abbrev pub invariant-loop-passed : goal.invariant-loop-passed
invariant-loop-passed l = line_after (l.count - l._passed) l.rest ≡ line_after l.count l.fn.bytes
