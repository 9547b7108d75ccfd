use Rattle.std.proofs.Common.{◌≡◌, ◌-◌, ◌≤◌}
use Rattle.nb_owner.proofs.Common.{NoneWaits, but_below}
use Rattle.nb_owner.proofs.pair.Pair.forget_behind.Given as goal

-- the pages from this number on are held no longer
abbrev pub invariant-loop-number : goal.invariant-loop-number
invariant-loop-number l = record {
  most : l.number ≤ l.before;
  pages : l.self ≡ record l.fn.self { pages = but_below (l.before - l.number) l.before l.fn.self.pages };
  least : l.before - l.number ≤ l.before - l.count;
  none : NoneWaits l.self.pages;
}

abbrev pub decreases-loop-number : goal.decreases-loop-number
decreases-loop-number l = l.number
