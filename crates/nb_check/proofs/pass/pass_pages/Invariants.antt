use Rattle.std.proofs.Common.{◌≡◌, ◌+◌, ◌-◌, ◌<◌, ◌≤◌, length, IsTrue, min}
use Rattle.nb_check.proofs.Common.{Trail, IsOpen, IsFirstBelow, HoldsTaken, AreSized, IsMapOf, HasEntryOf, Looks}
use Rattle.nb_check.proofs.pass.pass_pages.Given as goal

-- the pages so far are passed
abbrev pub invariant-loop-number : goal.invariant-loop-number
invariant-loop-number g l = record {
  looks : Looks g.H.Host.tells (g.H.Host.world l.fn.host) (g.H.Host.world l.host) l.fn.engine l.engine;
  broken : (t : Trail) → IsTrue g.H.Host.tells → IsOpen (g.H.Host.world l.fn.host) l.fn.engine t → HasEntryOf t.base.image 0 l.fn.entries → IsFirstBelow t.base.image 0 l.fn.found.broken → IsFirstBelow t.base.image l.number l.found.broken;
  taken : (t : Trail) → IsTrue g.H.Host.tells → IsOpen (g.H.Host.world l.fn.host) l.fn.engine t → IsMapOf t.base.image 0 l.fn.map → 1 < length t.base.image → HoldsTaken t.base.image 0 l.fn.found.taken → HoldsTaken t.base.image l.number l.found.taken;
  map : (t : Trail) → IsTrue g.H.Host.tells → IsOpen (g.H.Host.world l.fn.host) l.fn.engine t → IsMapOf t.base.image 0 l.fn.map → IsMapOf t.base.image l.number l.map;
  entries : (t : Trail) → IsTrue g.H.Host.tells → IsOpen (g.H.Host.world l.fn.host) l.fn.engine t → HasEntryOf t.base.image 0 l.fn.entries → HasEntryOf t.base.image (l.number - 1) l.entries;
  sizes : (t : Trail) → IsTrue g.H.Host.tells → IsOpen (g.H.Host.world l.fn.host) l.fn.engine t → AreSized t.base.image l.number (length l.fn.page);
  room : length l.found.taken ≡ length l.fn.found.taken;
  sized : length l.page ≡ length l.fn.page;
  map_sized : length l.map ≡ length l.fn.map;
  entries_sized : length l.entries ≡ length l.fn.entries;
  once : IsTrue g.H.Host.tells → (g.H.Host.world l.host).reads ≤ (g.H.Host.world l.fn.host).reads + l.number + min l.number 1;
  cause : g.H.Host.faults l.host ≡ g.H.Host.faults l.fn.host;
}
