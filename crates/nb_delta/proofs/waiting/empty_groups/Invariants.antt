use Rattle.std.proofs.Common.{◌≡◌, ℕ, ◌+◌, ◌*◌, ◌<◌, IsTrue, length}
use Rattle.nb_delta.proofs.Common.{IsSilent, slots_in, Only, Changes, Moved, Stays, Empties}
use Rattle.nb_delta.proofs.waiting.empty_groups.Given as goal

abbrev pub invariant-loop-group : goal.invariant-loop-group
invariant-loop-group g l = record {
  emptied : IsTrue g.H.Host.tells → Empties (length l.zeros) l.first l.group ((g.H.Host.world l.fn.host).files l.name) ((g.H.Host.world l.host).files l.name);
  changes : IsTrue g.H.Host.tells → (n : ℕ) → n < (l.first + 1) * slots_in (length l.zeros)
      → Changes (g.H.Host.world l.fn.host) (g.H.Host.world l.host) (Only l.name) (Moved (g.H.Host.world l.fn.host) l.name (Stays (length l.zeros) n));
  log : IsSilent (g.H.Host.world l.fn.host) (g.H.Host.world l.host);
  cause : g.H.Host.faults l.host ≡ g.H.Host.faults l.fn.host;
}
