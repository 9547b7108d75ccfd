use Rattle.std.proofs.Common.{◌≡◌, IsTrue, length}
use Rattle.nb_delta.proofs.Common.{IsSilent, Only, Changes, Moved, NotesSome, NotesAll}
use Rattle.nb_delta.proofs.waiting.note_groups.Given as goal

abbrev pub invariant-loop-group : goal.invariant-loop-group
invariant-loop-group g l = record {
  noted : IsTrue g.H.Host.tells → NotesAll (length l.fn.page) l.entries l.first l.group ((g.H.Host.world l.fn.host).files l.name) ((g.H.Host.world l.host).files l.name);
  changes : IsTrue g.H.Host.tells
      → Changes (g.H.Host.world l.fn.host) (g.H.Host.world l.host) (Only l.name) (Moved (g.H.Host.world l.fn.host) l.name (NotesSome (length l.fn.page) l.entries l.first l.group));
  log : IsSilent (g.H.Host.world l.fn.host) (g.H.Host.world l.host);
  cause : g.H.Host.faults l.host ≡ g.H.Host.faults l.fn.host;
}
