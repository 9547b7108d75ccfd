use Rattle.std.proofs.Common.{ℕ, ◌*◌, IsTrue}
use Rattle.nb_base.specs.Stays.{KeepsFile, EndsWithin}
use Rattle.nb_owner.specs.Open.{AreBelow}
use Rattle.nb_owner.proofs.Common.{Only, Changes, Trail, IsFirm, StandsIn, GoesOut, NoScnWaits}
use Rattle.nb_owner.proofs.KeepLaws.{Keeps}
use Rattle.nb_owner.proofs.RankLaws.{waiting_count}
use Rattle.nb_owner.proofs.pair.Pair.flush_pages.Given as goal

abbrev pub invariant-loop-number : goal.invariant-loop-number
invariant-loop-number g l = record {
  keeps : Keeps (g.H.Host.world l.fn.host) (g.H.Host.world l.host) l.fn.self l.self (g.H.Host.faults l.fn.host) (g.H.Host.faults l.host);
  out : (f t : Trail) → IsTrue g.H.Host.tells → GoesOut (g.H.Host.world l.fn.host) l.fn.self f t (IsFirm t) → NoScnWaits t l.fn.self.pages
      → Changes (g.H.Host.world l.fn.host) (g.H.Host.world l.host) (Only l.fn.self.files.name) (StandsIn l.fn.self.files.name t) × GoesOut (g.H.Host.world l.host) l.self f t (IsFirm t) × NoScnWaits t l.self.pages;
  grows : (most : ℕ) → IsTrue g.H.Host.tells → AreBelow most l.fn.self.pages → AreBelow most l.self.pages × KeepsFile (g.H.Host.world l.fn.host) (g.H.Host.world l.host) l.fn.self.files.name (EndsWithin (most * l.fn.self.files.page_size));
}

-- one page less waits each time
abbrev pub decreases-loop-number : goal.decreases-loop-number
decreases-loop-number g l = waiting_count l.self.pages
