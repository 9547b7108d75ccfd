use Rattle.std.proofs.Common.{◌≡◌, ◌+◌, ◌≤◌, arith, inl, inr, ⊎_elim, sym, subst, ap}
use Rattle.nb_copy.proofs.Common.{Changes, Only, Remade, remade_weaker, FileCopy, IsFileCopying, file_name, file_next, whole_file, earlier_scn, page_reads, IsFreeOr, IsUnfinishedOr, joined}
use Rattle.nb_copy.proofs.file_copy.FileCopy.turn.Goals as goal

pub returns-in-Pages-clause-left : goal.returns-in-Pages-clause-left
returns-in-Pages-clause-left g c t tells is stalled copying =
    let old = g.H.Host.world c.args.host.now in
    let new = g.H.Host.world c.turn.new.host in
    subst (λ (f : FileCopy). Changes old new (Only (file_name f)) (Remade old (file_name f) (IsUnfinishedOr (whole_file f t.base.frozen)))) (sym c.in-Pages.is)
    (remade_weaker old new (Only c.in-Pages.copy.name) c.in-Pages.copy.name (IsFreeOr (joined t.base.frozen)) (IsUnfinishedOr (joined t.base.frozen))
    (c.turn.ensures.left t tells is stalled (subst (λ (f : FileCopy). IsFileCopying old f t.base.frozen) c.in-Pages.is copying)) (λ file. ⊎_elim (λ free. inl (inl free)) inr))

pub returns-in-Pages-clause-reads : goal.returns-in-Pages-clause-reads
returns-in-Pages-clause-reads g c t tells is stalled copying =
    let one : page_reads (earlier_scn c.args.self.now) t.base.frozen (file_next c.args.self.now) ≡ 1 = ap (λ (f : FileCopy). page_reads (earlier_scn f) t.base.frozen (file_next f)) c.in-Pages.is in
    omega (arith, one, c.turn.ensures.once tells)

pub returns-in-Level-clause-reads : goal.returns-in-Level-clause-reads
returns-in-Level-clause-reads g c t tells is stalled copying =
    let old = g.H.Host.world c.args.host.now in
    let new = g.H.Host.world c.turn-in-Level.new.host in
    subst (λ (f : FileCopy). new.reads ≤ old.reads + page_reads (earlier_scn f) t.base.frozen (file_next f)) (sym c.in-Level.is)
    (c.turn-in-Level.ensures.reads t tells is stalled (subst (λ (f : FileCopy). IsFileCopying old f t.base.frozen) c.in-Level.is copying))
