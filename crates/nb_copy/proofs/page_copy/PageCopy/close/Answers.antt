use Rattle.std.proofs.Common.{ℕ, List, ap, subst, OnOk}
use Rattle.nb_copy.proofs.Common.{joined, Copying, IsFreeOr, IsKept, renamed, sync_then, touches_named, touches_then, touches_still, touches_page}
use Rattle.nb_copy.proofs.CopyLaws.{page_is, close_written, close_kept}
use Rattle.nb_copy.proofs.page_copy.PageCopy.close.Goals as goal

pub returns-in_err-write_page-clause-left : goal.returns-in_err-write_page-clause-left
returns-in_err-write_page-clause-left g c frozen tells of begun all =
    let sync = c.in_ok-sync.ensures in
    let write = c.write_page.ensures in
    let writes = page_is g.H.Host.tells _ _ _ c.self.inside.name _ _ c.deref.ensures.value write.files in
    renamed _ _ _ _ (IsFreeOr (joined frozen)) (ap (λ (v : Copying). v.name) c.self.view_is) (close_written _ _ _ c.self.view_is frozen of begun all c.self.invariant.is_size g.H.Host.tells _ _ _ _ tells (g.met.H.Host.timely _) sync.files sync.log.said sync.time writes write.log.said write.time)

pub returns-clause-left : goal.returns-clause-left
returns-clause-left g c frozen tells of begun all =
    let sync = c.in_ok-sync.ensures in
    let write = c.in_ok-write_page.ensures in
    let writes = page_is g.H.Host.tells _ _ _ c.self.inside.name _ _ c.deref.ensures.value write.files in
    let last = c.sync-2.ensures in
    let written = close_written _ _ _ c.self.view_is frozen of begun all c.self.invariant.is_size g.H.Host.tells _ _ _ _ tells (g.met.H.Host.timely _) sync.files sync.log.said sync.time writes write.log.said write.time in
    renamed _ _ _ _ (IsFreeOr (joined frozen)) (ap (λ (v : Copying). v.name) c.self.view_is) (sync_then _ (IsFreeOr (joined frozen)) g.H.Host.tells _ _ _ _ written last.files last.log.said last.time)

pub returns-clause-done : goal.returns-clause-done
returns-clause-done g c frozen tells of begun all =
    let sync = c.in_ok-sync.ensures in
    let write = c.in_ok-write_page.ensures in
    let writes = page_is g.H.Host.tells _ _ _ c.self.inside.name _ _ c.deref.ensures.value write.files in
    subst (λ (n : List ℕ). OnOk c.sync-2.result (IsKept (g.H.Host.world c.sync-2.new.self) n (joined frozen))) (ap (λ (v : Copying). v.name) c.self.view_is)
    (close_kept _ _ _ c.self.view_is frozen of begun all c.self.invariant.is_size g.H.Host.tells _ _ _ _ _ _ tells sync.files writes c.sync-2.ensures.files)

pub returns-in_err-sync-clause-touches : goal.returns-in_err-sync-clause-touches
returns-in_err-sync-clause-touches g c tells = let sync = c.in_err-sync.ensures in touches_still _ _ _ (g.met.H.Host.timely _) sync.files.still sync.log.said sync.time

pub returns-in_err-write_page-clause-touches : goal.returns-in_err-write_page-clause-touches
returns-in_err-write_page-clause-touches g c tells =
    let sync = c.in_ok-sync.ensures in
    let write = c.in_err-write_page.ensures in
    touches_named _ _ _ _ (ap (λ (v : Copying). v.name) c.self.view_is)
    (touches_then c.self.inside.name _ _ _ (touches_still _ _ _ (g.met.H.Host.timely _) sync.files.still sync.log.said sync.time) (touches_page _ _ _ _ _ _ _ tells (g.met.H.Host.timely _) write.files write.log.said write.time))

pub returns-clause-touches : goal.returns-clause-touches
returns-clause-touches g c tells =
    let sync = c.in_ok-sync.ensures in
    let write = c.in_ok-write_page.ensures in
    let last = c.sync-2.ensures in
    touches_named _ _ _ _ (ap (λ (v : Copying). v.name) c.self.view_is)
    (touches_then c.self.inside.name _ _ _ (touches_still _ _ _ (g.met.H.Host.timely _) sync.files.still sync.log.said sync.time)
    (touches_then _ _ _ _ (touches_page _ _ _ _ _ _ _ tells (g.met.H.Host.timely _) write.files write.log.said write.time) (touches_still _ _ _ (g.met.H.Host.timely _) last.files.still last.log.said last.time)))
