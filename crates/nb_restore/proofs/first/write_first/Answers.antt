use Rattle.std.proofs.Common.{ℕ, ◌*◌, inl, inr, ⊎_elim, List, length, ap, ◌∙◌}
use Rattle.nb_restore.proofs.Common.{File, Files, with_page, World, PageLeft, with_file-named}
use Rattle.nb_restore.proofs.FrontLaws.{page_read}
use Rattle.nb_restore.proofs.TargetLaws.{sync_first, page_last, sync_more, sync_kept}
use Rattle.nb_restore.proofs.first.write_first.Goals as goal

-- what a write of page 0 leaves
abbrev kept : (page : List ℕ) (w : World) (name : List ℕ) → File → Type 0
kept page w name = PageLeft (0 * length page) page (w.files name)

pub returns-in_err-sync-clause-left : goal.returns-in_err-sync-clause-left
returns-in_err-sync-clause-left g c tells = let sync = c.sync.ensures in sync_first _ _ _ _ _ (kept c.args.page.now (g.H.Host.world c.args.host.now) c.args.name.now) (g.met.H.Host.timely _) sync.files sync.log.said sync.time

pub returns-in_err-sync-clause-now : goal.returns-in_err-sync-clause-now
returns-in_err-sync-clause-now g c tells = inl (ap (λ (f : Files). f c.args.name.now) c.sync.ensures.files.still.files)

pub returns-in_err-write_page-clause-left : goal.returns-in_err-write_page-clause-left
returns-in_err-write_page-clause-left g c tells =
    let sync = c.in_ok-sync.ensures in
    let write = c.write_page.ensures in
    page_last _ _ _ _ _ _ _ _ tells (sync_first _ _ _ _ _ (kept c.args.page.now (g.H.Host.world c.args.host.now) c.args.name.now) (g.met.H.Host.timely _) sync.files sync.log.said sync.time) (sync.files.durable tells) write.files write.log.said write.time

pub returns-in_err-write_page-clause-now : goal.returns-in_err-write_page-clause-now
returns-in_err-write_page-clause-now g c tells =
    let same = ap (λ (f : Files). f c.args.name.now) c.in_ok-sync.ensures.files.still.files in
    ⊎_elim (λ before. inl (before ∙ same)) (λ put. inr (put ∙ ap (λ (f : File). with_page f (0 * length c.args.page.now) c.args.page.now) same)) (page_read _ _ _ _ _ _ _ tells c.write_page.ensures.files)

pub returns-clause-left : goal.returns-clause-left
returns-clause-left g c tells =
    let sync = c.in_ok-sync.ensures in
    let write = c.in_ok-write_page.ensures in
    let last = c.sync-2.ensures in
    let written = page_last _ _ _ _ _ _ _ _ tells (sync_first _ _ _ _ _ (kept c.args.page.now (g.H.Host.world c.args.host.now) c.args.name.now) (g.met.H.Host.timely _) sync.files sync.log.said sync.time) (sync.files.durable tells) write.files write.log.said write.time in
    sync_more _ _ _ (kept c.args.page.now (g.H.Host.world c.args.host.now) c.args.name.now) _ _ _ written last.files last.log.said last.time

pub returns-clause-now : goal.returns-clause-now
returns-clause-now g c tells =
    let synced = ap (λ (f : Files). f c.args.name.now) c.in_ok-sync.ensures.files.still.files in
    let last = ap (λ (f : Files). f c.args.name.now) c.sync-2.ensures.files.still.files in
    inr (last ∙ with_file-named _ _ c.args.name.now _ (c.in_ok-write_page.ensures.files.files tells) ∙ ap (λ (f : File). with_page f (0 * length c.args.page.now) c.args.page.now) synced)

pub returns-clause-done : goal.returns-clause-done
returns-clause-done g c tells =
    let sync = c.in_ok-sync.ensures in
    let write = c.in_ok-write_page.ensures in
    sync_kept _ _ _ _ _ _ tells (with_file-named _ _ c.args.name.now _ (write.files.files tells) ∙ ap (λ (f : Files). with_page (f c.args.name.now) (0 * length c.args.page.now) c.args.page.now) sync.files.still.files) c.sync-2.ensures.files
