use Rattle.std.proofs.Common.{ℕ, ◌*◌, List, length, refl, sym, ap, subst, Bool, OnOk}
use Rattle.nb_inplace.proofs.Common.{File, World, PageLeft, Only, remade_begun, IsKept, begun_file, with_file-named}
use Rattle.nb_restore.proofs.TargetLaws.{page_last, sync_more, sync_kept}
use Rattle.nb_inplace.proofs.merging.begin.Goals as goal

-- what a write of page 0 leaves
abbrev kept : (page : List ℕ) (w : World) (name : List ℕ) → File → Type 0
kept page w name = PageLeft (0 * length page) page (w.files name)

pub returns-then-is_begun-clause-left : goal.returns-then-is_begun-clause-left
returns-then-is_begun-clause-left g c tells durable = remade_begun _ (Only c.args.standby.now) c.args.standby.now (kept c.args.first.now (g.H.Host.world c.args.host.now) c.args.standby.now) (g.met.H.Host.timely _)

pub returns-then-is_begun-clause-done : goal.returns-then-is_begun-clause-done
returns-then-is_begun-clause-done g c tells durable =
    let w : World = g.H.Host.world c.args.host.now in
    let name = c.args.standby.now in
    subst (λ (f : File). IsKept w name f) (sym (ap (λ (t : Bool). begun_file t (w.files name) c.args.first.now) c.if-is_begun.true)) (record { durable = durable; reads = refl })

pub returns-in_err-write_page-clause-left : goal.returns-in_err-write_page-clause-left
returns-in_err-write_page-clause-left g c tells durable =
    let write = c.write_page.ensures in
    page_last _ _ _ _ _ _ _ _ tells (remade_begun _ (Only c.args.standby.now) c.args.standby.now (kept c.args.first.now (g.H.Host.world c.args.host.now) c.args.standby.now) (g.met.H.Host.timely _)) durable write.files write.log.said write.time

pub returns-clause-left : goal.returns-clause-left
returns-clause-left g c tells durable =
    let write = c.in_ok-write_page.ensures in
    let last = c.sync.ensures in
    let written = page_last _ _ _ _ _ _ _ _ tells (remade_begun _ (Only c.args.standby.now) c.args.standby.now (kept c.args.first.now (g.H.Host.world c.args.host.now) c.args.standby.now) (g.met.H.Host.timely _)) durable write.files write.log.said write.time in
    sync_more _ _ _ (kept c.args.first.now (g.H.Host.world c.args.host.now) c.args.standby.now) _ _ _ written last.files last.log.said last.time

pub returns-clause-done : goal.returns-clause-done
returns-clause-done g c tells durable =
    let w : World = g.H.Host.world c.args.host.now in
    let name = c.args.standby.now in
    subst (λ (f : File). OnOk c.sync.result (IsKept (g.H.Host.world c.sync.new.self) name f)) (sym (ap (λ (t : Bool). begun_file t (w.files name) c.args.first.now) c.if-is_begun.false))
    (sync_kept _ _ _ _ _ _ tells (with_file-named _ _ name _ (c.in_ok-write_page.ensures.files.files tells)) c.sync.ensures.files)
