use Rattle.std.proofs.Common.{inl, ℕ, List, sym, ap, subst, ◌∙◌, OnOk}
use Rattle.nb_gather.proofs.Common.{File, Files, head_of, level_bytes, LevelWriting, IsUnfinishedOr, IsKept}
use Rattle.nb_gather.proofs.QuietLaws.{renamed, sync_then, sync_kept}
use Rattle.nb_gather.proofs.CloseLaws.{more_than, front_reads, synced_left, ended_left, ended_or, ended_reads}
use Rattle.nb_gather.proofs.TouchLaws.{touches_named, touches_then, touches_still, touches_bytes}
use Rattle.nb_gather.proofs.level_file.LevelFile.close.Goals as goal

pub returns-in_err-sync-clause-left : goal.returns-in_err-sync-clause-left
returns-in_err-sync-clause-left g c tells rs has may =
    let named = ap (λ (v : LevelWriting). v.name) (c.self.view_is ∙ c.in_ok-finish.ensures.same) in
    let sync = c.sync.ensures in
    let whole_or : File → Type 0 = IsUnfinishedOr (level_bytes 102 (head_of c.args.self.now.head) rs) in
    renamed _ _ _ _ whole_or named (synced_left _ c.self.inside.name named c.args.self.now.head rs may g.H.Host.tells _ _ _ _ (c.in_ok-finish.ensures.left tells rs has may) sync.files sync.log.said sync.time)

pub returns-in_err-write_end-clause-left : goal.returns-in_err-write_end-clause-left
returns-in_err-write_end-clause-left g c tells rs has may =
    let named = ap (λ (v : LevelWriting). v.name) (c.self.view_is ∙ c.in_ok-finish.ensures.same) in
    let counted = ap (λ (v : LevelWriting). v.written) (c.self.view_is ∙ c.in_ok-finish.ensures.same) ∙ has.counted in
    let sync = c.in_ok-sync.ensures in
    let end = c.write_end.ensures in
    let whole_or : File → Type 0 = IsUnfinishedOr (level_bytes 102 (head_of c.args.self.now.head) rs) in
    renamed _ _ _ _ whole_or named (ended_left _ c.self.inside.name named c.args.self.now.head rs may g.H.Host.tells _ _ _ _ _ tells (c.in_ok-finish.ensures.finished tells rs has may) sync.files c.self.inside.written counted _ (c.in_ok-finish.ensures.left tells rs has may) sync.log.said sync.time end.files end.log.said end.time)

pub returns-clause-left : goal.returns-clause-left
returns-clause-left g c tells rs has may =
    let named = ap (λ (v : LevelWriting). v.name) (c.self.view_is ∙ c.in_ok-finish.ensures.same) in
    let counted = ap (λ (v : LevelWriting). v.written) (c.self.view_is ∙ c.in_ok-finish.ensures.same) ∙ has.counted in
    let sync = c.in_ok-sync.ensures in
    let end = c.in_ok-write_end.ensures in
    let last = c.sync-2.ensures in
    let written = ended_left _ c.self.inside.name named c.args.self.now.head rs may g.H.Host.tells _ _ _ _ _ tells (c.in_ok-finish.ensures.finished tells rs has may) sync.files c.self.inside.written counted _ (c.in_ok-finish.ensures.left tells rs has may) sync.log.said sync.time end.files end.log.said end.time in
    let whole_or : File → Type 0 = IsUnfinishedOr (level_bytes 102 (head_of c.args.self.now.head) rs) in
    renamed _ _ _ _ whole_or named (sync_then c.self.inside.name whole_or g.H.Host.tells _ _ _ _ written last.files last.log.said last.time)

pub returns-clause-done : goal.returns-clause-done
returns-clause-done g c tells rs has may =
    let named = ap (λ (v : LevelWriting). v.name) (c.self.view_is ∙ c.in_ok-finish.ensures.same) in
    let counted = ap (λ (v : LevelWriting). v.written) (c.self.view_is ∙ c.in_ok-finish.ensures.same) ∙ has.counted in
    let sync = c.in_ok-sync.ensures in
    let whole : List ℕ = level_bytes 102 (head_of c.args.self.now.head) rs in
    let there = ended_reads _ c.self.inside.name named c.args.self.now.head rs may g.H.Host.tells _ (g.H.Host.world c.args.host.now) _ _ _ tells (c.in_ok-finish.ensures.finished tells rs has may) sync.files c.self.inside.written counted _ c.in_ok-write_end.ensures.files in
    subst (λ (n : List ℕ). OnOk c.sync-2.result (IsKept (g.H.Host.world c.sync-2.new.self) n whole)) named (sync_kept g.H.Host.tells _ _ _ c.self.inside.name whole tells there c.sync-2.ensures.files)

pub returns-in_err-sync-clause-touches : goal.returns-in_err-sync-clause-touches
returns-in_err-sync-clause-touches g c tells = let sync = c.in_err-sync.ensures in touches_then _ _ _ _ (c.in_ok-finish.ensures.touches tells) (touches_still _ _ _ (g.met.H.Host.timely _) sync.files.still sync.log.said sync.time)

pub returns-in_err-write_end-clause-touches : goal.returns-in_err-write_end-clause-touches
returns-in_err-write_end-clause-touches g c tells =
    let named = ap (λ (v : LevelWriting). v.name) c.self.view_is ∙ ap (λ (v : LevelWriting). v.name) c.in_ok-finish.ensures.same in
    let sync = c.in_ok-sync.ensures in
    let end = c.in_err-write_end.ensures in
    touches_then _ _ _ _ (c.in_ok-finish.ensures.touches tells)
    (touches_then _ _ _ _ (touches_still _ _ _ (g.met.H.Host.timely _) sync.files.still sync.log.said sync.time) (touches_named _ _ _ _ named (touches_bytes _ _ _ _ _ _ tells (g.met.H.Host.timely _) end.files end.log.said end.time)))

pub returns-clause-touches : goal.returns-clause-touches
returns-clause-touches g c tells =
    let named = ap (λ (v : LevelWriting). v.name) c.self.view_is ∙ ap (λ (v : LevelWriting). v.name) c.in_ok-finish.ensures.same in
    let sync = c.in_ok-sync.ensures in
    let end = c.in_ok-write_end.ensures in
    let last = c.sync-2.ensures in
    touches_then _ _ _ _ (c.in_ok-finish.ensures.touches tells)
    (touches_then _ _ _ _ (touches_still _ _ _ (g.met.H.Host.timely _) sync.files.still sync.log.said sync.time)
    (touches_then _ _ _ _ (touches_named _ _ _ _ named (touches_bytes _ _ _ _ _ _ tells (g.met.H.Host.timely _) end.files end.log.said end.time)) (touches_still _ _ _ (g.met.H.Host.timely _) last.files.still last.log.said last.time)))

pub returns-in_err-finish-clause-reads : goal.returns-in_err-finish-clause-reads
returns-in_err-finish-clause-reads g c tells rs has may = inl (c.in_err-finish.ensures.reads tells rs has may)

pub returns-in_err-sync-clause-reads : goal.returns-in_err-sync-clause-reads
returns-in_err-sync-clause-reads g c tells rs has may =
    let head = c.args.self.now.head in
    let same = ap (λ (f : Files). f c.args.self.now.name) c.in_err-sync.ensures.files.still.files in
    subst (IsUnfinishedOr (level_bytes 102 (head_of head) rs)) (sym same) (inl (front_reads c.args.self.now.name head rs may _ (c.in_ok-finish.ensures.finished tells rs has may)))

pub returns-in_err-write_end-clause-reads : goal.returns-in_err-write_end-clause-reads
returns-in_err-write_end-clause-reads g c tells rs has may =
    let named = ap (λ (v : LevelWriting). v.name) (c.self.view_is ∙ c.in_ok-finish.ensures.same) in
    let counted = ap (λ (v : LevelWriting). v.written) (c.self.view_is ∙ c.in_ok-finish.ensures.same) ∙ has.counted in
    let sync = c.in_ok-sync.ensures in
    subst (λ (n : List ℕ). IsUnfinishedOr (level_bytes 102 (head_of c.args.self.now.head) rs) ((g.H.Host.world c.write_end.new.host).files n)) named
    (ended_or _ c.self.inside.name named c.args.self.now.head rs may g.H.Host.tells _ (g.H.Host.world c.args.host.now) _ _ _ tells (c.in_ok-finish.ensures.finished tells rs has may) sync.files c.self.inside.written counted _ c.write_end.ensures.files)

pub returns-clause-reads : goal.returns-clause-reads
returns-clause-reads g c tells rs has may =
    let named = ap (λ (v : LevelWriting). v.name) (c.self.view_is ∙ c.in_ok-finish.ensures.same) in
    let counted = ap (λ (v : LevelWriting). v.written) (c.self.view_is ∙ c.in_ok-finish.ensures.same) ∙ has.counted in
    let sync = c.in_ok-sync.ensures in
    let whole_or : File → Type 0 = IsUnfinishedOr (level_bytes 102 (head_of c.args.self.now.head) rs) in
    let there = ended_or _ c.self.inside.name named c.args.self.now.head rs may g.H.Host.tells _ (g.H.Host.world c.args.host.now) _ _ _ tells (c.in_ok-finish.ensures.finished tells rs has may) sync.files c.self.inside.written counted _ c.in_ok-write_end.ensures.files in
    subst (λ (n : List ℕ). whole_or ((g.H.Host.world c.sync-2.new.self).files n)) named (subst whole_or (sym (ap (λ (f : Files). f c.self.inside.name) c.sync-2.ensures.files.still.files)) there)

pub returns-in_err-finish-clause-left : goal.returns-in_err-finish-clause-left
returns-in_err-finish-clause-left g c tells rs has may = more_than c.args.self.now.name c.args.self.now.head rs may _ _ (c.in_err-finish.ensures.left tells rs has may)
