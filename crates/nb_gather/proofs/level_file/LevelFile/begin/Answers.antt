use Rattle.std.proofs.Common.{sym, ap, subst}
use Rattle.nb_gather.proofs.Common.{head_of, LevelWriting, IsHeaded, IsMade, IsUnfinished}
use Rattle.nb_gather.proofs.QuietLaws.{renamed}
use Rattle.nb_gather.proofs.HeadLaws.{head_left, head_reads, head_taken}
use Rattle.nb_gather.proofs.TouchLaws.{touches_named, touches_bytes}
use Rattle.nb_gather.proofs.level_file.LevelFile.begin.Goals as goal

pub returns-clause-left : goal.returns-clause-left
returns-clause-left g c tells is made =
    let head = c.write_head.ensures in
    let formed = subst (λ (v : LevelWriting). IsHeaded (head_of v.head)) (sym c.self.view_is) is in
    let empty = subst (λ (v : LevelWriting). IsMade (g.H.Host.world c.args.host.now) v.name) (sym c.self.view_is) made in
    renamed _ _ _ _ IsUnfinished (ap (λ (v : LevelWriting). v.name) c.self.view_is)
    (head_left c.self.inside.head c.self.inside.name _ _ _ tells empty _ (g.met.H.Host.timely _) formed head.files head.log.said head.time)

pub returns-clause-begun : goal.returns-clause-begun
returns-clause-begun g c tells made no_run no_page =
    let empty = subst (λ (v : LevelWriting). IsMade (g.H.Host.world c.args.host.now) v.name) (sym c.self.view_is) made in
    head_taken c.self.inside.head c.self.inside.name _ _ _ tells empty _ c.args.self.now (sym (ap (λ (v : LevelWriting). v.name) c.self.view_is)) (sym (ap (λ (v : LevelWriting). v.head) c.self.view_is)) no_run no_page
    c.write_head.ensures.files

pub returns-clause-touches : goal.returns-clause-touches
returns-clause-touches g c tells =
    let head = c.write_head.ensures in
    touches_named _ _ _ _ (ap (λ (v : LevelWriting). v.name) c.self.view_is) (touches_bytes c.self.inside.name _ _ _ _ _ tells (g.met.H.Host.timely _) head.files head.log.said head.time)

pub returns-clause-reads : goal.returns-clause-reads
returns-clause-reads g c tells is made =
    let formed = subst (λ (v : LevelWriting). IsHeaded (head_of v.head)) (sym c.self.view_is) is in
    let empty = subst (λ (v : LevelWriting). IsMade (g.H.Host.world c.args.host.now) v.name) (sym c.self.view_is) made in
    subst (λ (v : LevelWriting). IsUnfinished ((g.H.Host.world c.write_head.new.host).files v.name)) c.self.view_is (head_reads c.self.inside.head c.self.inside.name _ _ _ tells empty _ formed c.write_head.ensures.files)
