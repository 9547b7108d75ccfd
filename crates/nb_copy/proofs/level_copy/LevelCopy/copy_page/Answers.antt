use Rattle.std.proofs.Common.{◌<◌, List, length, ap, subst, ◌∙◌, arith, sym, Bool, Ok, OnOk}
use Rattle.nb_copy.proofs.Common.{Numbered, LevelWriting, HasTaken, LevelCopying, taken_below, IsUnfinished, Fetched, renamed, quiet_then, quiet_alone, touches_named, touches_then, touches_quiet, taken_quiet}
use Rattle.nb_copy.proofs.LevelLaws.{next_passed, may_next, taken_next}
use Rattle.nb_copy.proofs.level_copy.LevelCopy.copy_page.Goals as goal

pub returns-then-may_be_changed-clause-left : goal.returns-then-may_be_changed-clause-left
returns-then-may_be_changed-clause-left g c t tells open_ stalled of begun =
    let copy = c.args.self.now in
    let frozen = t.base.frozen in
    let fetch = c.in_ok-may_be_changed.ensures in
    let filed = ap (λ (v : LevelCopying). v.file) c.self-2.view_is ∙ ap (λ (v : LevelCopying). v.file) fetch.same in
    let low : copy.next < length frozen = omega (arith, c.requires.below, of.long) in
    let has = subst (λ (f : LevelWriting). HasTaken (g.H.Host.world c.fetch.new.host) f (taken_below copy.next copy frozen)) (sym filed) (taken_quiet _ _ _ _ fetch.quiet begun.has) in
    let read = subst (λ (b : Bool). Fetched (Ok b) copy c.fetch.new.self.page frozen) c.if-may_be_changed.true (fetch.fetched t tells open_ stalled of begun.entries) in
    let page = c.deref.ensures.value ∙ ap (λ (v : LevelCopying). v.page) c.self-2.view_is ∙ read.1 in
    let may = may_next copy frozen of c.self-2.inside.file.head (ap (λ (f : LevelWriting). f.head) filed) copy.next c.self.inside.next (ap (λ (v : LevelCopying). v.next) c.self.view_is) c.deref.result.now low page read.0 in
    renamed _ _ _ _ IsUnfinished (ap (λ (f : LevelWriting). f.name) filed) (quiet_then c.self-2.inside.file.name IsUnfinished _ _ _ fetch.quiet (c.take.ensures.left tells _ has may))

pub returns-then-may_be_changed-clause-copied : goal.returns-then-may_be_changed-clause-copied
returns-then-may_be_changed-clause-copied g c t tells open_ stalled of begun =
    let copy = c.args.self.now in
    let frozen = t.base.frozen in
    let fetch = c.in_ok-may_be_changed.ensures in
    let filed = ap (λ (v : LevelCopying). v.file) c.self-2.view_is ∙ ap (λ (v : LevelCopying). v.file) fetch.same in
    let low : copy.next < length frozen = omega (arith, c.requires.below, of.long) in
    let has = subst (λ (f : LevelWriting). HasTaken (g.H.Host.world c.fetch.new.host) f (taken_below copy.next copy frozen)) (sym filed) (taken_quiet _ _ _ _ fetch.quiet begun.has) in
    let read = subst (λ (b : Bool). Fetched (Ok b) copy c.fetch.new.self.page frozen) c.if-may_be_changed.true (fetch.fetched t tells open_ stalled of begun.entries) in
    let page = c.deref.ensures.value ∙ ap (λ (v : LevelCopying). v.page) c.self-2.view_is ∙ read.1 in
    let next = ap (λ (v : LevelCopying). v.next) c.self.view_is in
    let headed = ap (λ (f : LevelWriting). f.head) filed in
    let may = may_next copy frozen of c.self-2.inside.file.head headed copy.next c.self.inside.next next c.deref.result.now low page read.0 in
    subst (λ (rs : List Numbered). OnOk c.take.result (HasTaken (g.H.Host.world c.take.new.host) c.take.new.self rs))
    (taken_next copy frozen of c.self-2.inside.file.head headed copy.next c.self.inside.next next c.deref.result.now low page read.0) (c.take.ensures.taken tells _ has may)

pub returns-else-may_be_changed-clause-left : goal.returns-else-may_be_changed-clause-left
returns-else-may_be_changed-clause-left g c t tells open_ stalled of begun =
    quiet_alone _ IsUnfinished _ _ c.in_ok-may_be_changed.ensures.quiet

pub returns-else-may_be_changed-clause-copied : goal.returns-else-may_be_changed-clause-copied
returns-else-may_be_changed-clause-copied g c t tells open_ stalled of begun =
    let frozen = t.base.frozen in
    let fetch = c.in_ok-may_be_changed.ensures in
    let next = ap (λ (v : LevelCopying). v.next) c.self.view_is in
    let filed = ap (λ (v : LevelCopying). v.file) c.self-2.view_is ∙ ap (λ (v : LevelCopying). v.file) fetch.same in
    let low : c.args.self.now.next < length frozen = omega (arith, c.requires.below, of.long) in
    let has = subst (λ (f : LevelWriting). HasTaken (g.H.Host.world c.fetch.new.host) f (taken_below c.args.self.now.next c.args.self.now frozen)) (sym filed) (taken_quiet _ _ _ _ fetch.quiet begun.has) in
    let passed = subst (λ (b : Bool). Fetched (Ok b) c.args.self.now c.fetch.new.self.page frozen) c.if-may_be_changed.false (fetch.fetched t tells open_ stalled of begun.entries) in
    subst (λ (rs : List Numbered). HasTaken (g.H.Host.world c.fetch.new.host) c.self-2.inside.file rs) (next_passed c.args.self.now frozen of c.args.self.now.next low passed) has

pub returns-in_err-may_be_changed-clause-touches : goal.returns-in_err-may_be_changed-clause-touches
returns-in_err-may_be_changed-clause-touches g c tells = touches_quiet _ _ _ c.in_err-may_be_changed.ensures.quiet

pub returns-then-may_be_changed-clause-touches : goal.returns-then-may_be_changed-clause-touches
returns-then-may_be_changed-clause-touches g c tells = touches_then _ _ _ _ (touches_quiet _ _ _ c.in_ok-may_be_changed.ensures.quiet) (touches_named _ _ _ _ (ap (λ (v : LevelCopying). v.file.name) c.self-2.view_is ∙ ap (λ (v : LevelCopying). v.file.name) c.in_ok-may_be_changed.ensures.same) (c.take.ensures.touches tells))

pub returns-else-may_be_changed-clause-touches : goal.returns-else-may_be_changed-clause-touches
returns-else-may_be_changed-clause-touches g c tells = touches_quiet _ _ _ c.in_ok-may_be_changed.ensures.quiet

pub returns-in_err-may_be_changed-clause-reads : goal.returns-in_err-may_be_changed-clause-reads
returns-in_err-may_be_changed-clause-reads g c t tells open_ stalled of ready = omega (arith, c.in_err-may_be_changed.ensures.reads t tells open_ stalled of ready)

pub returns-then-may_be_changed-clause-reads : goal.returns-then-may_be_changed-clause-reads
returns-then-may_be_changed-clause-reads g c t tells open_ stalled of ready = omega (arith, c.in_ok-may_be_changed.ensures.reads t tells open_ stalled of ready, c.take.ensures.log.reads)

pub returns-else-may_be_changed-clause-reads : goal.returns-else-may_be_changed-clause-reads
returns-else-may_be_changed-clause-reads g c t tells open_ stalled of ready = omega (arith, c.in_ok-may_be_changed.ensures.reads t tells open_ stalled of ready)
