use Rattle.std.proofs.Common.{◌≡◌, inl, length, ap, arith}
use Rattle.nb_copy.proofs.Common.{remade_weaker, LevelCopying, whole_level, IsUnfinished, IsUnfinishedOr, touches_named}
use Rattle.nb_copy.proofs.LevelLaws.{level_next, level_left, level_kept}
use Rattle.nb_copy.proofs.ReadLaws.{reads_first}
use Rattle.nb_copy.proofs.level_copy.LevelCopy.turn.Goals as goal

pub returns-in_err-close-clause-left : goal.returns-in_err-close-clause-left
returns-in_err-close-clause-left g c t tells open_ stalled copying =
    let copy = c.args.self.now in
    let all : copy.next ≡ length t.base.frozen = omega (arith, c.if-self.true, ap (λ (v : LevelCopying). v.next) c.self.view_is, ap (λ (v : LevelCopying). v.count) c.self.view_is, copying.of.long) in
    level_left _ copy t.base.frozen copying all c.self.inside.file (ap (λ (v : LevelCopying). v.file) c.self.view_is) _ (c.close.ensures.left tells)

pub returns-then-self-clause-left : goal.returns-then-self-clause-left
returns-then-self-clause-left g c t tells open_ stalled copying =
    let copy = c.args.self.now in
    let all : copy.next ≡ length t.base.frozen = omega (arith, c.if-self.true, ap (λ (v : LevelCopying). v.next) c.self.view_is, ap (λ (v : LevelCopying). v.count) c.self.view_is, copying.of.long) in
    level_left _ copy t.base.frozen copying all c.self.inside.file (ap (λ (v : LevelCopying). v.file) c.self.view_is) _ (c.close.ensures.left tells)

pub returns-then-self-clause-answer : goal.returns-then-self-clause-answer
returns-then-self-clause-answer g c t tells open_ stalled copying =
    let copy = c.args.self.now in
    let all : copy.next ≡ length t.base.frozen = omega (arith, c.if-self.true, ap (λ (v : LevelCopying). v.next) c.self.view_is, ap (λ (v : LevelCopying). v.count) c.self.view_is, copying.of.long) in
    level_kept _ copy t.base.frozen copying all c.self.inside.file (ap (λ (v : LevelCopying). v.file) c.self.view_is) _ (c.in_ok-close.ensures.done tells)

pub returns-in_err-copy_page-clause-left : goal.returns-in_err-copy_page-clause-left
returns-in_err-copy_page-clause-left g c t tells open_ stalled copying =
    let begun = copying.begun (omega (arith, c.if-self-eq0.false, ap (λ (v : LevelCopying). v.next) c.self.view_is)) in
    remade_weaker _ _ _ _ IsUnfinished (IsUnfinishedOr (whole_level c.args.self.now t.base.frozen)) (c.copy_page.ensures.left t tells open_ stalled copying.of begun) (λ f is. inl is)

pub returns-in_ok-copy_page-clause-left : goal.returns-in_ok-copy_page-clause-left
returns-in_ok-copy_page-clause-left g c t tells open_ stalled copying =
    let begun = copying.begun (omega (arith, c.if-self-eq0.false, ap (λ (v : LevelCopying). v.next) c.self.view_is)) in
    remade_weaker _ _ _ _ IsUnfinished (IsUnfinishedOr (whole_level c.args.self.now t.base.frozen)) (c.copy_page.ensures.left t tells open_ stalled copying.of begun) (λ f is. inl is)

pub returns-in_ok-copy_page-clause-answer : goal.returns-in_ok-copy_page-clause-answer
returns-in_ok-copy_page-clause-answer g c t tells open_ stalled copying =
    let begun = copying.begun (omega (arith, c.if-self-eq0.false, ap (λ (v : LevelCopying). v.next) c.self.view_is)) in
    let done = c.in_ok-copy_page.ensures in
    level_next _ c.args.self.now c.copy_page.new.self t.base.frozen copying.of done.same (done.copied t tells open_ stalled copying.of begun) (done.entries t tells open_ stalled copying.of begun.entries)

pub returns-in_err-close-clause-touches : goal.returns-in_err-close-clause-touches
returns-in_err-close-clause-touches g c tells = touches_named _ _ _ _ (ap (λ (v : LevelCopying). v.file.name) c.self.view_is) (c.in_err-close.ensures.touches tells)

pub returns-then-self-clause-touches : goal.returns-then-self-clause-touches
returns-then-self-clause-touches g c tells = touches_named _ _ _ _ (ap (λ (v : LevelCopying). v.file.name) c.self.view_is) (c.in_ok-close.ensures.touches tells)

pub returns-in_err-begin-clause-reads : goal.returns-in_err-begin-clause-reads
returns-in_err-begin-clause-reads g c t tells open_ stalled copying =
    let copy = c.args.self.now in
    let zero : copy.next ≡ 0 = omega (arith, c.if-self-eq0.true, ap (λ (v : LevelCopying). v.next) c.self.view_is) in
    omega (arith, c.begin.ensures.once tells, reads_first t.base.frozen copy.file.head.previous_scn copy.next zero)

pub returns-in_err-copy_page-clause-reads : goal.returns-in_err-copy_page-clause-reads
returns-in_err-copy_page-clause-reads g c t tells open_ stalled copying =
    let begun = copying.begun (omega (arith, c.if-self-eq0.false, ap (λ (v : LevelCopying). v.next) c.self.view_is)) in
    c.copy_page.ensures.reads t tells open_ stalled copying.of begun.entries

pub returns-in_ok-begin-clause-reads : goal.returns-in_ok-begin-clause-reads
returns-in_ok-begin-clause-reads g c t tells open_ stalled copying =
    let copy = c.args.self.now in
    let zero : copy.next ≡ 0 = omega (arith, c.if-self-eq0.true, ap (λ (v : LevelCopying). v.next) c.self.view_is) in
    omega (arith, c.begin.ensures.once tells, reads_first t.base.frozen copy.file.head.previous_scn copy.next zero)

pub returns-in_ok-copy_page-clause-reads : goal.returns-in_ok-copy_page-clause-reads
returns-in_ok-copy_page-clause-reads g c t tells open_ stalled copying =
    let begun = copying.begun (omega (arith, c.if-self-eq0.false, ap (λ (v : LevelCopying). v.next) c.self.view_is)) in
    c.copy_page.ensures.reads t tells open_ stalled copying.of begun.entries
