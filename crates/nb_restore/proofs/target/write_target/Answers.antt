use Rattle.std.proofs.Common.{inl, inr, ⊎_elim, length, refl, arith}
use Rattle.nb_restore.proofs.Common.{reads_has, IsDone, OverwritesAll, KeepsWhole, restored, passed}
use Rattle.nb_restore.proofs.FrontLaws.{front_joined}
use Rattle.nb_restore.proofs.LevelLaws.{fails_alike}
use Rattle.nb_restore.proofs.WholeLaws.{part_since, since_left, level_0_there, readers_ready, written_by, all_since, all_kept}
use Rattle.nb_restore.proofs.target.write_target.Goals as goal

pub returns-in_err-begin-clause-reads : goal.returns-in_err-begin-clause-reads
returns-in_err-begin-clause-reads g c tells ps links plan = ⊎_elim inl (λ free. inr (inl free)) (c.begin.ensures.reads tells plan.stands)

pub returns-in_err-copy_pages-clause-left : goal.returns-in_err-copy_pages-clause-left
returns-in_err-copy_pages-clause-left g c tells ps links plan =
    let begin = c.in_ok-begin.ensures in
    since_left _ _ _ c.args.target.now (restored ps links) (begin.left tells plan.stands) (part_since _ _ _ _ _ _ _ _ _ _ plan c.requires.size (begin.left tells) (begin.begun tells) _ (c.copy_pages.ensures.left tells))

pub returns-in_err-copy_pages-clause-reads : goal.returns-in_err-copy_pages-clause-reads
returns-in_err-copy_pages-clause-reads g c tells ps links plan =
    inr (reads_has _ _ _ _ (part_since _ _ _ _ _ _ _ _ _ _ plan c.requires.size (c.in_ok-begin.ensures.left tells) (c.in_ok-begin.ensures.begun tells) _ (c.copy_pages.ensures.left tells)) (g.met.H.Host.reads_left _ tells))

pub returns-in_err-copy_pages-clause-done : goal.returns-in_err-copy_pages-clause-done
returns-in_err-copy_pages-clause-done g c tells ps links plan =
    let begin = c.in_ok-begin.ensures in
    passed _ (λ r. IsDone r (KeepsWhole (g.H.Host.world c.copy_pages.new.host) c.args.target.now (restored ps links))) c.from_residual-in_err-copy_pages.result c.in_err-copy_pages.field-0.0 c.from_residual-in_err-copy_pages.ensures
    (fails_alike (Unit {0}) (Unit {0}) c.in_err-copy_pages.field-0.0 _ _
    (c.in_err-copy_pages.ensures.pages tells ps c.args.page.now plan.whole.apart
    (level_0_there _ _ _ _ _ _ _ _ ps links plan c.requires.size (begin.left tells) (begin.begun tells)) plan.whole.sizes plan.whole.long (begin.begun tells).reads))

pub returns-in_err-write_levels-clause-left : goal.returns-in_err-write_levels-clause-left
returns-in_err-write_levels-clause-left g c tells ps links plan =
    let begin = c.in_ok-begin.ensures in
    since_left _ _ _ c.args.target.now (restored ps links) (begin.left tells plan.stands) (part_since _ _ _ _ _ _ _ _ _ _ plan c.requires.size (begin.left tells) (begin.begun tells) _ (front_joined _ _ _ _ (c.copy_pages.ensures.left tells) (c.write_levels.ensures.left tells)))

pub returns-in_err-write_levels-clause-reads : goal.returns-in_err-write_levels-clause-reads
returns-in_err-write_levels-clause-reads g c tells ps links plan =
    inr (reads_has _ _ _ _ (part_since _ _ _ _ _ _ _ _ _ _ plan c.requires.size (c.in_ok-begin.ensures.left tells) (c.in_ok-begin.ensures.begun tells) _ (front_joined _ _ _ _ (c.copy_pages.ensures.left tells) (c.write_levels.ensures.left tells))) (g.met.H.Host.reads_left _ tells))

pub returns-in_err-write_levels-clause-done : goal.returns-in_err-write_levels-clause-done
returns-in_err-write_levels-clause-done g c tells ps links plan =
    passed _ (λ r. IsDone r (KeepsWhole (g.H.Host.world c.write_levels.new.host) c.args.target.now (restored ps links))) c.from_residual-in_err-write_levels.result c.in_err-write_levels.field-0.0 c.from_residual-in_err-write_levels.ensures
    (fails_alike (Unit {0}) (Unit {0}) c.in_err-write_levels.field-0.0
    (OverwritesAll (length c.args.page.now) links ((g.H.Host.world c.copy_pages.new.host).files c.args.target.now) ((g.H.Host.world c.write_levels.new.host).files c.args.target.now) c.args.first.now c.write_levels.new.first) _
    (c.in_err-write_levels.ensures.pages tells links
    (readers_ready _ _ _ _ _ _ _ _ ps _ plan c.requires.size (c.in_ok-begin.ensures.left tells) (c.in_ok-begin.ensures.begun tells) _ _ refl (c.copy_pages.ensures.left tells))))

pub returns-in_err-write_first-clause-left : goal.returns-in_err-write_first-clause-left
returns-in_err-write_first-clause-left g c tells ps links plan =
    let begin = c.in_ok-begin.ensures in
    let written = written_by _ _ _ _ _ _ _ _ _ _ plan c.requires.size (begin.left tells) (begin.begun tells) _ _ _ _ refl (c.in_ok-copy_pages.ensures.left tells) (c.in_ok-write_levels.ensures.left tells) (c.in_ok-copy_pages.ensures.pages tells) (c.in_ok-write_levels.ensures.pages tells) in
    since_left _ _ _ c.args.target.now (restored ps links) (begin.left tells plan.stands) (all_since _ _ _ _ _ _ _ _ written _ c.put.ensures.written (g.met.H.Host.reads_left _ tells _) (c.write_first.ensures.left tells))

pub returns-in_err-write_first-clause-reads : goal.returns-in_err-write_first-clause-reads
returns-in_err-write_first-clause-reads g c tells ps links plan =
    let written = written_by _ _ _ _ _ _ _ _ _ _ plan c.requires.size (c.in_ok-begin.ensures.left tells) (c.in_ok-begin.ensures.begun tells) _ _ _ _ refl (c.in_ok-copy_pages.ensures.left tells) (c.in_ok-write_levels.ensures.left tells) (c.in_ok-copy_pages.ensures.pages tells) (c.in_ok-write_levels.ensures.pages tells) in
    inr (reads_has _ _ _ _ (all_since _ _ _ _ _ _ _ _ written _ c.put.ensures.written (g.met.H.Host.reads_left _ tells _) (c.write_first.ensures.left tells)) (g.met.H.Host.reads_left _ tells))

pub returns-clause-left : goal.returns-clause-left
returns-clause-left g c tells ps links plan =
    let begin = c.in_ok-begin.ensures in
    let written = written_by _ _ _ _ _ _ _ _ _ _ plan c.requires.size (begin.left tells) (begin.begun tells) _ _ _ _ refl (c.in_ok-copy_pages.ensures.left tells) (c.in_ok-write_levels.ensures.left tells) (c.in_ok-copy_pages.ensures.pages tells) (c.in_ok-write_levels.ensures.pages tells) in
    since_left _ _ _ c.args.target.now (restored ps links) (begin.left tells plan.stands) (all_since _ _ _ _ _ _ _ _ written _ c.put.ensures.written (g.met.H.Host.reads_left _ tells _) (c.in_ok-write_first.ensures.left tells))

pub returns-clause-reads : goal.returns-clause-reads
returns-clause-reads g c tells ps links plan =
    let written = written_by _ _ _ _ _ _ _ _ _ _ plan c.requires.size (c.in_ok-begin.ensures.left tells) (c.in_ok-begin.ensures.begun tells) _ _ _ _ refl (c.in_ok-copy_pages.ensures.left tells) (c.in_ok-write_levels.ensures.left tells) (c.in_ok-copy_pages.ensures.pages tells) (c.in_ok-write_levels.ensures.pages tells) in
    inr (reads_has _ _ _ _ (all_since _ _ _ _ _ _ _ _ written _ c.put.ensures.written (g.met.H.Host.reads_left _ tells _) (c.in_ok-write_first.ensures.left tells)) (g.met.H.Host.reads_left _ tells))

pub returns-clause-done : goal.returns-clause-done
returns-clause-done g c tells ps links plan =
    let written = written_by _ _ _ _ _ _ _ _ _ _ plan c.requires.size (c.in_ok-begin.ensures.left tells) (c.in_ok-begin.ensures.begun tells) _ _ _ _ refl (c.in_ok-copy_pages.ensures.left tells) (c.in_ok-write_levels.ensures.left tells) (c.in_ok-copy_pages.ensures.pages tells) (c.in_ok-write_levels.ensures.pages tells) in
    all_kept _ _ _ _ _ _ _ _ written _ c.put.ensures.written (c.in_ok-write_first.ensures.done tells)

pub returns-in_err-write_levels-clause-within : goal.returns-in_err-write_levels-clause-within
returns-in_err-write_levels-clause-within g c tells ps links plan =
    let ready = readers_ready _ _ _ _ _ _ _ _ ps _ plan c.requires.size (c.in_ok-begin.ensures.left tells) (c.in_ok-begin.ensures.begun tells) _ _ refl (c.copy_pages.ensures.left tells) in
    let copied = c.copy_pages.ensures.within tells in
    let written = c.write_levels.ensures.within tells links ready in
    omega (arith, c.begin.ensures.no_read, copied, written)

pub returns-in_err-write_first-clause-within : goal.returns-in_err-write_first-clause-within
returns-in_err-write_first-clause-within g c tells ps links plan =
    let ready = readers_ready _ _ _ _ _ _ _ _ ps _ plan c.requires.size (c.in_ok-begin.ensures.left tells) (c.in_ok-begin.ensures.begun tells) _ _ refl (c.copy_pages.ensures.left tells) in
    let copied = c.copy_pages.ensures.within tells in
    let written = c.write_levels.ensures.within tells links ready in
    omega (arith, c.begin.ensures.no_read, copied, written, c.write_first.ensures.reads)

pub returns-clause-within : goal.returns-clause-within
returns-clause-within g c tells ps links plan =
    let ready = readers_ready _ _ _ _ _ _ _ _ ps _ plan c.requires.size (c.in_ok-begin.ensures.left tells) (c.in_ok-begin.ensures.begun tells) _ _ refl (c.copy_pages.ensures.left tells) in
    let copied = c.copy_pages.ensures.within tells in
    let written = c.write_levels.ensures.within tells links ready in
    omega (arith, c.begin.ensures.no_read, copied, written, c.write_first.ensures.reads)
