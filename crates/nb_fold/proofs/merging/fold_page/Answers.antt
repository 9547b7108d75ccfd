use Rattle.std.proofs.Common.{refl, ap, arith, Bool}
use Rattle.nb_fold.proofs.Common.{LevelWriting, IsUnfinished, IsTaken, fails_alike, passed}
use Rattle.nb_fold.proofs.MergeLaws.{falls_by, folds_end, folds_on, makes_none, makes_quiet, may_take, reads_on, waits_mid}
use Rattle.nb_fold.proofs.merging.fold_page.Goals as goal

pub returns-in-None-clause-folds : goal.returns-in-None-clause-folds
returns-in-None-clause-folds g c tells whole most folding = folds_end _ _ c.args.sources.now whole most folding (c.next_page.ensures.none c.in-None.is)

pub returns-in-None-clause-makes : goal.returns-in-None-clause-makes
returns-in-None-clause-makes g c tells whole most folding = makes_none _ _ c.args.sources.now whole most (g.met.H.Host.timely _) folding

pub returns-in_err-gather-clause-makes : goal.returns-in_err-gather-clause-makes
returns-in_err-gather-clause-makes g c tells whole most folding =
    let some = c.in-Some.ensures in
    let may = may_take _ _ c.args.sources.now whole most folding c.in-Some.next.0 c.in-Some.next.1.now some.below some.some.0 some.some.1 in
    record { left = c.gather.ensures.left tells folding.done folding.has may; reads = c.gather.ensures.reads tells folding.done folding.has may }

pub returns-in_err-pass_all-clause-sure : goal.returns-in_err-pass_all-clause-sure
returns-in_err-pass_all-clause-sure g c tells whole most folding =
    let some = c.in-Some.ensures in
    let waits = waits_mid (g.H.Host.world c.args.host.now) c.args.file.now c.args.sources.now whole most folding c.in-Some.next.0 c.in-Some.next.1.now some.below some.some.0 some.some.1 (g.H.Host.world c.gather.new.host) (g.H.Host.world c.gather.new.host) c.args.file.now c.args.sources.now refl refl (c.gather.ensures.touches tells).others_read in
    passed _ (λ r. IsTaken {T = Bool} r (λ more. Unit {0})) c.from_residual-in_err-pass_all.result c.in_err-pass_all.field-0.0 c.from_residual-in_err-pass_all.ensures
    (fails_alike {S = Unit {0}} (λ done. Unit {0}) (λ more. Unit {0}) c.in_err-pass_all.field-0.0 (c.in_err-pass_all.ensures.sure tells folding.coming waits))

pub returns-in_err-pass_all-clause-makes : goal.returns-in_err-pass_all-clause-makes
returns-in_err-pass_all-clause-makes g c tells whole most folding =
    let some = c.in-Some.ensures in
    let may = may_take _ _ c.args.sources.now whole most folding c.in-Some.next.0 c.in-Some.next.1.now some.below some.some.0 some.some.1 in
    makes_quiet _ (g.H.Host.world c.gather.new.host) _ _ IsUnfinished (record { left = c.gather.ensures.left tells folding.done folding.has may; reads = c.gather.ensures.reads tells folding.done folding.has may }) c.pass_all.ensures.quiet

pub returns-clause-makes : goal.returns-clause-makes
returns-clause-makes g c tells whole most folding =
    let some = c.in-Some.ensures in
    let may = may_take _ _ c.args.sources.now whole most folding c.in-Some.next.0 c.in-Some.next.1.now some.below some.some.0 some.some.1 in
    makes_quiet _ (g.H.Host.world c.gather.new.host) _ _ IsUnfinished (record { left = c.gather.ensures.left tells folding.done folding.has may; reads = c.gather.ensures.reads tells folding.done folding.has may }) c.pass_all.ensures.quiet

pub returns-clause-folds : goal.returns-clause-folds
returns-clause-folds g c tells whole most folding =
    let some = c.in-Some.ensures in
    let n = c.in-Some.next.0 in
    let page = c.in-Some.next.1.now in
    let w = g.H.Host.world c.args.host.now in
    let mid = g.H.Host.world c.gather.new.host in
    let may = may_take w c.args.file.now c.args.sources.now whole most folding n page some.below some.some.0 some.some.1 in
    let name = ap (λ (f : LevelWriting). f.name) c.gather.ensures.same in
    let head = ap (λ (f : LevelWriting). f.head) c.gather.ensures.same in
    let others = (c.gather.ensures.touches tells).others_read in
    let waits = waits_mid w c.args.file.now c.args.sources.now whole most folding n page some.below some.some.0 some.some.1 mid mid c.args.file.now c.args.sources.now refl refl others in
    folds_on w c.args.file.now c.args.sources.now whole most folding n page some.below some.some.0 some.some.1 mid (g.H.Host.world c.pass_all.new.host) c.gather.new.self c.pass_all.new.sources name head others
    (c.in_ok-gather.ensures.taken tells folding.done folding.has may) c.gather.ensures.log.reads (c.in_ok-pass_all.ensures.waits tells folding.coming waits) c.pass_all.ensures.quiet (c.pass_all.ensures.reads tells) (c.pass_all.ensures.apart c.args.file.now.name folding.apart)

pub returns-clause-falls : goal.returns-clause-falls
returns-clause-falls g c =
    let some = c.in-Some.ensures in
    let falls = falls_by c.in-Some.next.0 c.in-Some.next.1.now c.args.sources.now _ _ some.some.1 c.in_ok-pass_all.ensures.falls in
    let more = c.gather.ensures.more in
    (omega (arith, falls), omega (arith, falls, more))

pub gather-requires-clause-size : goal.gather-requires-clause-size
gather-requires-clause-size g c = c.in-Some.ensures.size c.args.file.now.head.page_size c.requires.sizes

pub returns-in_err-pass_all-clause-sizes : goal.returns-in_err-pass_all-clause-sizes
returns-in_err-pass_all-clause-sizes g c = c.pass_all.ensures.sizes c.args.file.now.head.page_size c.requires.sizes

pub returns-clause-sizes : goal.returns-clause-sizes
returns-clause-sizes g c = c.pass_all.ensures.sizes c.args.file.now.head.page_size c.requires.sizes

pub returns-in-None-clause-within : goal.returns-in-None-clause-within
returns-in-None-clause-within g c tells whole most folding = let reads = folding.reads in omega (arith, reads)

pub returns-in_err-gather-clause-within : goal.returns-in_err-gather-clause-within
returns-in_err-gather-clause-within g c tells whole most folding = let reads = folding.reads in omega (arith, reads, c.gather.ensures.log.reads)

pub returns-in_err-pass_all-clause-within : goal.returns-in_err-pass_all-clause-within
returns-in_err-pass_all-clause-within g c tells whole most folding =
    reads_on (g.H.Host.world c.args.host.now) c.args.file.now c.args.sources.now whole most folding c.in-Some.next.0 (g.H.Host.world c.gather.new.host) (g.H.Host.world c.pass_all.new.host) c.gather.ensures.log.reads (c.pass_all.ensures.reads tells)

pub returns-clause-within : goal.returns-clause-within
returns-clause-within g c tells whole most folding =
    reads_on (g.H.Host.world c.args.host.now) c.args.file.now c.args.sources.now whole most folding c.in-Some.next.0 (g.H.Host.world c.gather.new.host) (g.H.Host.world c.pass_all.new.host) c.gather.ensures.log.reads (c.pass_all.ensures.reads tells)
