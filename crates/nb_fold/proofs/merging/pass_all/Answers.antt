use Rattle.std.proofs.Common.{◌+◌, ◌≤◌, List, get_or, refl, sym, ap, subst, ◌∙◌, arith, Err}
use Rattle.nb_fold.proofs.Common.{take_all, Files, quiet_begun, quiet_joined, Held, IsTaken, Waits, rest_after, counts_at, due, fails_alike, passed}
use Rattle.nb_host.specs.Causes.{CountsDevice}
use Rattle.nb_fold.proofs.PassLaws.{found, passed_all, due_set, pages_set, apart_set, behind_still, counts_upto, counts_front}
use Rattle.nb_fold.proofs.merging.pass_all.Goals as goal

pub loop-place-init : goal.loop-place-init
loop-place-init g c = record {
  same = refl;
  sizes = λ size all. all;
  apart = λ name all. all;
  falls = omega arith;
  waits = λ tells rss waits. waits;
  quiet = quiet_begun (g.H.Host.world c.args.host.now) (g.met.H.Host.timely _);
  reads = λ tells. omega arith;
  cause = refl;
}

pub loop-place-preserved : goal.loop-place-preserved
loop-place-preserved g c =
    let loop = c.loop-place.invariant in
    let pass = c.in_ok-pass.ensures in
    let low = c.loop-place-test.true in
    let s = get_or c.loop-place.sources c.loop-place.place c.index-sources-place.result in
    let is = ap (λ (d : Held). get_or c.loop-place.sources c.loop-place.place d) c.index-sources-place.is in
    let long = c.loop-place.auto.sources in
    let counts = counts_upto c.loop-place.place c.args.number c.args.sources.now c.loop-place.sources s loop.same long (omega (arith, low, long)) is in
    let files : Files = (g.H.Host.world c.args.host.now).files in
    record {
      same = behind_still c.loop-place.place c.args.number c.args.sources.now c.loop-place.sources s loop.same long (omega (arith, low, long)) is c.pass.new.self;
      sizes = λ size all. pages_set size c.loop-place.place c.loop-place.sources s c.pass.new.self (omega (arith, low, long)) is (ap (λ (x : Held). x.reader.head.page_size) c.pass.ensures.same) (loop.sizes size all);
      apart = λ name all. apart_set name c.loop-place.place c.loop-place.sources s c.pass.new.self (omega (arith, low, long)) is (ap (λ (x : Held). x.reader.name) c.pass.ensures.same) (loop.apart name all);
      falls = let d = due_set c.loop-place.place c.loop-place.sources s c.pass.new.self (omega (arith, low, long)) is in omega (arith, d, counts, pass.falls, loop.falls);
      waits = λ tells rss waits.
          let f = found files c.args.number c.loop-place.place c.loop-place.sources s rss (omega (arith, low, long)) is (loop.waits tells rss waits) in
          let same = loop.quiet.still.files in
          f.put c.pass.new.self (subst (λ (x : Files). Waits x c.pass.new.self (rest_after c.args.number f.rs)) same (pass.waits tells f.rs (subst (λ (x : Files). Waits x s f.rs) (sym same) f.waits)));
      quiet = quiet_joined _ _ _ loop.quiet c.pass.ensures.quiet;
      reads = λ tells. let r = c.pass.ensures.reads tells in let b = loop.reads tells in omega (arith, r, b, counts);
      cause = pass.cause ∙ loop.cause;
    }

pub returns-in_err-pass-clause-sure : goal.returns-in_err-pass-clause-sure
returns-in_err-pass-clause-sure g c tells rss waits =
    let loop = c.loop-place.invariant in
    let low = c.loop-place-test.true in
    let s = get_or c.loop-place.sources c.loop-place.place c.index-sources-place.result in
    let is = ap (λ (d : Held). get_or c.loop-place.sources c.loop-place.place d) c.index-sources-place.is in
    let long = c.loop-place.auto.sources in
    let f = found (g.H.Host.world c.args.host.now).files c.args.number c.loop-place.place c.loop-place.sources s rss (omega (arith, low, long)) is (loop.waits tells rss waits) in
    passed _ (λ r. IsTaken {T = Unit {0}} r (λ done. Unit {0})) c.from_residual.result c.in_err-pass.field-0.0 c.from_residual.ensures
    (fails_alike _ _ c.in_err-pass.field-0.0 (c.in_err-pass.ensures.waits tells f.rs (subst (λ (x : Files). Waits x s f.rs) (sym loop.quiet.still.files) f.waits)))

pub returns-in_err-pass-clause-sizes : goal.returns-in_err-pass-clause-sizes
returns-in_err-pass-clause-sizes g c size all =
    let loop = c.loop-place.invariant in
    let low = c.loop-place-test.true in
    let long = c.loop-place.auto.sources in
    let s = get_or c.loop-place.sources c.loop-place.place c.index-sources-place.result in
    let is = ap (λ (d : Held). get_or c.loop-place.sources c.loop-place.place d) c.index-sources-place.is in
    pages_set size c.loop-place.place c.loop-place.sources s c.pass.new.self (omega (arith, low, long)) is (ap (λ (x : Held). x.reader.head.page_size) c.pass.ensures.same) (loop.sizes size all)

pub returns-in_err-pass-clause-quiet : goal.returns-in_err-pass-clause-quiet
returns-in_err-pass-clause-quiet g c = quiet_joined _ _ _ c.loop-place.invariant.quiet c.pass.ensures.quiet

pub returns-in_err-pass-clause-reads : goal.returns-in_err-pass-clause-reads
returns-in_err-pass-clause-reads g c tells =
    let loop = c.loop-place.invariant in
    let low = c.loop-place-test.true in
    let long = c.loop-place.auto.sources in
    let s = get_or c.loop-place.sources c.loop-place.place c.index-sources-place.result in
    let is = ap (λ (d : Held). get_or c.loop-place.sources c.loop-place.place d) c.index-sources-place.is in
    let counts = counts_upto c.loop-place.place c.args.number c.args.sources.now c.loop-place.sources s loop.same long (omega (arith, low, long)) is in
    let most = counts_front (c.loop-place.place + 1) c.args.number c.args.sources.now in
    let r = c.pass.ensures.reads tells in let b = loop.reads tells in omega (arith, r, b, counts, most)

pub returns-in_err-pass-clause-cause : goal.returns-in_err-pass-clause-cause
returns-in_err-pass-clause-cause g c =
    passed _ (λ r. CountsDevice {T = Unit {0}} r (g.H.Host.faults c.args.host.now) (g.H.Host.faults c.pass.new.host)) c.from_residual.result c.in_err-pass.field-0.0 c.from_residual.ensures
    (subst (λ n. CountsDevice {T = Unit {0}} (Err c.in_err-pass.field-0.0) n (g.H.Host.faults c.pass.new.host)) c.loop-place.invariant.cause c.in_err-pass.ensures.cause)

pub returns-clause-waits : goal.returns-clause-waits
returns-clause-waits g c tells rss waits =
    let loop = c.loop-place.invariant in
    passed_all (g.H.Host.world c.args.host.now).files c.args.number c.loop-place.place c.loop-place.sources rss (omega (arith, c.loop-place-test.false, c.loop-place.auto.sources, c.loop-place.auto.place-end)) (loop.waits tells rss waits)

pub returns-clause-falls : goal.returns-clause-falls
returns-clause-falls g c =
    let loop = c.loop-place.invariant in
    let all = take_all c.loop-place.place c.args.sources.now (omega (arith, c.loop-place-test.false, c.loop-place.auto.sources)) in
    subst (λ (ss : List Held). due c.loop-place.sources + counts_at c.args.number ss ≤ due c.args.sources.now) all loop.falls

pub returns-clause-reads : goal.returns-clause-reads
returns-clause-reads g c tells =
    let loop = c.loop-place.invariant in
    let all = take_all c.loop-place.place c.args.sources.now (omega (arith, c.loop-place-test.false, c.loop-place.auto.sources)) in
    subst (λ (ss : List Held). (g.H.Host.world c.loop-place.host).reads ≤ (g.H.Host.world c.args.host.now).reads + counts_at c.args.number ss) all (loop.reads tells)

pub returns-in_err-pass-clause-apart : goal.returns-in_err-pass-clause-apart
returns-in_err-pass-clause-apart g c name all =
    let loop = c.loop-place.invariant in
    let low = c.loop-place-test.true in
    let long = c.loop-place.auto.sources in
    let s = get_or c.loop-place.sources c.loop-place.place c.index-sources-place.result in
    let is = ap (λ (d : Held). get_or c.loop-place.sources c.loop-place.place d) c.index-sources-place.is in
    apart_set name c.loop-place.place c.loop-place.sources s c.pass.new.self (omega (arith, low, long)) is (ap (λ (x : Held). x.reader.name) c.pass.ensures.same) (loop.apart name all)
