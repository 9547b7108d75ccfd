use Rattle.std.proofs.Common.{ℕ, ◌+◌, List, refl, sym, ap, subst, ◌∙◌, arith, drop, length, Err}
use Rattle.nb_fold.proofs.Common.{Files, Fault, quiet_begun, quiet_joined, AddSays, AreAlike, IsAdded, Held}
use Rattle.nb_fold.proofs.AddLaws.{SoFarOpened, opened_none, opened_refused, opened_one, opened_all, open_next}
use Rattle.nb_fold.proofs.OpenLaws.{fault_is}
use Rattle.nb_restore.proofs.SourceLaws.{names_from}
use Rattle.nb_fold.proofs.opening.open_all.Goals as goal

pub loop-name-init : goal.loop-name-init
loop-name-init g c = record {
  so_far = λ tells. opened_none _ _ c.new-sources.result.items _ c.new-sources.ensures.items;
  within = λ tells. omega arith;
  alike = subst AreAlike (sym c.new-sources.ensures.items) tt;
  long = ap (λ (ss : List Held). length ss) c.new-sources.ensures.items;
  quiet = quiet_begun (g.H.Host.world c.args.host.now) (g.met.H.Host.timely _);
  cause = refl;
}

pub loop-name-preserved : goal.loop-name-preserved
loop-name-preserved g c =
    let loop = c.loop-name.invariant in
    let add = c.in_ok-add.ensures in
    let same = loop.quiet.still.files in
    let name : List ℕ = c.name-item.result in
    let old : List Held = c.loop-name.sources.items in
    let before : ℕ = (g.H.Host.world c.args.host.now).reads in
    let mid : ℕ = (g.H.Host.world c.loop-name.host).reads in
    let files : Files = (g.H.Host.world c.args.host.now).files in
    let low = c.loop-name-test.true in
    record {
      so_far = λ tells.
          let so_far = subst (λ (left : List (List ℕ)). SoFarOpened files c.args.files.now left old before mid) (names_from c.args.files.now c.loop-name.name-index name (omega (arith, low)) c.name-item.is) (loop.so_far tells) in
          opened_one files c.args.files.now (drop (c.loop-name.name-index + 1) c.args.files.now) name old before mid so_far c.add.new.sources.items (g.H.Host.world c.add.new.host).reads
          (subst (λ (f : Files). IsAdded f name so_far.last old c.add.new.sources.items mid (g.H.Host.world c.add.new.host).reads) same (add.answer tells so_far.last so_far.is_last));
      within = λ tells.
          open_next files (g.H.Host.world c.loop-name.host).files c.args.files.now (drop (c.loop-name.name-index + 1) c.args.files.now) name (drop c.loop-name.name-index c.args.files.now) before mid (g.H.Host.world c.add.new.host).reads same
          (names_from c.args.files.now c.loop-name.name-index name (omega (arith, low)) c.name-item.is) (loop.within tells) (c.add.ensures.within tells);
      alike = add.alike loop.alike;
      long = let one = add.one in omega (arith, one, loop.long);
      quiet = quiet_joined _ _ _ loop.quiet c.add.ensures.quiet;
      cause = add.cause ∙ loop.cause;
    }

pub returns-in_err-add-clause-refused : goal.returns-in_err-add-clause-refused
returns-in_err-add-clause-refused g c tells refusal is =
    let loop = c.loop-name.invariant in
    let same = loop.quiet.still.files in
    let name : List ℕ = c.name-item.result in
    let old : List Held = c.loop-name.sources.items in
    let before : ℕ = (g.H.Host.world c.args.host.now).reads in
    let mid : ℕ = (g.H.Host.world c.loop-name.host).reads in
    let files : Files = (g.H.Host.world c.args.host.now).files in
    let low = c.loop-name-test.true in
    let so_far = subst (λ (left : List (List ℕ)). SoFarOpened files c.args.files.now left old before mid) (names_from c.args.files.now c.loop-name.name-index name (omega (arith, low)) c.name-item.is) (loop.so_far tells) in
    let new : List Held = c.add.new.sources.items in
    let after : ℕ = (g.H.Host.world c.add.new.host).reads in
    opened_refused files c.args.files.now (drop (c.loop-name.name-index + 1) c.args.files.now) name old before mid so_far new after refusal
    (subst (λ (f : Fault). AddSays files name so_far.last old new mid after (Err f)) (fault_is _ c.from_residual.result c.in_err-add.field-0.0 _ c.from_residual.ensures is)
    (subst (λ (f : Files). AddSays f name so_far.last old new mid after (Err c.in_err-add.field-0.0)) same (c.in_err-add.ensures.answer tells so_far.last so_far.is_last)))

pub returns-clause-answer : goal.returns-clause-answer
returns-clause-answer g c tells = opened_all _ _ c.loop-name.name-index _ _ _ (let past = c.loop-name-test.false in omega (arith, past)) (c.loop-name.invariant.so_far tells)

pub returns-in_err-add-clause-within : goal.returns-in_err-add-clause-within
returns-in_err-add-clause-within g c tells =
    let loop = c.loop-name.invariant in
    let low = c.loop-name-test.true in
    let one = open_next (g.H.Host.world c.args.host.now).files (g.H.Host.world c.loop-name.host).files c.args.files.now (drop (c.loop-name.name-index + 1) c.args.files.now) c.name-item.result (drop c.loop-name.name-index c.args.files.now)
    (g.H.Host.world c.args.host.now).reads (g.H.Host.world c.loop-name.host).reads (g.H.Host.world c.add.new.host).reads loop.quiet.still.files
    (names_from c.args.files.now c.loop-name.name-index c.name-item.result (omega (arith, low)) c.name-item.is) (loop.within tells) (c.add.ensures.within tells) in
    omega (arith, one)

pub returns-clause-within : goal.returns-clause-within
returns-clause-within g c tells = let so_far = c.loop-name.invariant.within tells in omega (arith, so_far)
