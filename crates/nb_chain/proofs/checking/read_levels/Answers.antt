use Rattle.std.proofs.Common.{ℕ, ◌+◌, List, drop, refl, ap, subst, ◌∙◌, arith}
use Rattle.nb_chain.proofs.Common.{File, Files, quiet_begun, quiet_joined, Tip, IsNext, LevelsSay, passed}
use Rattle.nb_chain.proofs.LinkLaws.{accepted_none, accepted_at, accepted_end, accepted_more, accepted_fault, accepted_all}
use Rattle.nb_chain.proofs.MostLaws.{levels_more}
use Rattle.nb_chain.proofs.checking.read_levels.Goals as goal

pub loop-place-init : goal.loop-place-init
loop-place-init g c = record {
  quiet = quiet_begun (g.H.Host.world c.args.host.now) (g.met.H.Host.timely _);
  size = c.requires.size;
  cause = refl;
  so_far = λ tells. accepted_none _ _ _ _ _;
  within = λ tells. omega arith;
}

pub returns-in_err-last-clause-answer : goal.returns-in_err-last-clause-answer
returns-in_err-last-clause-answer g c tells =
    let loop = c.loop-place.invariant in
    let names : List (List ℕ) = c.args.files.now in
    let name : List ℕ = c.index-files-place.result in
    let files : Files = (g.H.Host.world c.args.host.now).files in
    let before : ℕ = (g.H.Host.world c.args.host.now).reads in
    let here = accepted_at files c.args.first (drop 1 names) c.loop-place.place c.loop-place.last names name c.args.overlay.now c.loop-place.overlay before (g.H.Host.world c.loop-place.host).reads (omega (arith, c.loop-place-test.true)) c.index-files-place.is (loop.so_far tells) in
    passed Tip (λ r. LevelsSay files c.args.first (drop 1 names) c.args.overlay.now c.read_next.new.overlay before (g.H.Host.world c.read_next.new.host).reads r) c.from_residual.result c.in_err-last.field-0.0 c.from_residual.ensures
    (accepted_fault files c.args.first (drop 1 names) c.loop-place.place c.loop-place.last name (drop (c.loop-place.place + 1) names) c.args.overlay.now c.loop-place.overlay before (g.H.Host.world c.loop-place.host).reads here
    ((g.H.Host.world c.loop-place.host).files name) c.read_next.new.overlay c.read_next.new.overlay (g.H.Host.world c.read_next.new.host).reads (g.H.Host.world c.read_next.new.host).reads c.in_err-last.field-0.0
    (ap (λ (f : Files). f name) loop.quiet.still.files) (c.in_err-last.ensures.answer tells))

pub loop-place-preserved : goal.loop-place-preserved
loop-place-preserved g c =
    let loop = c.loop-place.invariant in
    record {
      quiet = quiet_joined _ _ _ loop.quiet c.read_next.ensures.quiet;
      size = c.in_ok-last.ensures.size;
      cause = c.in_ok-last.ensures.cause ∙ loop.cause;
      so_far = λ tells.
          let names : List (List ℕ) = c.args.files.now in
          let name : List ℕ = c.index-files-place.result in
          let files : Files = (g.H.Host.world c.args.host.now).files in
          let before : ℕ = (g.H.Host.world c.args.host.now).reads in
          let start : ℕ = (g.H.Host.world c.loop-place.host).reads in
          let after : ℕ = (g.H.Host.world c.read_next.new.host).reads in
          let here = accepted_at files c.args.first (drop 1 names) c.loop-place.place c.loop-place.last names name c.args.overlay.now c.loop-place.overlay before start (omega (arith, c.loop-place-test.true)) c.index-files-place.is (loop.so_far tells) in
          accepted_more files c.args.first (drop 1 names) c.loop-place.place c.loop-place.last name (drop (c.loop-place.place + 1) names) c.args.overlay.now c.loop-place.overlay before start here c.in_ok-last.last c.read_next.new.overlay after
          (subst (λ (f : File). IsNext f c.loop-place.place c.loop-place.last name c.loop-place.overlay c.read_next.new.overlay start after c.in_ok-last.last) (ap (λ (f : Files). f name) loop.quiet.still.files) (c.in_ok-last.ensures.answer tells));
      within = λ tells.
          levels_more _ _ c.args.files.now c.index-files-place.result c.loop-place.place _ _ _ loop.quiet.still.files (omega (arith, c.loop-place-test.true)) c.index-files-place.is (loop.within tells) (c.read_next.ensures.within tells);
    }

pub returns-clause-answer : goal.returns-clause-answer
returns-clause-answer g c tells =
    let loop = c.loop-place.invariant in
    accepted_all _ c.args.first _ c.loop-place.place c.loop-place.last _ _ _ _ (accepted_end _ c.args.first _ c.loop-place.place c.loop-place.last c.args.files.now _ _ _ _ (omega (arith, c.loop-place-test.false)) (loop.so_far tells))

pub returns-in_err-last-clause-within : goal.returns-in_err-last-clause-within
returns-in_err-last-clause-within g c tells =
    let loop = c.loop-place.invariant in
    let all = levels_more _ _ c.args.files.now c.index-files-place.result c.loop-place.place _ _ _ loop.quiet.still.files (omega (arith, c.loop-place-test.true)) c.index-files-place.is (loop.within tells) (c.read_next.ensures.within tells) in
    omega (arith, all)

pub returns-clause-within : goal.returns-clause-within
returns-clause-within g c tells = omega (arith, c.loop-place.invariant.within tells)
