use Rattle.std.proofs.Common.{◌≡◌, ℕ, ◌+◌, ◌-◌, ◌*◌, ◌/◌, ◌<◌, ◌≤◌, List, length, take, drop, min, ap, refl, sym, ◌∙◌, arith, Option, Some, None, option_map}
use Rattle.nb_inplace.proofs.Common.{length-take-le, Files, Refusal, ChainScn, quiet_begun, quiet_joined, Page, written_since, IsOfSize, all-take, all-drop, TestedByReads, passed}
use Rattle.nb_inplace.proofs.StampLaws.{room_for, piece_late, piece_early, none_left, done_tested}
use Rattle.nb_inplace.proofs.MostLaws.{stamps_next}
use Rattle.nb_inplace.proofs.stamps.test_stamps.Goals as goal

-- pages of a piece have the size too
piece_sizes : (size number count : ℕ) (ps : List Page) → IsOfSize size ps → IsOfSize size (take count (drop number ps))
piece_sizes size number count ps sizes = all-take (λ (p : Page). length p ≡ size) count (drop number ps) (all-drop (λ (p : Page). length p ≡ size) number ps sizes)

-- a piece that isn't the last one has as many pages as there is room for
full : (size number count pages room : ℕ) → room ≡ 262144 → count ≡ min (room / size) (pages - number) → number + count < pages → count ≡ 262144 / size
full size number count pages room long is further =
    let most : room / size ≡ 262144 / size = ap (λ (k : ℕ). k / size) long in
    omega (arith, is, further, most)

-- what a test of a piece tells
told : (name : List ℕ) (scn found : ℕ) (answer : Option ℕ) (cause : Option Refusal) → answer ≡ Some found → cause ≡ option_map (λ stamp. ChainScn name stamp scn) answer → cause ≡ Some (ChainScn name found scn)
told name scn found answer cause is says = says ∙ ap (option_map (λ stamp. ChainScn name stamp scn)) is

told_none : (name : List ℕ) (scn : ℕ) (answer : Option ℕ) (cause : Option Refusal) → answer ≡ None → cause ≡ option_map (λ stamp. ChainScn name stamp scn) answer → cause ≡ None
told_none name scn answer cause is says = says ∙ ap (option_map (λ stamp. ChainScn name stamp scn)) is

pub returns-in_err-read_pages-clause-test : goal.returns-in_err-read_pages-clause-test
returns-in_err-read_pages-clause-test g c tells ps there sizes long =
    let loop = c.loop-number.invariant in
    let now = ap (λ (f : Files). f c.args.standby.now) loop.quiet.still.files ∙ there in
    let room : c.min-count.result * c.args.page_size ≤ length c.loop-number.piece = let low = room_for (length c.args.piece.now) c.args.page_size c.min-count.result (omega (arith, c.min-count.ensures)) in omega (arith, low, c.loop-number.auto.piece) in
    let wide : length (take (c.min-count.result * c.args.page_size) c.loop-number.piece) ≡ c.min-count.result * c.args.page_size = length-take-le _ c.loop-number.piece room in
    passed (Unit {0}) (λ r. TestedByReads r (written_since c.args.file.now c.args.scn (drop 1 ps))) c.from_residual.result c.in_err-read_pages.field-0.0 c.from_residual.ensures
    (done_tested (Unit {0}) (Unit {0}) _ _ c.in_err-read_pages.field-0.0 (c.in_err-read_pages.ensures.pages tells ps c.min-count.result now sizes wide (omega (arith, c.min-count.ensures, long, c.loop-number-test.true))))

pub returns-in-Some-clause-test : goal.returns-in-Some-clause-test
returns-in-Some-clause-test g c tells ps there sizes long =
    let loop = c.loop-number.invariant in
    let now = ap (λ (f : Files). f c.args.standby.now) loop.quiet.still.files ∙ there in
    let room : c.min-count.result * c.args.page_size ≤ length c.loop-number.piece = let low = room_for (length c.args.piece.now) c.args.page_size c.min-count.result (omega (arith, c.min-count.ensures)) in omega (arith, low, c.loop-number.auto.piece) in
    let wide : length (take (c.min-count.result * c.args.page_size) c.loop-number.piece) ≡ c.min-count.result * c.args.page_size = length-take-le _ c.loop-number.piece room in
    let read = c.in_ok-read_pages.ensures.pages tells ps c.min-count.result now sizes wide (omega (arith, c.min-count.ensures, long, c.loop-number-test.true)) in
    let says = c.stamp_above.ensures c.args.file.now (take c.min-count.result (drop c.loop-number.number ps)) read (piece_sizes c.args.page_size c.loop-number.number c.min-count.result ps sizes) in
    piece_late c.args.file.now c.args.scn c.loop-number.number c.min-count.result ps (loop.so_far tells ps there sizes long) _ (told c.args.file.now c.args.scn c.in-Some.found c.stamp_above.result _ c.in-Some.is says)
    ∙ ap (λ (n : List ℕ). Some (ChainScn n c.in-Some.found c.args.scn)) (sym c.copied.ensures)

pub loop-number-preserved : goal.loop-number-preserved
loop-number-preserved g c =
    let loop = c.loop-number.invariant in
    record {
      quiet = quiet_joined _ _ _ loop.quiet c.in_ok-read_pages.ensures.quiet;
      on_way = λ tells. (stamps_next c.args.page_size c.loop-number.number c.min-count.result c.args.pages (g.H.Host.world c.args.host.now).reads (g.H.Host.world c.loop-number.host).reads (g.H.Host.world c.read_pages.new.host).reads c.requires.size c.loop-number-test.true (λ further. full _ _ _ _ _ c.requires.piece c.min-count.ensures further) (loop.on_way tells c.loop-number-test.true) (c.in_ok-read_pages.ensures.once tells)).0;
      within = λ tells. (stamps_next c.args.page_size c.loop-number.number c.min-count.result c.args.pages (g.H.Host.world c.args.host.now).reads (g.H.Host.world c.loop-number.host).reads (g.H.Host.world c.read_pages.new.host).reads c.requires.size c.loop-number-test.true (λ further. full _ _ _ _ _ c.requires.piece c.min-count.ensures further) (loop.on_way tells c.loop-number-test.true) (c.in_ok-read_pages.ensures.once tells)).1;
      cause = c.in_ok-read_pages.ensures.cause ∙ loop.cause;
      so_far = λ tells ps there sizes long.
          let now = ap (λ (f : Files). f c.args.standby.now) loop.quiet.still.files ∙ there in
          let room : c.min-count.result * c.args.page_size ≤ length c.loop-number.piece = let low = room_for (length c.args.piece.now) c.args.page_size c.min-count.result (omega (arith, c.min-count.ensures)) in omega (arith, low, c.loop-number.auto.piece) in
          let wide : length (take (c.min-count.result * c.args.page_size) c.loop-number.piece) ≡ c.min-count.result * c.args.page_size = length-take-le _ c.loop-number.piece room in
          let read = c.in_ok-read_pages.ensures.pages tells ps c.min-count.result now sizes wide (omega (arith, c.min-count.ensures, long, c.loop-number-test.true)) in
          let says = c.stamp_above.ensures c.args.file.now (take c.min-count.result (drop c.loop-number.number ps)) read (piece_sizes c.args.page_size c.loop-number.number c.min-count.result ps sizes) in
          piece_early c.args.file.now c.args.scn c.loop-number.number c.min-count.result ps (loop.so_far tells ps there sizes long) (told_none c.args.file.now c.args.scn c.stamp_above.result _ c.in_default.is says);
    }

pub returns-clause-test : goal.returns-clause-test
returns-clause-test g c tells ps there sizes long =
    none_left c.args.file.now c.args.scn c.loop-number.number ps (omega (arith, c.loop-number-test.false, long)) (c.loop-number.invariant.so_far tells ps there sizes long)

pub loop-number-init : goal.loop-number-init
loop-number-init g c = record {
  quiet = quiet_begun _ (g.met.H.Host.timely _);
  cause = refl;
  so_far = λ tells ps there sizes long. refl;
  on_way = λ tells more. omega arith;
  within = λ tells. omega arith;
}

pub returns-in_err-read_pages-clause-within : goal.returns-in_err-read_pages-clause-within
returns-in_err-read_pages-clause-within g c tells =
    let loop = c.loop-number.invariant in
    (stamps_next c.args.page_size c.loop-number.number c.min-count.result c.args.pages (g.H.Host.world c.args.host.now).reads (g.H.Host.world c.loop-number.host).reads (g.H.Host.world c.read_pages.new.host).reads c.requires.size c.loop-number-test.true (λ further. full _ _ _ _ _ c.requires.piece c.min-count.ensures further) (loop.on_way tells c.loop-number-test.true) (c.read_pages.ensures.once tells)).1

pub returns-in-Some-clause-within : goal.returns-in-Some-clause-within
returns-in-Some-clause-within g c tells =
    let loop = c.loop-number.invariant in
    (stamps_next c.args.page_size c.loop-number.number c.min-count.result c.args.pages (g.H.Host.world c.args.host.now).reads (g.H.Host.world c.loop-number.host).reads (g.H.Host.world c.read_pages.new.host).reads c.requires.size c.loop-number-test.true (λ further. full _ _ _ _ _ c.requires.piece c.min-count.ensures further) (loop.on_way tells c.loop-number-test.true) (c.read_pages.ensures.once tells)).1
