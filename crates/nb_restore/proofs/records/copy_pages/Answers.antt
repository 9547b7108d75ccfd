use Rattle.std.proofs.Common.{◌≡◌, ◌*◌, ◌++◌, length, take, drop, refl, ap, sym, ◌∙◌, arith, Some}
use Rattle.nb_restore.proofs.Common.{length-take-le, with_bytes, gave_begun, nothing_joined, joined, length-joined, IsDone, passed}
use Rattle.nb_restore.proofs.FrontLaws.{front_begun, front_joined}
use Rattle.nb_restore.proofs.LevelLaws.{fails_alike}
use Rattle.nb_restore.proofs.MostLaws.{piece_even, piece_next}
use Rattle.nb_restore.proofs.PieceLaws.{copied_none, copied_next, copied_all}
use Rattle.nb_restore.specs.Most.{pieces_in}
use Rattle.nb_restore.proofs.records.copy_pages.Goals as goal

pub loop-at-init : goal.loop-at-init
loop-at-init g c = record {
  left = λ tells. front_begun _ _ (g.met.H.Host.timely _);
  bytes = λ tells ps start apart there sizes long stands. copied_none c.args.page_size (joined ps) start _ _ c.from-at.ensures stands;
  gave = gave_begun _;
  cause = refl;
  behind = omega (arith, c.from-at.ensures);
  on_way = λ tells more. omega arith;
  within = λ tells. omega arith;
}

pub returns-in_err-copy_piece-clause-left : goal.returns-in_err-copy_piece-clause-left
returns-in_err-copy_piece-clause-left g c tells = front_joined _ _ _ _ (c.loop-at.invariant.left tells) (c.copy_piece.ensures.left tells)

pub returns-in_err-copy_piece-clause-pages : goal.returns-in_err-copy_piece-clause-pages
returns-in_err-copy_piece-clause-pages g c tells ps start apart there sizes long stands =
    let all : length (joined ps) ≡ c.from.result * c.from-2.result = length-joined c.args.page_size ps sizes ∙ ap (λ k. k * c.args.page_size) (long ∙ sym c.from.ensures) ∙ ap (λ k. c.from.result * k) (sym c.from-2.ensures) in
    let count : length (take c.piece_at-count.result c.loop-at.piece) ≡ c.piece_at-count.result = length-take-le c.piece_at-count.result c.loop-at.piece c.piece_at-count.ensures.room in
    passed _ (λ r. IsDone r ((g.H.Host.world c.copy_piece.new.host).files c.args.target.now ≡ Some (start ++ drop c.args.page_size (joined ps)))) c.from_residual.result c.in_err-copy_piece.field-0.0 c.from_residual.ensures
    (fails_alike (Unit {0}) (Unit {0}) c.in_err-copy_piece.field-0.0 _ _ (c.in_err-copy_piece.ensures.bytes tells (joined ps) ((c.loop-at.invariant.left tells).others_read _ apart ∙ there) (omega (arith, all, count, c.piece_at-count.ensures.inside))))

pub loop-at-preserved : goal.loop-at-preserved
loop-at-preserved g c =
    let loop = c.loop-at.invariant in
    let copy = c.in_ok-copy_piece.ensures in
    record {
      left = λ tells. front_joined _ _ _ _ (loop.left tells) (copy.left tells);
      bytes = λ tells ps start apart there sizes long stands.
          let all : length (joined ps) ≡ c.from.result * c.from-2.result = length-joined c.args.page_size ps sizes ∙ ap (λ k. k * c.args.page_size) (long ∙ sym c.from.ensures) ∙ ap (λ k. c.from.result * k) (sym c.from-2.ensures) in
          let count : length (take c.piece_at-count.result c.loop-at.piece) ≡ c.piece_at-count.result = length-take-le c.piece_at-count.result c.loop-at.piece c.piece_at-count.ensures.room in
          copied_next c.args.page_size (joined ps) start c.loop-at.at c.piece_at-count.result _ _ loop.behind (loop.bytes tells ps start apart there sizes long stands)
          (copy.bytes tells (joined ps) ((loop.left tells).others_read _ apart ∙ there) (omega (arith, all, count, c.piece_at-count.ensures.inside))
          ∙ ap (λ k. with_bytes ((g.H.Host.world c.loop-at.host).files c.args.target.now) (take k (drop c.loop-at.at (joined ps)))) count);
      gave = nothing_joined _ _ _ loop.gave copy.gave;
      cause = copy.cause ∙ loop.cause;
      behind = omega (arith, loop.behind);
      on_way = λ tells. (piece_next _ c.loop-at.at c.piece_at-count.result _ _ _ c.loop-at-test.true c.piece_at-count.ensures.inside (piece_even _ _ _ _ c.loop-at.auto.piece c.requires.piece c.piece_at-count.ensures.whole) c.piece_at-count.ensures.some (loop.on_way tells) (copy.once tells)).0;
      within = λ tells. (piece_next _ c.loop-at.at c.piece_at-count.result _ _ _ c.loop-at-test.true c.piece_at-count.ensures.inside (piece_even _ _ _ _ c.loop-at.auto.piece c.requires.piece c.piece_at-count.ensures.whole) c.piece_at-count.ensures.some (loop.on_way tells) (copy.once tells)).1;
    }

pub returns-in_err-copy_piece-clause-within : goal.returns-in_err-copy_piece-clause-within
returns-in_err-copy_piece-clause-within g c tells =
    let loop = c.loop-at.invariant in
    let reads = (piece_next _ c.loop-at.at c.piece_at-count.result _ _ _ c.loop-at-test.true c.piece_at-count.ensures.inside (piece_even _ _ _ _ c.loop-at.auto.piece c.requires.piece c.piece_at-count.ensures.whole) c.piece_at-count.ensures.some (loop.on_way tells) (c.copy_piece.ensures.once tells)).1 in
    let end : c.from.result * c.from-2.result ≡ c.args.pages * c.args.page_size = ap (λ k. k * c.from-2.result) c.from.ensures ∙ ap (λ k. c.args.pages * k) c.from-2.ensures in
    let most : pieces_in (c.from.result * c.from-2.result) ≡ pieces_in (c.args.pages * c.args.page_size) = ap pieces_in end in
    omega (arith, reads, most)

pub returns-clause-within : goal.returns-clause-within
returns-clause-within g c tells =
    let reads = c.loop-at.invariant.within tells in
    let end : c.from.result * c.from-2.result ≡ c.args.pages * c.args.page_size = ap (λ k. k * c.from-2.result) c.from.ensures ∙ ap (λ k. c.args.pages * k) c.from-2.ensures in
    let most : pieces_in (c.from.result * c.from-2.result) ≡ pieces_in (c.args.pages * c.args.page_size) = ap pieces_in end in
    omega (arith, reads, most)

pub returns-clause-pages : goal.returns-clause-pages
returns-clause-pages g c tells ps start apart there sizes long stands =
    let all : length (joined ps) ≡ c.from.result * c.from-2.result = length-joined c.args.page_size ps sizes ∙ ap (λ k. k * c.args.page_size) (long ∙ sym c.from.ensures) ∙ ap (λ k. c.from.result * k) (sym c.from-2.ensures) in
    copied_all c.args.page_size (joined ps) start c.loop-at.at _ (omega (arith, all, c.loop-at-test.false)) (c.loop-at.invariant.bytes tells ps start apart there sizes long stands)
