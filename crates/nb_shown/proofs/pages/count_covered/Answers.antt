use Rattle.std.proofs.Common.{◌≡◌, ℕ, ◌+◌, ◌*◌, ◌<◌, length, sym, ap, ◌∙◌, arith, not}
use Rattle.nb_shown.proofs.Common.{bits_in, is_free_page, counts_below, looks_then}
use Rattle.nb_shown.proofs.BitLaws.{used_is}
use Rattle.nb_shown.proofs.ReadCounts.{page_read}
use Rattle.nb_shown.proofs.pages.count_covered.Goals as goal

pub loop-bit-preserved : goal.loop-bit-preserved
loop-bit-preserved g c =
    let loop = c.loop-bit.invariant in
    let counted = c.in_ok-count_page.ensures in
    record {
      looks = looks_then loop.looks counted.looks;
      counts = λ k t tells is first map inside so_far.
          let image = t.base.image in
          let number : ℕ = c.args.first + c.loop-bit.bit in
          let low : number < length image = omega (arith, c.loop-bit-test.true, inside) in
          let next : number + 1 ≡ c.args.first + (c.loop-bit.bit + 1) = omega arith in
          let place : number ≡ k * bits_in (length c.args.page.now) + c.loop-bit.bit = omega (arith, first) in
          let within : c.loop-bit.bit < bits_in (length c.args.page.now) = omega (arith, c.loop-bit-test.true, c.requires.covered) in
          let used : c.is_used.result ≡ not (is_free_page image number) =
          used_is image (length c.args.page.now) k c.loop-bit.bit c.args.map.now (c.requires.room ∙ is.files.agrees.page_size) map c.requires.map within c.is_used.result c.is_used.ensures
          ∙ ap (λ (p : ℕ). not (is_free_page image p)) (sym place) in
          counted.counts t tells (loop.looks.opened t tells is) low used (loop.counts k t tells is first map inside so_far) ∙ ap (counts_below image) next;
      sum = omega (arith, counted.sum, loop.sum);
      once = λ tells some. omega (arith, counted.once tells (omega (arith, some)), loop.once tells some);
      front = λ tells. page_read _ _ _ (c.args.first + c.loop-bit.bit) c.loop-bit.bit (counted.once tells) (counted.twice tells) (omega arith) (loop.front tells);
      cause = counted.cause ∙ loop.cause;
    }
