use Rattle.std.proofs.Common.{◌≡◌, ℕ, ◌+◌, ◌<◌, ◌++◌, suc, length, take, ap, subst, ◌∙◌, arith}
use Rattle.nb_shown.proofs.Common.{Holds256, Page, page_at, bytes_of_image, first_twice, looks_then}
use Rattle.nb_shown.proofs.DigestLaws.{bytes_more}
use Rattle.nb_shown.proofs.digest.feed_pages.Goals as goal

pub loop-number-preserved : goal.loop-number-preserved
loop-number-preserved g c =
    let loop = c.loop-number.invariant in
    let read = c.in_ok-read.ensures in
    record {
      looks = looks_then loop.looks read.looks;
      holds = λ t tells is none.
          let image = t.base.image in
          let n : ℕ = c.loop-number.number in
          let low : n < length image = omega (arith, c.loop-number-test.true, c.count-count.ensures.value, is.files.agrees.count) in
          let page : c.read.new.into ≡ page_at image n = read.page t tells (loop.looks.opened t tells is) low in
          let next : suc n ≡ n + 1 = omega arith in
          let bytes = ap (λ (p : Page). bytes_of_image (take n image) ++ p) page ∙ bytes_more image n low ∙ ap (λ (k : ℕ). bytes_of_image (take k image)) next in
          subst (Holds256 c.update.new.self) bytes (c.update.ensures (bytes_of_image (take n image)) (loop.holds t tells is none));
      reads = λ tells. first_twice _ _ _ c.loop-number.number (read.once tells) (read.twice tells) (loop.reads tells);
      cause = read.cause ∙ loop.cause;
    }
