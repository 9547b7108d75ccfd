use Rattle.std.proofs.Common.{◌≡◌, ℕ, ◌+◌, ◌-◌, ◌*◌, ◌/◌, ◌<◌, ◌≤◌, length, refl, sym, ap, subst, ◌∙◌, arith, min, Err, None}
use Rattle.nb_shown.proofs.Common.{le-div_iff_mul-le, bits_in, inventory_place, bits-least, inventory_kind, not_kind, Held, tested_on, PageCounts, looks_begun, looks_then}
use Rattle.nb_model.proofs.MainLaws.{some_page}
use Rattle.nb_shown.proofs.NeedLaws.{needs_begun, needs_next, needs_refused, needs_done}
use Rattle.nb_shown.proofs.ReadCounts.{pages_read}
use Rattle.nb_shown.proofs.TurnLaws.{tested_at}
use Rattle.nb_shown.proofs.pages.count_all.Goals as goal

pub loop-first-init : goal.loop-first-init
loop-first-init g c = record {
  looks = looks_begun _ (g.met.H.Host.timely _);
  place = omega arith;
  few = omega arith;
  read = omega arith;
  counts = λ t tells is. c.none-counts.ensures.none t.base.image;
  needs = λ t tells is. needs_begun t.base.image;
  sum = c.none-counts.ensures.sum;
  reads = λ tells. omega arith;
  cause = refl;
}

pub returns-in_err-first-clause-test : goal.returns-in_err-first-clause-test
returns-in_err-first-clause-test g c t tells is =
    let loop = c.loop-first.invariant in
    let size : ℕ = length c.args.page.now in
    let low : c.loop-first.k * bits_in size < length t.base.image = omega (arith, loop.place, c.loop-first-test.true, c.count-count.ensures.value, is.files.agrees.count) in
    tested_on ℕ PageCounts _ _ _ _ c.from_residual.ensures
    (λ r e. needs_refused t.base.image size c.requires.size (c.requires.room ∙ is.files.agrees.page_size) c.loop-first.k low (loop.needs t tells is) r e)
    (tested_at {T = ℕ} (Err c.in_err-first.field-0.0) t.base.image (length c.loop-first.page) size c.loop-first.k (omega (arith, c.loop-first.auto.page)) (c.in_err-first.ensures.test t tells (loop.looks.opened t tells is)))

pub loop-first-preserved : goal.loop-first-preserved
loop-first-preserved g c =
    let loop = c.loop-first.invariant in
    let counted = c.in_ok-first.ensures in
    let size : ℕ = length c.args.page.now in
    let k : ℕ = c.loop-first.k in
    let its_size : length c.loop-first.page ≡ size = omega (arith, c.loop-first.auto.page) in
    let its_count : c.loop-first.engine.files.count ≡ c.count-count.result = ap (λ (h : Held). h.files.count) loop.looks.same ∙ sym c.count-count.ensures.value in
    let end : c.in_ok-first.first ≡ min c.count-count.result (c.loop-first.first + bits_in size) =
    counted.end ∙ ap (λ (n : ℕ). min n (c.loop-first.first + bits_in (length c.loop-first.page))) its_count ∙ ap (λ (n : ℕ). min c.count-count.result (c.loop-first.first + bits_in n)) its_size in
    let least : 7936 ≤ bits_in size = bits-least size c.requires.size in
    let here : c.loop-first.first ≡ k * bits_in size = omega (arith, loop.place, c.loop-first-test.true) in
    let before : k * bits_in size ≤ c.count-count.result - 1 = omega (arith, here, c.loop-first-test.true) in
    let number : k ≤ (c.count-count.result - 1) / bits_in size = (le-div_iff_mul-le {k = bits_in size} {x = k} {y = c.count-count.result - 1} (omega (arith, least))).1 before in
    record {
      looks = looks_then loop.looks counted.looks;
      place = omega (arith, end, here, c.loop-first-test.true);
      few = omega (arith, end, loop.few, c.loop-first-test.true, least);
      read = omega (arith, number);
      counts = λ t tells is. counted.counts t tells (loop.looks.opened t tells is) (loop.counts t tells is);
      needs = λ t tells is.
          let low : k * bits_in size < length t.base.image = omega (arith, here, c.loop-first-test.true, c.count-count.ensures.value, is.files.agrees.count) in
          needs_next t.base.image size c.requires.size (c.requires.room ∙ is.files.agrees.page_size) k low
          (subst (λ (n : ℕ). not_kind t.base.image inventory_kind (inventory_place n k) ≡ None) its_size (counted.test t tells (loop.looks.opened t tells is))) (loop.needs t tells is);
      sum = counted.sum;
      reads = λ tells. pages_read _ _ _ c.loop-first.first c.in_ok-first.first k (λ some. omega (arith, counted.once tells some, counted.end)) (omega (arith, counted.front tells, counted.end)) loop.few (omega (arith, end, c.loop-first-test.true)) (loop.reads tells);
      cause = counted.cause ∙ loop.cause;
    }

pub returns-clause-test : goal.returns-clause-test
returns-clause-test g c t tells is =
    let loop = c.loop-first.invariant in
    let size : ℕ = length c.args.page.now in
    let some : 0 < length t.base.image = omega (arith, some_page t.base.image is.files.agrees.header) in
    let high : length t.base.image ≤ c.loop-first.k * bits_in size = omega (arith, loop.place, c.loop-first-test.false, c.count-count.ensures.value, is.files.agrees.count) in
    needs_done t.base.image size c.requires.size (c.requires.room ∙ is.files.agrees.page_size) c.loop-first.k some high (loop.needs t tells is)

pub returns-in_err-first-clause-looks : goal.returns-in_err-first-clause-looks
returns-in_err-first-clause-looks g c = looks_then c.loop-first.invariant.looks c.in_err-first.ensures.looks
