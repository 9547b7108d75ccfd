use Rattle.std.proofs.Common.{rules, ◌≡◌, ◌+◌, ◌*◌, ◌/◌, ◌<◌, ◌≤◌, ℕ, length, sym, ap, subst, ◌∙◌, arith, Option, IsTrue, max}
use Rattle.nb_alloc.proofs.Common.{is_page_size, bits_in, bits-least, image_size, Held, looks_then}
use Rattle.nb_alloc.proofs.FindLaws.{some_near, taken_behind, found_near, found_none, map_near, map_behind, map_last}
use Rattle.nb_alloc.proofs.NeedReads.{read_broken, read_next, read_near, read_end, refused_on, index_same, next_group, next_whole}
use Rattle.nb_alloc.proofs.SearchReads.{no_lower, found_later}
use Rattle.nb_alloc.proofs.find.next_free.Goals as goal

pub returns-in-Some-clause-value : goal.returns-in-Some-clause-value
returns-in-Some-clause-value g c t tells is =
    let still = c.loop-page.invariant.looks.opened t tells is in
    found_near t.base.image c.args.from c.loop-page.page c.in-Some.free (c.loop-page.invariant.taken t tells is) c.loop-page.invariant.behind
    (some_near t.base.image c.loop-page.page _ c.in-Some.free _ c.in-Some.is (c.in_ok-free.ensures.found t tells still))

pub returns-clause-value : goal.returns-clause-value
returns-clause-value g c t tells is =
    let count = c.count-count.ensures.value ∙ is.files.agrees.count in
    let end : length t.base.image ≤ c.loop-page.page = omega (arith, count, c.loop-page-test.false) in
    c.max.ensures ∙ ap (λ (n : ℕ). max c.args.from n) count ∙ found_none t.base.image c.args.from c.loop-page.page (c.loop-page.invariant.taken t tells is) end

pub returns-in-Some-clause-map : goal.returns-in-Some-clause-map
returns-in-Some-clause-map g c t tells is inside =
    let still = c.loop-page.invariant.looks.opened t tells is in
    let read = c.in_ok-free.ensures.reads t tells still in
    map_near t.base.image c.loop-page.page c.in-Some.free _ (some_near t.base.image c.loop-page.page _ c.in-Some.free _ c.in-Some.is (c.in_ok-free.ensures.found t tells still)) read.test read.page

pub returns-clause-map : goal.returns-clause-map
returns-clause-map g c t tells is =
    let count = c.count-count.ensures.value ∙ is.files.agrees.count in
    let end : length t.base.image ≤ c.loop-page.page = omega (arith, count, c.loop-page-test.false) in
    map_last t.base.image c.args.from c.loop-page.page _ _ end (c.max.ensures ∙ ap (λ (n : ℕ). max c.args.from n) count) (c.loop-page.invariant.looked t tells is)

pub loop-page-preserved : goal.loop-page-preserved
loop-page-preserved g c = record {
  behind = search rules;
  taken = λ t tells is.
      let still = c.loop-page.invariant.looks.opened t tells is in
      let same = c.page_size-page_size.ensures.value ∙ ap (λ (h : Held). h.files.page_size) (sym c.loop-page.invariant.looks.same) in
      taken_behind t.base.image c.args.from c.loop-page.page _ _ _ c.in_ok-free.field-0 same c.behind_bits-page.ensures c.in_default.is (c.loop-page.invariant.taken t tells is) (c.in_ok-free.ensures.found t tells still);
  looked = λ t tells is inside.
      let still = c.loop-page.invariant.looks.opened t tells is in
      let size = c.page_size-page_size.ensures.value ∙ is.files.agrees.page_size in
      let low : c.loop-page.page < length t.base.image = omega (arith, is.files.agrees.count, c.count-count.ensures.value, c.loop-page-test.true) in
      let least : 0 < bits_in c.page_size-page_size.result = omega (arith, bits-least c.page_size-page_size.result c.page_size-page_size.ensures.one_of) in
      let read = c.in_ok-free.ensures.reads t tells still in
      map_behind t.base.image c.page_size-page_size.result c.loop-page.page _ _ size least low c.behind_bits-page.ensures read.test read.page;
  maps = λ t tells is k low high.
      let still = c.loop-page.invariant.looks.opened t tells is in
      let size = c.page_size-page_size.ensures.value ∙ is.files.agrees.page_size in
      let one_of : IsTrue (is_page_size (image_size t.base.image)) = subst (λ (s : ℕ). IsTrue (is_page_size s)) size c.page_size-page_size.ensures.one_of in
      let some : 0 < bits_in (image_size t.base.image) = omega (arith, bits-least (image_size t.base.image) one_of) in
      let group = next_group c.loop-page.page (bits_in (image_size t.base.image)) c.behind_bits-page.result some (subst (λ (s : ℕ). c.behind_bits-page.result ≡ (c.loop-page.page / bits_in s + 1) * bits_in s) size c.behind_bits-page.ensures) in
      read_next t.base.image c.args.from c.loop-page.page one_of c.loop-page.invariant.behind (c.loop-page.invariant.maps t tells is) (c.in_ok-free.ensures.reads t tells still).test k low (omega (arith, high, group));
  whole = λ more.
      let some : 0 < bits_in c.page_size-page_size.result = omega (arith, bits-least c.page_size-page_size.result c.page_size-page_size.ensures.one_of) in
      subst (λ (s : ℕ). c.behind_bits-page.result / bits_in s * bits_in s ≡ c.behind_bits-page.result) c.page_size-page_size.ensures.value (next_whole c.loop-page.page (bits_in c.page_size-page_size.result) c.behind_bits-page.result some c.behind_bits-page.ensures);
  room = c.in_ok-free.ensures.room ∙ c.loop-page.invariant.room;
  looks = looks_then c.loop-page.invariant.looks c.in_ok-free.ensures.looks;
  once = search rules;
  cause = c.in_ok-free.ensures.cause ∙ c.loop-page.invariant.cause;
}

pub returns-in-Some-clause-up_to : goal.returns-in-Some-clause-up_to
returns-in-Some-clause-up_to g c tells =
    let w : ℕ = bits_in c.args.store.now.files.page_size in
    let behind = found_later _ c.loop-page.page c.in-Some.free c.in-Some.is c.in_ok-free.ensures.not_before in
    let start = no_lower w c.args.from c.loop-page.page c.loop-page.invariant.behind in
    let end = no_lower w c.loop-page.page c.in-Some.free behind in
    omega (arith, c.loop-page.invariant.once tells, c.in_ok-free.ensures.once tells, start, end)

pub returns-clause-up_to : goal.returns-clause-up_to
returns-clause-up_to g c tells =
    let w : ℕ = bits_in c.args.store.now.files.page_size in
    let start = no_lower w c.args.from c.max.result (omega (arith, c.max.ensures)) in
    let end = no_lower w c.args.store.now.files.count c.max.result (omega (arith, c.max.ensures, c.count-count.ensures.value)) in
    omega (arith, c.loop-page.invariant.once tells, start, end)

pub returns-in_err-free-clause-refused : goal.returns-in_err-free-clause-refused
returns-in_err-free-clause-refused g c t tells is =
    let still = c.loop-page.invariant.looks.opened t tells is in
    let low : c.loop-page.page < length t.base.image = omega (arith, is.files.agrees.count, c.count-count.ensures.value, c.loop-page-test.true) in
    let size : IsTrue (is_page_size (image_size t.base.image)) = subst (λ (s : ℕ). IsTrue (is_page_size s)) (c.page_size-page_size.ensures.value ∙ is.files.agrees.page_size) c.page_size-page_size.ensures.one_of in
    refused_on (Option ℕ) ℕ _ _ _ _ c.from_residual.ensures
    (λ r e. read_broken t.base.image c.args.from c.loop-page.page size c.loop-page.invariant.behind (c.loop-page.invariant.maps t tells is) r (c.loop-page.invariant.taken t tells is) low e)
    (c.in_err-free.ensures.reads t tells still).test

pub returns-in-Some-clause-maps : goal.returns-in-Some-clause-maps
returns-in-Some-clause-maps g c t tells is =
    let still = c.loop-page.invariant.looks.opened t tells is in
    let size : IsTrue (is_page_size (image_size t.base.image)) = subst (λ (s : ℕ). IsTrue (is_page_size s)) (c.page_size-page_size.ensures.value ∙ is.files.agrees.page_size) c.page_size-page_size.ensures.one_of in
    let read = c.in_ok-free.ensures.reads t tells still in
    let near = some_near t.base.image c.loop-page.page _ c.in-Some.free _ c.in-Some.is (c.in_ok-free.ensures.found t tells still) in
    read_near t.base.image c.args.from c.loop-page.page size c.loop-page.invariant.behind (c.loop-page.invariant.maps t tells is) c.in-Some.free (index_same (image_size t.base.image) c.loop-page.page c.in-Some.free size near.same) read.test

pub returns-clause-maps : goal.returns-clause-maps
returns-clause-maps g c t tells is =
    let count = c.count-count.ensures.value ∙ is.files.agrees.count in
    let end : length t.base.image ≤ c.loop-page.page = omega (arith, count, c.loop-page-test.false) in
    let size : IsTrue (is_page_size (image_size t.base.image)) = subst (λ (s : ℕ). IsTrue (is_page_size s)) (c.page_size-page_size.ensures.value ∙ is.files.agrees.page_size) c.page_size-page_size.ensures.one_of in
    read_end t.base.image c.args.from c.loop-page.page size c.loop-page.invariant.behind (c.loop-page.invariant.maps t tells is) c.max.result
    (λ more. subst (λ (s : ℕ). c.loop-page.page / bits_in s * bits_in s ≡ c.loop-page.page) is.files.agrees.page_size (c.loop-page.invariant.whole more)) end

pub returns-in-Some-clause-within : goal.returns-in-Some-clause-within
returns-in-Some-clause-within g c le =
    let below = rw c.in-Some.is at c.in_ok-free.ensures.below in
    omega (arith, below, ap (λ (h : Held). h.files.count) c.loop-page.invariant.looks.same)

pub returns-clause-within : goal.returns-clause-within
returns-clause-within g c le = omega (arith, c.max.ensures, c.count-count.ensures.value, le)

pub returns-in-Some-clause-looks : goal.returns-in-Some-clause-looks
returns-in-Some-clause-looks g c = looks_then c.loop-page.invariant.looks c.in_ok-free.ensures.looks

pub returns-in_err-free-clause-looks : goal.returns-in_err-free-clause-looks
returns-in_err-free-clause-looks g c = looks_then c.loop-page.invariant.looks c.in_err-free.ensures.looks
