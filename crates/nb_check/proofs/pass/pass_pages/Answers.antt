use Rattle.std.proofs.Common.{◌≡◌, inl, inr, ℕ, ◌+◌, ◌-◌, length, refl, sym, ap, subst, ◌∙◌, arith, IsTrue}
use Rattle.nb_check.proofs.Common.{is_page_size, looks_then, page_at, Held, IsFirstBelow, HoldsTaken, AreSized, IsMapOf, HasEntryOf, first_twice, looks_begun}
use Rattle.nb_check.proofs.PassLaws.{below_more}
use Rattle.nb_check.proofs.pass.pass_pages.Goals as goal

pub loop-number-preserved : goal.loop-number-preserved
loop-number-preserved g c =
    let loop = c.loop-number.invariant in
    let passed = c.in_ok-pass_page.ensures in
    let n : ℕ = c.loop-number.number in
    record {
      looks = looks_then loop.looks passed.looks;
      broken = λ t tells is entries none. passed.broken t tells (loop.looks.opened t tells is) (loop.entries t tells is entries) (loop.broken t tells is entries none);
      taken = λ t tells is map some none. passed.taken t tells (loop.looks.opened t tells is) (loop.map t tells is map) some (loop.taken t tells is map some none);
      map = λ t tells is map. passed.map t tells (loop.looks.opened t tells is) (loop.map t tells is map);
      entries = λ t tells is entries.
          let back : n ≡ n + 1 - 1 = omega arith in
          subst (λ (m : ℕ). HasEntryOf t.base.image m c.pass_page.new.entries) back (passed.entries t tells (loop.looks.opened t tells is) (loop.entries t tells is entries));
      sizes = λ t tells is p low. elim (below_more p n low) [
        | inl less ↦ loop.sizes t tells is p less
        | inr same ↦ ap (λ (m : ℕ). length (page_at t.base.image m)) same ∙ passed.sized t tells (loop.looks.opened t tells is) ∙ loop.sized
      ];
      room = passed.taken_room ∙ loop.room;
      sized = omega (arith, c.pass_page.auto.page, loop.sized);
      map_sized = omega (arith, c.pass_page.auto.map, loop.map_sized);
      entries_sized = omega (arith, c.pass_page.auto.entries, loop.entries_sized);
      once = λ tells. first_twice _ _ _ n (passed.once tells) (passed.twice tells) (loop.once tells);
      cause = passed.cause ∙ loop.cause;
    }

pub loop-number-init : goal.loop-number-init
loop-number-init g c = record {
  looks = looks_begun (g.H.Host.world c.args.host.now) (g.met.H.Host.timely c.args.host.now);
  broken = λ t tells is entries none. none;
  taken = λ t tells is map some none. none;
  map = λ t tells is map. map;
  entries = λ t tells is entries. entries;
  sizes = λ t tells is p low. absurd (omega (arith, low));
  room = refl;
  sized = refl;
  map_sized = refl;
  entries_sized = refl;
  once = λ tells. omega arith;
  cause = refl;
}

pub pass_page-requires-clause-size : goal.pass_page-requires-clause-size
pass_page-requires-clause-size g c = subst (λ (s : ℕ). IsTrue (is_page_size s)) (sym c.loop-number.invariant.sized) c.requires.size

pub pass_page-requires-clause-room : goal.pass_page-requires-clause-room
pass_page-requires-clause-room g c = omega (arith, c.loop-number.invariant.sized, c.requires.room, ap (λ (h : Held). h.files.page_size) c.loop-number.invariant.looks.same)

pub pass_page-requires-clause-map : goal.pass_page-requires-clause-map
pass_page-requires-clause-map g c = omega (arith, c.loop-number.invariant.sized, c.loop-number.invariant.map_sized, c.requires.map)

pub pass_page-requires-clause-entries : goal.pass_page-requires-clause-entries
pass_page-requires-clause-entries g c = omega (arith, c.loop-number.invariant.sized, c.loop-number.invariant.entries_sized, c.requires.entries)

pub pass_page-requires-clause-below : goal.pass_page-requires-clause-below
pass_page-requires-clause-below g c = omega (arith, c.loop-number-test.true, c.count-count.ensures.value, ap (λ (h : Held). h.files.count) c.loop-number.invariant.looks.same)

pub pass_page-requires-clause-most : goal.pass_page-requires-clause-most
pass_page-requires-clause-most g c = omega (arith, c.count-count.ensures.most, c.count-count.ensures.value, ap (λ (h : Held). h.files.count) c.loop-number.invariant.looks.same)

pub pass_page-requires-clause-fits : goal.pass_page-requires-clause-fits
pass_page-requires-clause-fits g c = omega (arith, c.requires.fits, c.loop-number.invariant.room, ap (λ (h : Held). h.files.count) c.loop-number.invariant.looks.same)

pub returns-in_err-pass_page-clause-looks : goal.returns-in_err-pass_page-clause-looks
returns-in_err-pass_page-clause-looks g c =
    looks_then c.loop-number.invariant.looks c.in_err-pass_page.ensures.looks

pub returns-in_err-pass_page-clause-once : goal.returns-in_err-pass_page-clause-once
returns-in_err-pass_page-clause-once g c tells =
    let passed = c.in_err-pass_page.ensures in
    let one = first_twice _ _ _ c.loop-number.number (passed.once tells) (passed.twice tells) (c.loop-number.invariant.once tells) in
    omega (arith, one, c.loop-number-test.true, c.count-count.ensures.value)

pub returns-clause-broken : goal.returns-clause-broken
returns-clause-broken g c t tells is entries first =
    let all : c.loop-number.number ≡ c.args.engine.now.files.count = omega (arith, c.loop-number-test.false, c.loop-number.auto.number-end, c.count-count.ensures.value) in
    subst (λ (n : ℕ). IsFirstBelow t.base.image n c.loop-number.found.broken) all (c.loop-number.invariant.broken t tells is entries first)

pub returns-clause-taken : goal.returns-clause-taken
returns-clause-taken g c t tells is map some none =
    let all : c.loop-number.number ≡ c.args.engine.now.files.count = omega (arith, c.loop-number-test.false, c.loop-number.auto.number-end, c.count-count.ensures.value) in
    subst (λ (n : ℕ). HoldsTaken t.base.image n c.loop-number.found.taken) all (c.loop-number.invariant.taken t tells is map some none)

pub returns-clause-map : goal.returns-clause-map
returns-clause-map g c t tells is map =
    let all : c.loop-number.number ≡ c.args.engine.now.files.count = omega (arith, c.loop-number-test.false, c.loop-number.auto.number-end, c.count-count.ensures.value) in
    subst (λ (n : ℕ). IsMapOf t.base.image n c.loop-number.map) all (c.loop-number.invariant.map t tells is map)

pub returns-clause-entries : goal.returns-clause-entries
returns-clause-entries g c t tells is entries =
    let all : c.loop-number.number ≡ c.args.engine.now.files.count = omega (arith, c.loop-number-test.false, c.loop-number.auto.number-end, c.count-count.ensures.value) in
    subst (λ (n : ℕ). HasEntryOf t.base.image (n - 1) c.loop-number.entries) all (c.loop-number.invariant.entries t tells is entries)

pub returns-clause-sizes : goal.returns-clause-sizes
returns-clause-sizes g c t tells is =
    let all : c.loop-number.number ≡ c.args.engine.now.files.count = omega (arith, c.loop-number-test.false, c.loop-number.auto.number-end, c.count-count.ensures.value) in
    subst (λ (n : ℕ). AreSized t.base.image n (length c.args.page.now)) all (c.loop-number.invariant.sizes t tells is)

pub returns-clause-once : goal.returns-clause-once
returns-clause-once g c tells = omega (arith, c.loop-number.invariant.once tells, c.loop-number-test.false, c.loop-number.auto.number-end, c.count-count.ensures.value)
