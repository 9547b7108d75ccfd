use Rattle.std.proofs.Common.{◌≡◌, ℕ, ◌-◌, ◌/◌, sym, ap, subst, ◌∙◌, arith, Bool, true, false, ◌==◌, ◌&&◌, nat_lt}
use Rattle.nb_alloc.proofs.Common.{bits_in, inventory_place, Cause, inventory_of, first_not, entry_on, first_none, inventory_before, inventory_place_some, Tested, need_cause}
use Rattle.nb_alloc.proofs.TestLaws.{inventory_place_is}
use Rattle.nb_alloc.proofs.PassLaws.{map_by}
use Rattle.nb_alloc.proofs.way.check_map_entry.Goals as goal

pub check_unless-requires-clause-low : goal.check_unless-requires-clause-low
check_unless-requires-clause-low g c =
    let some = inventory_place_some c.page_size-page_size.result c.covers-k.result.0 c.page_size-page_size.ensures.one_of in
    omega (arith, some, c.place_of-place.ensures)

pub check_unless-requires-clause-number : goal.check_unless-requires-clause-number
check_unless-requires-clause-number g c =
    let before = inventory_before c.page_size-page_size.result c.args.number c.page_size-page_size.ensures.one_of (omega (arith, c.requires.low)) in
    let there = c.place_of-place.ensures ∙ ap (inventory_place c.page_size-page_size.result) c.covers-k.ensures.number in
    omega (arith, before, there, c.requires.number)

pub returns-then-was_asked-clause-test : goal.returns-then-was_asked-clause-test
returns-then-was_asked-clause-test g c t tells is =
    let image = t.base.image in
    let from : ℕ = c.args.way.now.from in
    let number : ℕ = c.args.number in
    let page_size = c.page_size-page_size.ensures.value ∙ is.files.agrees.page_size in
    let there = inventory_place_is image _ number _ _ c.place_of-place.ensures c.covers-k.ensures.number page_size in
    let asked : (t : Bool) → c.was_asked.result ≡ t → (nat_lt 5 from && inventory_of image number == inventory_of image (from - 1)) ≡ t =
    λ u e. ap (λ (q : ℕ). nat_lt 5 from && q == inventory_of image (from - 1)) (sym there)
    ∙ ap (λ (s : ℕ). nat_lt 5 from && c.place_of-place.result == inventory_place s ((from - 1) / bits_in s)) (sym page_size) ∙ sym c.was_asked.ensures ∙ e in
    ap need_cause (map_by image from c.args.way.now.made number true (asked true c.if-was_asked.true) ∙ first_none image)

pub returns-clause-test : goal.returns-clause-test
returns-clause-test g c t tells is =
    let image = t.base.image in
    let from : ℕ = c.args.way.now.from in
    let number : ℕ = c.args.number in
    let page_size = c.page_size-page_size.ensures.value ∙ is.files.agrees.page_size in
    let there = inventory_place_is image _ number _ _ c.place_of-place.ensures c.covers-k.ensures.number page_size in
    let asked : (t : Bool) → c.was_asked.result ≡ t → (nat_lt 5 from && inventory_of image number == inventory_of image (from - 1)) ≡ t =
    λ u e. ap (λ (q : ℕ). nat_lt 5 from && q == inventory_of image (from - 1)) (sym there)
    ∙ ap (λ (s : ℕ). nat_lt 5 from && c.place_of-place.result == inventory_place s ((from - 1) / bits_in s)) (sym page_size) ∙ sym c.was_asked.ensures ∙ e in
    subst (λ (cause : Cause). Tested c.check_unless.result cause)
    (ap (λ (q : ℕ). need_cause (first_not image (entry_on image c.args.way.now.made q))) there ∙ ap need_cause (sym (map_by image from c.args.way.now.made number false (asked false c.if-was_asked.false))))
    (c.check_unless.ensures.test t tells is)
