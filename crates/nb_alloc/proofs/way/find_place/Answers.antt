use Rattle.std.proofs.Common.{◌≡◌, ◌≢◌, ℕ, refl, sym, ap, subst, ◌∙◌, arith, IsTrue}
use Rattle.nb_alloc.proofs.Common.{looks_then, is_page_size, most_pages, image_size, inventory_of, next_place, need_cause}
use Rattle.nb_alloc.proofs.DoesLaws.{tested_on}
use Rattle.nb_alloc.proofs.TestLaws.{inventory_place_is}
use Rattle.nb_alloc.proofs.NeedReads.{ends_found, ends_broken, ends_last, tested_by}
use Rattle.nb_alloc.proofs.PassLaws.{place_fresh, place_free, maps_fresh, maps_cause}
use Rattle.nb_alloc.proofs.way.find_place.Goals as goal

pub returns-then-own-fresh-clause-test : goal.returns-then-own-fresh-clause-test
returns-then-own-fresh-clause-test g c t tells is =
    let image = t.base.image in
    let there = inventory_place_is image _ c.args.way.now.from _ _ c.place_of-own.ensures c.covers-k.ensures.number (c.page_size-page_size.ensures.value ∙ is.files.agrees.page_size) in
    maps_fresh image c.args.way.now.from c.args.way.now.fresh (next_place image c.args.way.now.from c.args.way.now.fresh) (sym there ∙ c.if-own-fresh.true)

pub returns-then-own-fresh-clause-value : goal.returns-then-own-fresh-clause-value
returns-then-own-fresh-clause-value g c t tells is =
    let image = t.base.image in
    let there = inventory_place_is image _ c.args.way.now.from _ _ c.place_of-own.ensures c.covers-k.ensures.number (c.page_size-page_size.ensures.value ∙ is.files.agrees.page_size) in
    sym (place_fresh image c.args.way.now.from c.args.way.now.fresh (sym there ∙ c.if-own-fresh.true))

pub returns-then-own-fresh-clause-map : goal.returns-then-own-fresh-clause-map
returns-then-own-fresh-clause-map g c t tells is other =
    let image = t.base.image in
    let there = inventory_place_is image _ c.args.way.now.from _ _ c.place_of-own.ensures c.covers-k.ensures.number (c.page_size-page_size.ensures.value ∙ is.files.agrees.page_size) in
    absurd (other (sym there ∙ c.if-own-fresh.true))

pub returns-in_err-place-clause-test : goal.returns-in_err-place-clause-test
returns-in_err-place-clause-test g c t tells is =
    let image = t.base.image in
    let there = inventory_place_is image _ c.args.way.now.from _ _ c.place_of-own.ensures c.covers-k.ensures.number (c.page_size-page_size.ensures.value ∙ is.files.agrees.page_size) in
    let other : inventory_of image c.args.way.now.from ≢ c.args.way.now.fresh = λ e. c.if-own-fresh.false (there ∙ e) in
    tested_by ℕ ℕ _ _ _ _ c.from_residual.ensures (λ r e. maps_cause image c.args.way.now.from c.args.way.now.fresh _ other refl ∙ e) (c.in_err-place.ensures.refused t tells is)

pub returns-then-place-ge-MOST_PAGES-clause-test : goal.returns-then-place-ge-MOST_PAGES-clause-test
returns-then-place-ge-MOST_PAGES-clause-test g c t tells is =
    let image = t.base.image in
    let there = inventory_place_is image _ c.args.way.now.from _ _ c.place_of-own.ensures c.covers-k.ensures.number (c.page_size-page_size.ensures.value ∙ is.files.agrees.page_size) in
    let size : IsTrue (is_page_size (image_size t.base.image)) = subst (λ (s : ℕ). IsTrue (is_page_size s)) (c.page_size-page_size.ensures.value ∙ is.files.agrees.page_size) c.page_size-page_size.ensures.one_of in
    let other : inventory_of image c.args.way.now.from ≢ c.args.way.now.fresh = λ e. c.if-own-fresh.false (there ∙ e) in
    let at = c.in_ok-place.ensures.value t tells is in
    let end : c.in_ok-place.place ≡ most_pages = omega (arith, c.in_ok-place.ensures.most, c.if-place-ge-MOST_PAGES.true) in
    maps_cause image c.args.way.now.from c.args.way.now.fresh c.in_ok-place.place other at
    ∙ ap need_cause (ends_last image c.args.way.now.from c.in_ok-place.place size at (c.in_ok-place.ensures.maps t tells is) end c.requires.from)

pub returns-then-place-ge-MOST_PAGES-clause-value : goal.returns-then-place-ge-MOST_PAGES-clause-value
returns-then-place-ge-MOST_PAGES-clause-value g c t tells is =
    let image = t.base.image in
    let there = inventory_place_is image _ c.args.way.now.from _ _ c.place_of-own.ensures c.covers-k.ensures.number (c.page_size-page_size.ensures.value ∙ is.files.agrees.page_size) in
    c.in_ok-place.ensures.value t tells is ∙ sym (place_free image c.args.way.now.from c.args.way.now.fresh (λ e. c.if-own-fresh.false (there ∙ e)))

pub returns-then-place-ge-MOST_PAGES-clause-map : goal.returns-then-place-ge-MOST_PAGES-clause-map
returns-then-place-ge-MOST_PAGES-clause-map g c t tells is other low = absurd (omega (arith, low, c.if-place-ge-MOST_PAGES.true))

pub returns-in_err-hold_map-clause-test : goal.returns-in_err-hold_map-clause-test
returns-in_err-hold_map-clause-test g c t tells is =
    let image = t.base.image in
    let there = inventory_place_is image _ c.args.way.now.from _ _ c.place_of-own.ensures c.covers-k.ensures.number (c.page_size-page_size.ensures.value ∙ is.files.agrees.page_size) in
    let size : IsTrue (is_page_size (image_size t.base.image)) = subst (λ (s : ℕ). IsTrue (is_page_size s)) (c.page_size-page_size.ensures.value ∙ is.files.agrees.page_size) c.page_size-page_size.ensures.one_of in
    let other : inventory_of image c.args.way.now.from ≢ c.args.way.now.fresh = λ e. c.if-own-fresh.false (there ∙ e) in
    let found = c.in_ok-place.ensures in
    let at = found.value t tells is in
    tested_on (Unit {0}) ℕ _ _ _ _ c.from_residual-in_err-hold_map.ensures
    (λ r e. maps_cause image c.args.way.now.from c.args.way.now.fresh c.in_ok-place.place other at ∙ ends_broken image c.args.way.now.from c.in_ok-place.place size at (found.maps t tells is) r e)
    (c.in_err-hold_map.ensures.test t tells (found.looks.opened t tells is) (found.map t tells is))

pub returns-clause-test : goal.returns-clause-test
returns-clause-test g c t tells is =
    let image = t.base.image in
    let there = inventory_place_is image _ c.args.way.now.from _ _ c.place_of-own.ensures c.covers-k.ensures.number (c.page_size-page_size.ensures.value ∙ is.files.agrees.page_size) in
    let size : IsTrue (is_page_size (image_size t.base.image)) = subst (λ (s : ℕ). IsTrue (is_page_size s)) (c.page_size-page_size.ensures.value ∙ is.files.agrees.page_size) c.page_size-page_size.ensures.one_of in
    let other : inventory_of image c.args.way.now.from ≢ c.args.way.now.fresh = λ e. c.if-own-fresh.false (there ∙ e) in
    let found = c.in_ok-place.ensures in
    let at = found.value t tells is in
    maps_cause image c.args.way.now.from c.args.way.now.fresh c.in_ok-place.place other at
    ∙ ap need_cause (ends_found image c.args.way.now.from c.in_ok-place.place size at (found.maps t tells is) (c.in_ok-hold_map.ensures.test t tells (found.looks.opened t tells is) (found.map t tells is)))

pub returns-clause-value : goal.returns-clause-value
returns-clause-value g c t tells is =
    let image = t.base.image in
    let there = inventory_place_is image _ c.args.way.now.from _ _ c.place_of-own.ensures c.covers-k.ensures.number (c.page_size-page_size.ensures.value ∙ is.files.agrees.page_size) in
    c.in_ok-place.ensures.value t tells is ∙ sym (place_free image c.args.way.now.from c.args.way.now.fresh (λ e. c.if-own-fresh.false (there ∙ e)))

pub returns-clause-map : goal.returns-clause-map
returns-clause-map g c t tells is other low =
    let found = c.in_ok-place.ensures in
    c.in_ok-hold_map.ensures.map t tells (found.looks.opened t tells is) (found.map t tells is)

pub returns-in_err-hold_map-clause-looks : goal.returns-in_err-hold_map-clause-looks
returns-in_err-hold_map-clause-looks g c = looks_then c.in_ok-place.ensures.looks c.in_err-hold_map.ensures.looks

pub returns-clause-looks : goal.returns-clause-looks
returns-clause-looks g c = looks_then c.in_ok-place.ensures.looks c.in_ok-hold_map.ensures.looks

pub returns-then-own-fresh-clause-within : goal.returns-then-own-fresh-clause-within
returns-then-own-fresh-clause-within g c le = le

pub returns-then-place-ge-MOST_PAGES-clause-within : goal.returns-then-place-ge-MOST_PAGES-clause-within
returns-then-place-ge-MOST_PAGES-clause-within g c le = c.in_ok-place.ensures.within le

pub returns-clause-within : goal.returns-clause-within
returns-clause-within g c le = c.in_ok-place.ensures.within le
