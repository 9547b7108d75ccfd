use Rattle.std.proofs.Common.{◌≡◌, ℕ, List, [], ◌∷◌, ◌++◌, sym, ap, subst, ◌∙◌, arith, true, false}
use Rattle.nb_engine.proofs.Common.{append-nil, inventory_kind, lowest_broken, inventory_of, inventory_place_some, Held, IsOpen, entry_broken, give_broken, page_in, lacking_cause, other_none, other_page, inventory_place_is, looks_named, looks_then}
use Rattle.nb_alloc.proofs.PassLaws.{map_found}
use Rattle.nb_engine.proofs.engine.Engine.free_ready.Goals as goal

pub find_lacking-requires-clause-low : goal.find_lacking-requires-clause-low
find_lacking-requires-clause-low g c =
    let some = inventory_place_some c.page_size-page_size.result c.covers-k.result.0 c.page_size-page_size.ensures.one_of in
    omega (arith, some, c.place_of-place.ensures)

pub returns-then-there-clause-value : goal.returns-then-there-clause-value
returns-then-there-clause-value g c t tells is =
    let here = subst (λ (h : Held). IsOpen (g.H.Host.world c.args.host.now) h t) (sym c.self.view_is) is in
    let image = t.base.image in
    let size = c.page_size-page_size.ensures.value ∙ here.files.agrees.page_size in
    let i : ℕ = inventory_of image c.args.number in
    let at = inventory_place_is image _ c.args.number _ _ c.place_of-place.ensures c.covers-k.ensures.number size in
    let found : page_in c.in_ok-lacking.lacking ≡ entry_broken image i = c.in_ok-lacking.ensures.value t tells here ∙ ap (λ (q : ℕ). entry_broken image q) at in
    let there = c.in_ok-there.ensures.value t tells (c.in_ok-lacking.ensures.looks.opened t tells here) in
    let map = map_found image c.page_size-page_size.result c.args.number c.place_of-place.result c.in_ok-there.there true size c.page_size-page_size.ensures.one_of there c.if-there.true at in
    lacking_cause c.in_ok-lacking.lacking (give_broken image c.args.number) (found ∙ sym (append-nil (entry_broken image i)) ∙ ap (λ (ps : List ℕ). entry_broken image i ++ ps) (sym (other_none image inventory_kind i map)))

pub returns-clause-value : goal.returns-clause-value
returns-clause-value g c t tells is =
    let here = subst (λ (h : Held). IsOpen (g.H.Host.world c.args.host.now) h t) (sym c.self.view_is) is in
    let image = t.base.image in
    let size = c.page_size-page_size.ensures.value ∙ here.files.agrees.page_size in
    let i : ℕ = inventory_of image c.args.number in
    let at = inventory_place_is image _ c.args.number _ _ c.place_of-place.ensures c.covers-k.ensures.number size in
    let found : page_in c.in_ok-lacking.lacking ≡ entry_broken image i = c.in_ok-lacking.ensures.value t tells here ∙ ap (λ (q : ℕ). entry_broken image q) at in
    let there = c.in_ok-there.ensures.value t tells (c.in_ok-lacking.ensures.looks.opened t tells here) in
    let map = map_found image c.page_size-page_size.result c.args.number c.place_of-place.result c.in_ok-there.there false size c.page_size-page_size.ensures.one_of there c.if-there.false at in
    sym c.lower_page.ensures ∙ ap (λ (ps : List ℕ). lowest_broken (ps ++ c.place_of-place.result ∷ [])) found
    ∙ ap (λ (n : ℕ). lowest_broken (entry_broken image i ++ n ∷ [])) at ∙ ap (λ (ps : List ℕ). lowest_broken (entry_broken image i ++ ps)) (sym (other_page image inventory_kind i true map))

pub returns-in_err-there-clause-looks : goal.returns-in_err-there-clause-looks
returns-in_err-there-clause-looks g c = looks_named c.self.view_is (looks_then c.in_ok-lacking.ensures.looks c.in_err-there.ensures.looks)

pub returns-then-there-clause-looks : goal.returns-then-there-clause-looks
returns-then-there-clause-looks g c = looks_named c.self.view_is (looks_then c.in_ok-lacking.ensures.looks c.in_ok-there.ensures.looks)

pub returns-clause-looks : goal.returns-clause-looks
returns-clause-looks g c = looks_named c.self.view_is (looks_then c.in_ok-lacking.ensures.looks c.in_ok-there.ensures.looks)
