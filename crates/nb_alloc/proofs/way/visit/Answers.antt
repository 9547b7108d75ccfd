use Rattle.std.proofs.Common.{◌≡◌, ◌≢◌, ℕ, refl, sym, ap, ◌∙◌, arith, Bool, true, false, IsTrue}
use Rattle.nb_alloc.proofs.Common.{looks_then, true≢false, is_system_place, most_pages, image_size, first_not, Trail, maps_on, own_entry_on, IsOpen, need_cause, way_cause, plain_unkept}
use Rattle.nb_alloc.proofs.DoesLaws.{tested_on}
use Rattle.nb_alloc.proofs.PassLaws.{way_maps, way_full, way_map_entry, way_own, own_asked, made_plain, fresh_plain}
use Rattle.nb_alloc.proofs.way.visit.Goals as goal
use Rattle.nb_alloc.proofs.way.visit.Goals.{After-is_system_place}

-- The search has come to a page below the greatest number, and the SCN page of its inventory page was tested: that of the page itself decides.
module _ (g : _) (c : goal.After-is_system_place g) (t : Trail) (tells : IsTrue g.H.Host.tells) (is : IsOpen (g.H.Host.world c.args.host.now) c.args.store.now t) where
  still : IsOpen (g.H.Host.world c.check_map_entry.new.host) c.check_map_entry.new.store t
  still = c.in_ok-check_map_entry.ensures.looks.opened t tells (c.in_ok-place.ensures.looks.opened t tells is)

  own : way_cause t.base.image c.args.way.now.from c.args.way.now.made c.args.way.now.fresh ≡ need_cause (first_not t.base.image (own_entry_on t.base.image c.args.way.now.made c.in_ok-place.place))
  own =
      let at = c.in_ok-place.ensures.value t tells is in
      way_own _ _ _ _ _ at (ap (λ (n : ℕ). need_cause (first_not t.base.image (maps_on t.base.image c.args.way.now.from c.args.way.now.fresh n))) at ∙ c.in_ok-place.ensures.test t tells is)
      (λ e. absurd (omega (arith, e, c.if-place-ge-MOST_PAGES.false))) (c.in_ok-check_map_entry.ensures.test t tells (c.in_ok-place.ensures.looks.opened t tells is))

  system : (test : Bool) → c.is_system_place.result ≡ test → is_system_place (image_size t.base.image) c.in_ok-place.place ≡ test
  system test e = ap (λ (s : ℕ). is_system_place s c.in_ok-place.place) (sym (c.page_size-page_size.ensures.value ∙ is.files.agrees.page_size)) ∙ sym c.is_system_place.ensures ∙ e

pub returns-in_err-place-clause-test : goal.returns-in_err-place-clause-test
returns-in_err-place-clause-test g c t tells is =
    tested_on ℕ ℕ _ _ _ _ c.from_residual.ensures (λ r e. way_maps t.base.image c.args.way.now.from c.args.way.now.made c.args.way.now.fresh _ refl r e) (c.in_err-place.ensures.test t tells is)

pub returns-then-place-ge-MOST_PAGES-clause-test : goal.returns-then-place-ge-MOST_PAGES-clause-test
returns-then-place-ge-MOST_PAGES-clause-test g c t tells is =
    let end : c.in_ok-place.place ≡ most_pages = omega (arith, c.in_ok-place.ensures.most, c.if-place-ge-MOST_PAGES.true) in
    way_full t.base.image c.args.way.now.from c.args.way.now.made c.args.way.now.fresh _ refl (c.in_ok-place.ensures.test t tells is) (sym (c.in_ok-place.ensures.value t tells is) ∙ end)

pub returns-in_err-check_map_entry-clause-test : goal.returns-in_err-check_map_entry-clause-test
returns-in_err-check_map_entry-clause-test g c t tells is =
    let at = c.in_ok-place.ensures.value t tells is in
    let maps = ap (λ (n : ℕ). need_cause (first_not t.base.image (maps_on t.base.image c.args.way.now.from c.args.way.now.fresh n))) at ∙ c.in_ok-place.ensures.test t tells is in
    let other : c.in_ok-place.place ≢ most_pages = λ e. absurd (omega (arith, e, c.if-place-ge-MOST_PAGES.false)) in
    tested_on (Unit {0}) ℕ _ _ _ _ c.from_residual-in_err-check_map_entry.ensures (λ r e. way_map_entry _ _ _ _ _ at maps other r e) (c.in_err-check_map_entry.ensures.test t tells (c.in_ok-place.ensures.looks.opened t tells is))

pub returns-in_err-pass-clause-test : goal.returns-in_err-pass-clause-test
returns-in_err-pass-clause-test g c t tells is =
    let tests = (goal.at.returns-in_err-pass-clause-test g c).After-is_system_place in
    tested_on (Unit {0}) ℕ _ _ _ _ c.from_residual-in_err-pass.ensures (λ r e. own g tests t tells is ∙ e) (c.in_err-pass.ensures.test t tells (still g tests t tells is))

pub returns-then-is_system_place-clause-test : goal.returns-then-is_system_place-clause-test
returns-then-is_system_place-clause-test g c t tells is =
    let tests = (goal.at.returns-then-is_system_place-clause-test g c).After-is_system_place in
    own g tests t tells is ∙ c.in_ok-pass.ensures.test t tells (still g tests t tells is)

pub returns-then-is_system_place-clause-value : goal.returns-then-is_system_place-clause-value
returns-then-is_system_place-clause-value g c t tells is = c.in_ok-place.ensures.value t tells is

pub returns-then-is_system_place-clause-made : goal.returns-then-is_system_place-clause-made
returns-then-is_system_place-clause-made g c t tells is = c.in_ok-pass.ensures.made t tells (still g (goal.at.returns-then-is_system_place-clause-made g c).After-is_system_place t tells is)

pub returns-then-is_system_place-clause-fresh : goal.returns-then-is_system_place-clause-fresh
returns-then-is_system_place-clause-fresh g c t tells is = c.in_ok-pass.ensures.fresh t tells (still g (goal.at.returns-then-is_system_place-clause-fresh g c).After-is_system_place t tells is)

pub returns-then-is_system_place-clause-map : goal.returns-then-is_system_place-clause-map
returns-then-is_system_place-clause-map g c t tells is unmade plain =
    absurd (true≢false (sym (system g (goal.at.returns-then-is_system_place-clause-map g c).After-is_system_place t tells is true c.if-is_system_place.true) ∙ plain))

pub returns-in_err-check_unless-clause-test : goal.returns-in_err-check_unless-clause-test
returns-in_err-check_unless-clause-test g c t tells is =
    let tests = (goal.at.returns-in_err-check_unless-clause-test g c).After-is_system_place in
    let plain = system g tests t tells is false c.if-is_system_place.false in
    tested_on (Unit {0}) ℕ _ _ _ _ c.from_residual-in_err-check_unless.ensures (λ r e. own g tests t tells is ∙ ap need_cause (own_asked _ _ _ (plain_unkept _ _ plain)) ∙ e) (c.in_err-check_unless.ensures.test t tells (still g tests t tells is))

pub returns-clause-test : goal.returns-clause-test
returns-clause-test g c t tells is =
    let tests = (goal.at.returns-clause-test g c).After-is_system_place in
    let plain = system g tests t tells is false c.if-is_system_place.false in
    own g tests t tells is ∙ ap need_cause (own_asked _ _ _ (plain_unkept _ _ plain)) ∙ c.in_ok-check_unless.ensures.test t tells (still g tests t tells is)

pub returns-clause-value : goal.returns-clause-value
returns-clause-value g c t tells is = c.in_ok-place.ensures.value t tells is

pub returns-clause-made : goal.returns-clause-made
returns-clause-made g c t tells is = made_plain _ _ _ (system g (goal.at.returns-clause-made g c).After-is_system_place t tells is false c.if-is_system_place.false)

pub returns-clause-fresh : goal.returns-clause-fresh
returns-clause-fresh g c t tells is = fresh_plain _ _ _ (system g (goal.at.returns-clause-fresh g c).After-is_system_place t tells is false c.if-is_system_place.false)

pub returns-clause-map : goal.returns-clause-map
returns-clause-map g c t tells is unmade plain = c.in_ok-place.ensures.map t tells is unmade (omega (arith, c.if-place-ge-MOST_PAGES.false))

pub returns-in_err-pass-clause-looks : goal.returns-in_err-pass-clause-looks
returns-in_err-pass-clause-looks g c = looks_then (looks_then c.in_ok-place.ensures.looks c.in_ok-check_map_entry.ensures.looks) c.in_err-pass.ensures.looks

pub returns-then-is_system_place-clause-looks : goal.returns-then-is_system_place-clause-looks
returns-then-is_system_place-clause-looks g c = looks_then (looks_then c.in_ok-place.ensures.looks c.in_ok-check_map_entry.ensures.looks) c.in_ok-pass.ensures.looks

pub returns-in_err-check_unless-clause-looks : goal.returns-in_err-check_unless-clause-looks
returns-in_err-check_unless-clause-looks g c = looks_then (looks_then c.in_ok-place.ensures.looks c.in_ok-check_map_entry.ensures.looks) c.in_err-check_unless.ensures.looks

pub returns-clause-looks : goal.returns-clause-looks
returns-clause-looks g c = looks_then (looks_then c.in_ok-place.ensures.looks c.in_ok-check_map_entry.ensures.looks) c.in_ok-check_unless.ensures.looks

pub returns-then-is_system_place-clause-within : goal.returns-then-is_system_place-clause-within
returns-then-is_system_place-clause-within g c le = c.in_ok-place.ensures.within le

pub returns-clause-within : goal.returns-clause-within
returns-clause-within g c le = c.in_ok-place.ensures.within le

pub returns-in_err-check_map_entry-clause-looks : goal.returns-in_err-check_map_entry-clause-looks
returns-in_err-check_map_entry-clause-looks g c = looks_then c.in_ok-place.ensures.looks c.in_err-check_map_entry.ensures.looks
