use Rattle.std.proofs.Common.{◌≡◌, ℕ, sym, ap, subst, ◌∙◌, Bool, true, false, IsTrue, None}
use Rattle.nb_alloc.proofs.Common.{is_page_size, is_inventory_place, is_system_place, image_size, is_kind, system_kind, first_not, Trail, own_entry_on, IsOpen, need_cause}
use Rattle.nb_alloc.proofs.DoesLaws.{tested_on}
use Rattle.nb_alloc.proofs.PassLaws.{none_is, own_kept, own_asked, kept_there, made_kept, made_map, made_entries, fresh_kept, fresh_map, fresh_entries}
use Rattle.nb_alloc.proofs.way.pass.Goals as goal
use Rattle.nb_alloc.proofs.way.pass.Goals.{After-is_there}

-- The place is that of a system page of the image, whose page size is that of a header.
module _ (g : _) (c : goal.After-is_there g) (t : Trail) (is : IsOpen (g.H.Host.world c.args.host.now) c.args.store.now t) where
  size : IsTrue (is_page_size (image_size t.base.image))
  size = subst (λ (s : ℕ). IsTrue (is_page_size s)) (c.page_size-page_size.ensures.value ∙ is.files.agrees.page_size) c.page_size-page_size.ensures.one_of

  system : is_system_place (image_size t.base.image) c.args.place ≡ true
  system = ap (λ (s : ℕ). is_system_place s c.args.place) (sym is.files.agrees.page_size) ∙ c.requires.system

  map_place : (result test : Bool) → result ≡ is_inventory_place c.page_size-page_size.result c.args.place → result ≡ test → is_inventory_place (image_size t.base.image) c.args.place ≡ test
  map_place result test of e = ap (λ (s : ℕ). is_inventory_place s c.args.place) (sym (c.page_size-page_size.ensures.value ∙ is.files.agrees.page_size)) ∙ sym of ∙ e

pub returns-in_err-there-clause-test : goal.returns-in_err-there-clause-test
returns-in_err-there-clause-test g c t tells is =
    tested_on Bool (Unit {0}) _ _ None _ c.from_residual.ensures (λ r e. none_is r (need_cause (first_not t.base.image (own_entry_on t.base.image c.args.way.now.made c.args.place))) e) tt

pub returns-then-there-clause-test : goal.returns-then-there-clause-test
returns-then-there-clause-test g c t tells is =
    let at = (goal.at.returns-then-there-clause-test g c).After-is_there in
    own_kept t.base.image c.args.way.now.made c.args.place (kept_there _ _ true (system g at t is) (sym (c.in_ok-there.ensures.value t tells is) ∙ c.if-there.true))

pub returns-then-there-clause-made : goal.returns-then-there-clause-made
returns-then-there-clause-made g c t tells is =
    let at = (goal.at.returns-then-there-clause-made g c).After-is_there in
    made_kept t.base.image c.args.place (size g at t is) (sym (c.in_ok-there.ensures.value t tells is) ∙ c.if-there.true) c.args.way.now.made

pub returns-then-there-clause-fresh : goal.returns-then-there-clause-fresh
returns-then-there-clause-fresh g c t tells is =
    let at = (goal.at.returns-then-there-clause-fresh g c).After-is_there in
    fresh_kept t.base.image c.args.place (size g at t is) (sym (c.in_ok-there.ensures.value t tells is) ∙ c.if-there.true) c.args.way.now.fresh

pub returns-in_err-check_unless-clause-test : goal.returns-in_err-check_unless-clause-test
returns-in_err-check_unless-clause-test g c t tells is =
    let at = (goal.at.returns-in_err-check_unless-clause-test g c).After-is_there in
    let none : is_kind t.base.image (system_kind t.base.image c.args.place) c.args.place ≡ false = sym (c.in_ok-there.ensures.value t tells is) ∙ c.if-there.false in
    tested_on (Unit {0}) (Unit {0}) _ _ _ _ c.from_residual-in_err-check_unless.ensures (λ r e. ap need_cause (own_asked _ _ _ (kept_there _ _ false (system g at t is) none)) ∙ e)
    (c.in_err-check_unless.ensures.test t tells (c.in_ok-there.ensures.looks.opened t tells is))

pub returns-then-is_place-clause-test : goal.returns-then-is_place-clause-test
returns-then-is_place-clause-test g c t tells is =
    let at = (goal.at.returns-then-is_place-clause-test g c).After-is_there in
    let none : is_kind t.base.image (system_kind t.base.image c.args.place) c.args.place ≡ false = sym (c.in_ok-there.ensures.value t tells is) ∙ c.if-there.false in
    ap need_cause (own_asked _ _ _ (kept_there _ _ false (system g at t is) none)) ∙ c.in_ok-check_unless.ensures.test t tells (c.in_ok-there.ensures.looks.opened t tells is)

pub returns-then-is_place-clause-made : goal.returns-then-is_place-clause-made
returns-then-is_place-clause-made g c t tells is =
    let at = (goal.at.returns-then-is_place-clause-made g c).After-is_there in
    made_map t.base.image c.args.place (size g at t is) (map_place g at t is _ true c.is_place.ensures.value c.if-is_place.true) c.args.way.now.made

pub returns-then-is_place-clause-fresh : goal.returns-then-is_place-clause-fresh
returns-then-is_place-clause-fresh g c t tells is =
    let at = (goal.at.returns-then-is_place-clause-fresh g c).After-is_there in
    let none : is_kind t.base.image (system_kind t.base.image c.args.place) c.args.place ≡ false = sym (c.in_ok-there.ensures.value t tells is) ∙ c.if-there.false in
    fresh_map t.base.image c.args.place (size g at t is) (map_place g at t is _ true c.is_place.ensures.value c.if-is_place.true) none c.args.way.now.fresh

pub returns-clause-test : goal.returns-clause-test
returns-clause-test g c t tells is =
    let at = (goal.at.returns-clause-test g c).After-is_there in
    let none : is_kind t.base.image (system_kind t.base.image c.args.place) c.args.place ≡ false = sym (c.in_ok-there.ensures.value t tells is) ∙ c.if-there.false in
    ap need_cause (own_asked _ _ _ (kept_there _ _ false (system g at t is) none)) ∙ c.in_ok-check_unless.ensures.test t tells (c.in_ok-there.ensures.looks.opened t tells is)

pub returns-clause-made : goal.returns-clause-made
returns-clause-made g c t tells is =
    let at = (goal.at.returns-clause-made g c).After-is_there in
    let none : is_kind t.base.image (system_kind t.base.image c.args.place) c.args.place ≡ false = sym (c.in_ok-there.ensures.value t tells is) ∙ c.if-there.false in
    made_entries t.base.image c.args.place (size g at t is) (map_place g at t is _ false c.is_place.ensures.value c.if-is_place.false) (system g at t is) none c.args.way.now.made

pub returns-clause-fresh : goal.returns-clause-fresh
returns-clause-fresh g c t tells is =
    let at = (goal.at.returns-clause-fresh g c).After-is_there in
    fresh_entries t.base.image c.args.place (size g at t is) (map_place g at t is _ false c.is_place.ensures.value c.if-is_place.false) c.args.way.now.fresh
