use Rattle.std.proofs.Common.{ℕ, [], ◌∷◌, sym, subst, ◌∙◌, Bool, IsTrue}
use Rattle.nb_engine.proofs.Common.{is_page_size, inventory_kind, scn_kind, image_size, inventory_of, scn_page_of, first_cause, not_kind, not_of_form, no_scn, taken_draft, tested_on, tested_by_name, looks_then}
use Rattle.nb_engine.proofs.RoomLaws.{inventory_refused, scn_refused, free_refused, room_cause}
use Rattle.nb_engine.proofs.room.check_room.Goals as goal

pub returns-in_err-free-clause-test : goal.returns-in_err-free-clause-test
returns-in_err-free-clause-test g c t tells is kind =
    let image = t.base.image in
    let p : ℕ = c.args.number in
    let size : IsTrue (is_page_size (image_size image)) = subst (λ (n : ℕ). IsTrue (is_page_size n)) is.files.agrees.page_size c.requires.size in
    tested_on Bool (Unit {0}) _ _ (not_kind image inventory_kind (inventory_of image p)) (first_cause (not_of_form (taken_draft image p) ∷ no_scn image ∷ [])) c.from_residual.ensures (inventory_refused image p size c.requires.low kind) (c.in_err-free.ensures.test t tells is)

pub returns-in_err-check_scn_page-clause-test : goal.returns-in_err-check_scn_page-clause-test
returns-in_err-check_scn_page-clause-test g c t tells is kind =
    let image = t.base.image in
    let p : ℕ = c.args.number in
    let size : IsTrue (is_page_size (image_size image)) = subst (λ (n : ℕ). IsTrue (is_page_size n)) is.files.agrees.page_size c.requires.size in
    let free = c.in_ok-free.ensures in
    let here = free.looks.opened t tells is in
    tested_on (Unit {0}) (Unit {0}) _ _ (not_kind image scn_kind (scn_page_of image p)) (first_cause (not_of_form (taken_draft image p) ∷ no_scn image ∷ [])) c.from_residual-in_err-check_scn_page.ensures
    (scn_refused image p size c.requires.low kind (free.test t tells is)) (c.in_err-check_scn_page.ensures.test t tells here)

pub returns-then-free-clause-test : goal.returns-then-free-clause-test
returns-then-free-clause-test g c t tells is kind =
    let image = t.base.image in
    let p : ℕ = c.args.number in
    let size : IsTrue (is_page_size (image_size image)) = subst (λ (n : ℕ). IsTrue (is_page_size n)) is.files.agrees.page_size c.requires.size in
    let free = c.in_ok-free.ensures in
    let here = free.looks.opened t tells is in
    free_refused image p size c.requires.low kind (free.test t tells is) (c.in_ok-check_scn_page.ensures.test t tells here) (sym (free.value t tells is) ∙ c.if-free.true)

pub returns-clause-test : goal.returns-clause-test
returns-clause-test g c t tells is kind =
    let image = t.base.image in
    let p : ℕ = c.args.number in
    let size : IsTrue (is_page_size (image_size image)) = subst (λ (n : ℕ). IsTrue (is_page_size n)) is.files.agrees.page_size c.requires.size in
    let free = c.in_ok-free.ensures in
    let here = free.looks.opened t tells is in
    tested_by_name c.check_scn.result _ _ (room_cause image p size c.requires.low kind (free.test t tells is) (c.in_ok-check_scn_page.ensures.test t tells here) (sym (free.value t tells is) ∙ c.if-free.false))
    (c.check_scn.ensures.test image (c.scn-scn.ensures ∙ is.agrees.scn))

pub returns-in_err-check_scn_page-clause-looks : goal.returns-in_err-check_scn_page-clause-looks
returns-in_err-check_scn_page-clause-looks g c = looks_then c.in_ok-free.ensures.looks c.in_err-check_scn_page.ensures.looks

pub returns-then-free-clause-looks : goal.returns-then-free-clause-looks
returns-then-free-clause-looks g c = looks_then c.in_ok-free.ensures.looks c.in_ok-check_scn_page.ensures.looks

pub returns-clause-looks : goal.returns-clause-looks
returns-clause-looks g c = looks_then c.in_ok-free.ensures.looks c.in_ok-check_scn_page.ensures.looks
