use Rattle.std.proofs.Common.{ℕ, List, sym, ap, subst, ◌∙◌, arith, Some, None, Err}
use Rattle.nb_check.proofs.Common.{Fault, Unsound, unsound_by, covered, unsound, Image, image_size, Tested, tested_on, Marks, IsFirstBelow, AreSized}
use Rattle.nb_check.proofs.BreakLaws.{unsound_first, unsound_not}
use Rattle.nb_check.proofs.TakenLaws.{taken_none}
use Rattle.nb_check.proofs.checking.taken_data.Goals as goal

-- no page comes before the first
none_yet : (image : Image) → IsFirstBelow image 0 None
none_yet image f p low = absurd (omega (arith, low))

pub returns-in_err-taken-clause-test : goal.returns-in_err-taken-clause-test
returns-in_err-taken-clause-test g c t tells is =
    let cause = unsound_by (unsound t.base.image) in
    tested_on (List ℕ) Marks _ _ cause cause c.from_residual.ensures (λ r e. e) (subst (λ (f : Fault). Tested {T = List ℕ} (Err f) cause) (sym c.in_err-taken.ensures.only_memory) tt)

pub returns-in_err-danger-clause-test : goal.returns-in_err-danger-clause-test
returns-in_err-danger-clause-test g c t tells is =
    let cause = unsound_by (unsound t.base.image) in
    tested_on (List ℕ) Marks _ _ cause cause c.from_residual-in_err-danger.ensures (λ r e. e) (subst (λ (f : Fault). Tested {T = List ℕ} (Err f) cause) (sym c.in_err-danger.ensures.only_memory) tt)

pub returns-in-Some-clause-test : goal.returns-in-Some-clause-test
returns-in-Some-clause-test g c t tells is =
    let image = t.base.image in
    let first : IsFirstBelow image (covered image) (Some c.in-Some.broken) = subst (IsFirstBelow image (covered image)) c.in-Some.is (c.in_ok-pass.ensures.broken t tells is (none_yet image)) in
    ap unsound_by (unsound_first image c.in-Some.broken first) ∙ ap (λ (n : ℕ). Some (Unsound n c.in-Some.broken.page)) (sym c.number.ensures)

pub returns-clause-test : goal.returns-clause-test
returns-clause-test g c t tells is =
    let image = t.base.image in
    ap unsound_by (unsound_not image (subst (IsFirstBelow image (covered image)) c.in_default.is (c.in_ok-pass.ensures.broken t tells is (none_yet image))))

pub returns-clause-taken : goal.returns-clause-taken
returns-clause-taken g c t tells is long = c.in_ok-pass.ensures.taken t tells is (omega (arith, long)) (taken_none t.base.image _ c.in_ok-taken.ensures.empty)

pub returns-clause-sizes : goal.returns-clause-sizes
returns-clause-sizes g c t tells is =
    subst (λ (n : ℕ). AreSized t.base.image n (image_size t.base.image)) is.files.agrees.count
    (subst (λ (s : ℕ). AreSized t.base.image c.args.engine.now.files.count s) (c.requires.room ∙ is.files.agrees.page_size) (c.in_ok-pass.ensures.sizes t tells is))
