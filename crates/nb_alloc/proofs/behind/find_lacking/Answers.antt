use Rattle.std.proofs.Common.{◌≢◌, ℕ, [], ◌∷◌, sym, ap, ◌∙◌, arith, true, false}
use Rattle.nb_alloc.proofs.BehindLaws.{entry_absent, entry_there, entry_lacks}
use Rattle.nb_alloc.proofs.PassLaws.{entries_found}
use Rattle.nb_alloc.proofs.PutLaws.{scn_page-without, other-with}
use Rattle.nb_alloc.proofs.RaiseLaws.{scn_page-is}
use Rattle.nb_alloc.proofs.behind.find_lacking.Goals as goal

pub returns-then-is_place-clause-value : goal.returns-then-is_place-clause-value
returns-then-is_place-clause-value g c t tells is =
    let image = t.base.image in
    let number : ℕ = c.args.number in
    let size = c.page_size-page_size.ensures.value ∙ is.files.agrees.page_size in
    sym (entry_absent image number (scn_page-without image number c.page_size-page_size.result size (sym c.is_place.ensures.value ∙ c.if-is_place.true)))

pub returns-then-there-clause-value : goal.returns-then-there-clause-value
returns-then-there-clause-value g c t tells is =
    let image = t.base.image in
    let number : ℕ = c.args.number in
    let size = c.page_size-page_size.ensures.value ∙ is.files.agrees.page_size in
    let at = scn_page-is image _ c.covers-k.result.0 number c.place_of-place.result size c.covers-k.ensures.number c.place_of-place.ensures in
    let found = entries_found image c.page_size-page_size.result number c.place_of-place.result c.in_ok-there.there true size c.page_size-page_size.ensures.one_of (c.in_ok-there.ensures.value t tells is) c.if-there.true at in
    sym (entry_there image number found)

pub returns-clause-value : goal.returns-clause-value
returns-clause-value g c t tells is =
    let image = t.base.image in
    let number : ℕ = c.args.number in
    let size = c.page_size-page_size.ensures.value ∙ is.files.agrees.page_size in
    let at = scn_page-is image _ c.covers-k.result.0 number c.place_of-place.result size c.covers-k.ensures.number c.place_of-place.ensures in
    let found = entries_found image c.page_size-page_size.result number c.place_of-place.result c.in_ok-there.there false size c.page_size-page_size.ensures.one_of (c.in_ok-there.ensures.value t tells is) c.if-there.false at in
    let some : number ≢ 0 = λ e. absurd (omega (arith, e, c.requires.low)) in
    let has = other-with image number _ size some (sym c.is_place.ensures.value ∙ c.if-is_place.false) in
    ap (λ (n : ℕ). n ∷ []) at ∙ sym (entry_lacks image number has found)

pub returns-clause-place : goal.returns-clause-place
returns-clause-place g c t tells is =
    let image = t.base.image in
    let number : ℕ = c.args.number in
    let size = c.page_size-page_size.ensures.value ∙ is.files.agrees.page_size in
    scn_page-is image _ c.covers-k.result.0 number c.place_of-place.result size c.covers-k.ensures.number c.place_of-place.ensures
