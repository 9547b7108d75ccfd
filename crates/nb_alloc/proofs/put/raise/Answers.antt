use Rattle.std.proofs.Common.{◌≡◌, ◌/◌, ℕ, length, ap, ◌∙◌, arith}
use Rattle.nb_alloc.proofs.Common.{as_answer, entries_in, scn_place, entries-least, Page, page}
use Rattle.nb_alloc.proofs.PutLaws.{may_raise, scn_place-some}
use Rattle.nb_alloc.proofs.RaiseLaws.{raise_stroke-is}
use Rattle.nb_alloc.proofs.PageLaws.{makes_one}
use Rattle.nb_alloc.proofs.put.raise.Goals as goal

pub write-requires-clause-control_block : goal.write-requires-clause-control_block
write-requires-clause-control_block g c first tells =
    let entries = entries-least c.page_size-page_size.result c.page_size-page_size.ensures.one_of in
    absurd (omega (arith, first, c.place_of-place.ensures, scn_place-some c.page_size-page_size.result c.covers-k.result.0 (omega (arith, entries))))

pub write-requires-clause-low : goal.write-requires-clause-low
write-requires-clause-low g c =
    let at = c.place_of-place.ensures ∙ ap (λ (k : ℕ). scn_place c.page_size-page_size.result k) c.covers-k.ensures.number ∙ ap (λ (s : ℕ). scn_place s (c.args.number / entries_in s)) c.page_size-page_size.ensures.value in
    omega (arith, at, c.requires.inside)

pub returns-clause-makes : goal.returns-clause-makes
returns-clause-makes g c t tells is none must before =
    let image = t.base.image in
    let p : ℕ = c.args.number in
    let place : ℕ = c.place_of-place.result in
    let size = c.page_size-page_size.ensures.value ∙ is.files.agrees.page_size in
    let may = may_raise image p none must in
    let long : c.page_size-page_size.result ≡ length c.args.scn_page.now = omega (arith, c.requires.room, c.page_size-page_size.ensures.value) in
    let stroke = raise_stroke-is image _ p c.covers-k.result.0 c.covers-k.result.1 place c.scn.result c.args.scn_page.now c.raise.new.self size c.covers-k.ensures.number c.covers-k.ensures.index c.place_of-place.ensures
    long c.covers-k.ensures.inside before (c.scn.ensures ∙ is.agrees.scn) may.below c.raise.ensures.page in
    makes_one (as_answer c.write.result) _ _ _ _ t _ _ (ap (λ (x : Page). page place x) c.as_slice.ensures ∙ stroke) (c.write.ensures.makes t tells is)
