use Rattle.std.proofs.Common.{◌≡◌, ℕ, length, sym, ap, ◌∙◌, arith, Bool}
use Rattle.nb_alloc.proofs.Common.{inventory_kind, inventory_of, not_kind}
use Rattle.nb_alloc.proofs.DoesLaws.{tested_on}
use Rattle.nb_alloc.proofs.TestLaws.{inventory_place_is, reads_bit, free_is}
use Rattle.nb_alloc.proofs.reads.is_page_free.Goals as goal

pub returns-in_err-read-clause-test : goal.returns-in_err-read-clause-test
returns-in_err-read-clause-test g c t tells is =
    let image = t.base.image in
    let at : c.place_of.result ≡ inventory_of image c.args.number = inventory_place_is image _ c.args.number _ _ c.place_of.ensures c.covers-k.ensures.number (c.page_size-page_size.ensures.value ∙ is.files.agrees.page_size) in
    tested_on (Unit {0}) Bool _ _ _ _ c.from_residual.ensures (λ r e. ap (λ (q : ℕ). not_kind image inventory_kind q) (sym at) ∙ e) (c.in_err-read.ensures.reads t tells is).test

pub returns-clause-test : goal.returns-clause-test
returns-clause-test g c t tells is =
    let image = t.base.image in
    let at : c.place_of.result ≡ inventory_of image c.args.number = inventory_place_is image _ c.args.number _ _ c.place_of.ensures c.covers-k.ensures.number (c.page_size-page_size.ensures.value ∙ is.files.agrees.page_size) in
    ap (λ (q : ℕ). not_kind image inventory_kind q) (sym at) ∙ (c.in_ok-read.ensures.reads t tells is).test

pub returns-clause-value : goal.returns-clause-value
returns-clause-value g c t tells is =
    let image = t.base.image in
    let size = c.page_size-page_size.ensures.value ∙ is.files.agrees.page_size in
    let at = inventory_place_is image _ c.args.number _ _ c.place_of.ensures c.covers-k.ensures.number size in
    let read = c.in_ok-read.ensures.reads t tells is in
    let long : length c.read.new.self ≡ c.page_size-page_size.result = omega (arith, c.in_ok-read.ensures.room, c.requires.room, c.page_size-page_size.ensures.value) in
    let bit = reads_bit image _ c.args.number _ c.read.new.self _ at size long read.test read.page c.covers-k.ensures.index c.covers-k.ensures.inside in
    free_is image c.args.number c.read.new.self _ bit _ c.is_used.ensures
