use Rattle.std.proofs.Common.{◌≡◌, length, sym, ap, subst, ◌∙◌, false, ◌==◌}
use Rattle.nb_alloc.proofs.Common.{as_answer, is_zeros, size_facts, Page, page}
use Rattle.nb_alloc.proofs.RaiseLaws.{stamped-some, raw_page}
use Rattle.nb_alloc.proofs.PageLaws.{makes_one}
use Rattle.nb_alloc.proofs.put.write_raw.Goals as goal

pub write-requires-clause-some : goal.write-requires-clause-some
write-requires-clause-some g c =
    subst (λ (x : Page). is_zeros x ≡ false) (sym c.stamp.ensures.written) (stamped-some c.put_text.new.page c.code.result _ c.scn.result c.args.number (ap (λ k. k == 0) c.code.ensures))

pub returns-clause-makes : goal.returns-clause-makes
returns-clause-makes g c t tells is before =
    let size = size_facts (length c.args.page.now) c.requires.size in
    let bytes = raw_page t.base.image c.args.page.now c.put_text.new.page c.stamp.new.page c.args.text.now c.code.result c.scn.result c.args.number
    c.put_text.ensures.written c.stamp.ensures.written c.code.ensures c.requires.short size.at_least before (c.scn.ensures ∙ is.agrees.scn) in
    makes_one (as_answer c.write.result) _ _ _ _ t _ _ (ap (λ (x : Page). page c.args.number x) bytes) (c.write.ensures.makes t tells is)
