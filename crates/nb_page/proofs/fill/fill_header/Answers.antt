use Rattle.std.proofs.Common.{◌∙◌, ℕ, List, length, replicate, refl, ap, arith}
use Rattle.nb_page.proofs.Common.{bytes_of, with_part, control_block, header_payload, size_facts}
use Rattle.nb_page.proofs.HeaderLaws.{length-control_block}
use Rattle.nb_page.proofs.FillLaws.{header_filled}
use Rattle.nb_page.proofs.fill.fill_header.Goals as goal

pub returns : goal.returns
unfolding header_payload bytes_of
returns c =
    let page : List ℕ = c.args.page.now in
    let nil : List ℕ = replicate 16 0 in
    let size = size_facts (length page) c.requires.size in
    let block : List ℕ = control_block (length page) 0 1 nil nil in
    c.put-3.ensures.written ∙ ap (λ v. with_part 76 (bytes_of 4 v) c.put-2.new.page) c.from-2.ensures
    ∙ ap (with_part 76 (bytes_of 4 4)) (c.put-2.ensures.written ∙ ap (λ v. with_part 72 (bytes_of 4 v) c.put.new.page) c.from.ensures
    ∙ ap (with_part 72 (bytes_of 4 3)) (c.put.ensures.written ∙ ap (with_part 64 (bytes_of 1 1)) c.write_header.ensures.written))
    ∙ header_filled page block (bytes_of 1 1) (bytes_of 4 3) (bytes_of 4 4) (length-control_block (length page) 0 1 nil nil refl refl) refl refl refl (omega arith) c.requires.blank
