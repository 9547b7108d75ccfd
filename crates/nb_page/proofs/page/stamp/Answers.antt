use Rattle.std.proofs.Common.{◌≡◌, ◌∙◌, ℕ, ◌+◌, ◌%◌, ◌^◌, ◌≤◌, List, length, drop, refl, ap, sym, arith, ◌-◌, length-drop}
use Rattle.nb_page.proofs.Common.{bytes_of, with_part, generation_of, stamped, size_facts, head_written, stamped-rest, padded_whole, drop-page_of, kind_of-page_of, generation_of-page_of, stamp_of-page_of, number_of_page-page_of}
use Rattle.nb_page.specs.Head.{head_in}
use Rattle.nb_page.proofs.page.stamp.Goals as goal

pub returns-clause-written : goal.returns-clause-written
returns-clause-written c =
    let page : List ℕ = c.args.page.now in
    let size = size_facts (length page) c.requires in
    let long : 16 ≤ length page = omega arith in
    let generation : c.from-2.result ≡ (generation_of page + 1) % 2 ^ 32 = c.from-2.ensures ∙ ap (λ n. (n + 1) % 2 ^ 32) c.get.ensures.value in
    head_written page c.put.new.page c.put-2.new.page c.put-3.new.page c.put-4.new.page c.put-5.new.page c.put-6.new.page
    c.args.kind ((generation_of page + 1) % 2 ^ 32) c.args.scn c.args.number (c.ranges.kind.fits) long
    (c.put.ensures.written ∙ ap (λ v. with_part 0 (bytes_of 1 v) page) c.from.ensures)
    c.put-2.ensures.written c.put-3.ensures.written
    (c.put-4.ensures.written ∙ ap (λ v. with_part 4 (bytes_of 4 v) c.put-3.new.page) generation)
    (c.put-5.ensures.written ∙ ap (λ v. with_part 8 (bytes_of 4 v) c.put-4.new.page) c.from-3.ensures)
    (c.put-6.ensures.written ∙ ap (λ v. with_part 12 (bytes_of 4 v) c.put-5.new.page) c.from-4.ensures)
    ∙ sym (stamped-rest page c.args.kind c.args.scn c.args.number long)

pub returns-clause-head : goal.returns-clause-head
unfolding head_in stamped
returns-clause-head c =
    let page : List ℕ = c.args.page.now in
    let generation : ℕ = (generation_of page + 1) % 2 ^ 32 in
    let scn = stamp_of-page_of (length page) c.args.kind generation c.args.scn c.args.number (drop 16 page) c.ranges.scn.fits in
    let number = number_of_page-page_of (length page) c.args.kind generation c.args.scn c.args.number (drop 16 page) c.ranges.number.fits in
    let raised = generation_of-page_of (length page) c.args.kind generation c.args.scn c.args.number (drop 16 page) (omega arith) in
    let kind = kind_of-page_of (length page) c.args.kind generation c.args.scn c.args.number (drop 16 page) in
    ap head_in (returns-clause-written c) ∙ rw (kind, raised, scn, number) refl

pub returns-clause-rest : goal.returns-clause-rest
unfolding stamped
returns-clause-rest c =
    let page : List ℕ = c.args.page.now in
    let size = size_facts (length page) c.requires in
    ap (drop 16) (returns-clause-written c) ∙ drop-page_of (length page) c.args.kind ((generation_of page + 1) % 2 ^ 32) c.args.scn c.args.number (drop 16 page)
    ∙ padded_whole (length page - 16) (drop 16 page) (length-drop 16 page)
