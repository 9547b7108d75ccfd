use Rattle.std.proofs.Common.{◌≡◌, ◌∙◌, ℕ, List, length, sym, ap, arith}
use Rattle.nb_page.proofs.Common.{bytes_of, with_part, is_header, size_facts, Header, header_in}
use Rattle.nb_page.proofs.HeaderLaws.{control_block_written, header_in-control_block, is_header-control_block}
use Rattle.nb_page.proofs.header.write_header.Goals as goal

pub returns-clause-written : goal.returns-clause-written
returns-clause-written c =
    let size = size_facts (length c.args.page.now) c.requires in
    let guid_len : length c.args.header.now.guid ≡ 16 = omega arith in
    control_block_written c.args.page.now c.put.new.page c.put-2.new.page c.put-3.new.page c.put-4.new.page c.put-5.new.page c.put-6.new.page c.put-7.new.page
    c.args.header.now.page_size c.args.header.now.state c.args.header.now.scn c.args.header.now.guid c.args.header.now.pending
    guid_len (omega arith)
    c.put.ensures.written c.put-2.ensures.written
    (c.put-3.ensures.written ∙ ap (λ v. with_part 22 (bytes_of 2 v) c.put-2.new.page) c.from.ensures)
    (c.put-4.ensures.written ∙ ap (λ v. with_part 24 (bytes_of 4 v) c.put-3.new.page) c.from-2.ensures)
    (c.put-5.ensures.written ∙ ap (λ v. with_part 28 (bytes_of 4 v) c.put-4.new.page) c.from-3.ensures)
    c.put-6.ensures.written c.put-7.ensures.written

pub returns-clause-read_back : goal.returns-clause-read_back
returns-clause-read_back c =
    let page : List ℕ = c.args.page.now in
    let size = size_facts (length page) c.requires in
    let header : Header = c.args.header.now in
    let guid_len : length header.guid ≡ 16 = omega arith in
    let pending_len : length header.pending ≡ 16 = omega arith in
    ap header_in (returns-clause-written c) ∙ header_in-control_block page header (omega arith) guid_len pending_len (omega arith) (omega arith) (omega arith)

pub returns-clause-form : goal.returns-clause-form
returns-clause-form c kind number form =
    let size = size_facts (length c.args.page.now) c.requires in
    let read = ap header_in (sym (returns-clause-written c)) ∙ returns-clause-read_back c in
    ap is_header (returns-clause-written c) ∙ is_header-control_block c.args.page.now c.args.header.now (omega arith) read kind number form
