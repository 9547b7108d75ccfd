use Rattle.std.proofs.Common.{ap, ◌∙◌, replicate, arith}
use Rattle.nb_level.proofs.Common.{with_part}
use Rattle.nb_fields.specs.Bytes.{bytes_of}
use Rattle.nb_level.proofs.HeadLaws.{head_written}
use Rattle.nb_level.proofs.head.head_bytes.Goals as goal

pub returns : goal.returns
returns c =
    let h = c.args.head.now in
    head_written (replicate 52 0) c.put.new.page c.put-2.new.page c.put-3.new.page c.put-4.new.page c.put-5.new.page c.put-6.new.page c.put-7.new.page c.put-8.new.page
    c.args.version h.level h.guid h.previous h.page_size h.scn h.previous_scn (omega arith) (omega arith)
    (omega arith, omega arith, omega arith, omega arith, omega arith, omega arith, omega arith, omega arith, omega arith)
    c.put.ensures.written
    (c.put-2.ensures.written ∙ ap (λ v. with_part 4 (bytes_of 2 v) c.put.new.page) c.from.ensures)
    (c.put-3.ensures.written ∙ ap (λ v. with_part 6 (bytes_of 2 v) c.put-2.new.page) c.from-2.ensures)
    c.put-4.ensures.written c.put-5.ensures.written
    (c.put-6.ensures.written ∙ ap (λ v. with_part 40 (bytes_of 4 v) c.put-5.new.page) c.from-3.ensures)
    (c.put-7.ensures.written ∙ ap (λ v. with_part 44 (bytes_of 4 v) c.put-6.new.page) c.from-4.ensures)
    (c.put-8.ensures.written ∙ ap (λ v. with_part 48 (bytes_of 4 v) c.put-7.new.page) c.from-5.ensures)
