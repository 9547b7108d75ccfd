use Rattle.std.proofs.Common.{◌≡◌, ◌+◌, ◌-◌, ℕ, List, length, replicate, ap, ◌∙◌, arith}
use Rattle.nb_table.proofs.Common.{put_mid, bytes_of, with_part, put_mid-with_part}
use Rattle.nb_table.proofs.SlotLaws.{row_written}
use Rattle.nb_table.proofs.slots.fill_row.Goals as goal

pub returns : goal.returns
returns c =
    let text : List ℕ = c.args.text.now in
    let n : ℕ = length text in
    let zeros : c.fill.new.self ≡ replicate 256 0 = c.fill.ensures.after (λ y e. e) ∙ ap (λ (m : ℕ). replicate m 0) c.requires.size in
    let fields : c.put-3.new.page ≡ with_part 8 (bytes_of 8 c.args.key) (with_part 2 (bytes_of 2 n) (with_part 0 (bytes_of 1 1) (replicate 256 0))) =
    c.put-3.ensures.written ∙ ap (with_part 8 (bytes_of 8 c.args.key)) (c.put-2.ensures.written ∙ ap (with_part 2 (bytes_of 2 n)) (c.put.ensures.written ∙ ap (with_part 0 (bytes_of 1 1)) zeros)) in
    ap (λ (xs : List ℕ). put_mid 16 (16 + n - 16) c.put-3.new.page xs) c.copy_from_slice.ensures.after ∙ put_mid-with_part 16 (16 + n - 16) text c.put-3.new.page (omega arith)
    ∙ ap (with_part 16 text) fields ∙ row_written c.args.key text c.requires.text
