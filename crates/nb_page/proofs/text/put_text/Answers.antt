use Rattle.std.proofs.Common.{◌≡◌, ◌∙◌, ℕ, ◌+◌, ◌-◌, ◌≤◌, List, ◌++◌, length, replicate, refl, ap, arith}
use Rattle.nb_page.proofs.Common.{put_mid, bytes_of, with_part, with_payload, text_payload, text_of, size_facts, put_mid-with_part, length-part, length-with_part, written_next, filled, text_of-with_payload}
use Rattle.nb_page.proofs.text.put_text.Goals as goal

pub returns-clause-written : goal.returns-clause-written
unfolding with_payload text_payload bytes_of
returns-clause-written c =
    let page : List ℕ = c.args.page.now in
    let text : List ℕ = c.args.text.now in
    let n : ℕ = length text in
    let size = size_facts (length page) c.requires.size in
    let short : n ≤ 200 = c.requires.short in
    let bytes : List ℕ = bytes_of 2 n ++ text in
    let copied : put_mid 18 (18 + n - 18) c.put.new.page c.copy_from_slice.new.self ≡ with_part 18 text c.put.new.page =
    ap (λ xs. put_mid 18 (18 + n - 18) c.put.new.page xs) c.copy_from_slice.ensures.after ∙ put_mid-with_part 18 (18 + n - 18) text c.put.new.page (omega arith) in
    let both : put_mid 18 (18 + n - 18) c.put.new.page c.copy_from_slice.new.self ≡ with_part 16 bytes page = written_next 16 18 (bytes_of 2 n) text page c.put.new.page _ c.put.ensures.written copied refl (omega arith) in
    let copied_len : length (put_mid 18 (18 + n - 18) c.put.new.page c.copy_from_slice.new.self) ≡ length page = ap length both ∙ length-with_part 16 bytes page (omega arith) in
    let k : ℕ = length (put_mid 18 (18 + n - 18) c.put.new.page c.copy_from_slice.new.self) - (18 + n) in
    let zeros : c.fill.new.self ≡ replicate k 0 = c.fill.ensures.after (λ y e. e) ∙ ap (λ m. replicate m 0) (length-part (18 + n) k (put_mid 18 (18 + n - 18) c.put.new.page c.copy_from_slice.new.self) (omega arith)) in
    ap (λ xs. put_mid (18 + n) k xs c.fill.new.self) both
    ∙ filled 16 (18 + n) k bytes page c.fill.new.self (omega arith) (omega arith) (omega arith) (ap (λ m. m - (18 + n)) copied_len) zeros

pub returns-clause-text : goal.returns-clause-text
returns-clause-text c =
    let size = size_facts (length c.args.page.now) c.requires.size in
    ap text_of (returns-clause-written c) ∙ text_of-with_payload c.args.page.now c.args.text.now (omega arith) c.requires.short
