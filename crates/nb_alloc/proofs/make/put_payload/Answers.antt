use Rattle.std.proofs.Common.{◌≡◌, ◌∙◌, ℕ, ◌+◌, ◌-◌, ◌≤◌, List, length, replicate, ap, arith}
use Rattle.nb_alloc.proofs.Common.{with_part, with_payload, size_facts, put_mid-with_part, length-part, length-with_part, filled}
use borrow.Rule.Slice.PartMut.{put_mid}
use Rattle.nb_alloc.proofs.make.put_payload.Goals as goal

pub returns : goal.returns
unfolding with_payload
returns c =
    let page : List ℕ = c.args.page.now in
    let payload : List ℕ = c.args.payload.now in
    let n : ℕ = length payload in
    let size = size_facts (length page) c.requires.size in
    let short : n ≤ 1008 = c.requires.short in
    let copied : put_mid 16 (16 + n - 16) page c.copy_from_slice.new.self ≡ with_part 16 payload page =
    ap (λ xs. put_mid 16 (16 + n - 16) page xs) c.copy_from_slice.ensures.after ∙ put_mid-with_part 16 (16 + n - 16) payload page (omega arith) in
    let copied_len : length (put_mid 16 (16 + n - 16) page c.copy_from_slice.new.self) ≡ length page = ap length copied ∙ length-with_part 16 payload page (omega arith) in
    let k : ℕ = length (put_mid 16 (16 + n - 16) page c.copy_from_slice.new.self) - (16 + n) in
    let zeros : c.fill.new.self ≡ replicate k 0 = c.fill.ensures.after (λ y e. e) ∙ ap (λ m. replicate m 0) (length-part (16 + n) k (put_mid 16 (16 + n - 16) page c.copy_from_slice.new.self) (omega arith)) in
    ap (λ xs. put_mid (16 + n) k xs c.fill.new.self) copied
    ∙ filled 16 (16 + n) k payload page c.fill.new.self (omega arith) (omega arith) (omega arith) (ap (λ m. m - (16 + n)) copied_len) zeros
