use Rattle.std.proofs.Common.{◌≡◌, ◌∙◌, ℕ, ◌+◌, ◌-◌, ◌*◌, ◌/◌, List, length, sym, ap, arith}
use Rattle.nb_page.proofs.Common.{put_mid, bytes_of, with_part, bits_in, taken_bits, inventory_payload, fresh_count, length-bytes_of, length-part, size_facts}
use Rattle.nb_page.proofs.FillLaws.{numbered_filled}
use Rattle.nb_page.proofs.fill.fill_inventory.Goals as goal

pub returns : goal.returns
unfolding inventory_payload
returns c =
    let page : List ℕ = c.args.page.now in
    let n : ℕ = length page in
    let size = size_facts n c.requires.size in
    let i : ℕ = (c.args.number + 1) / bits_in n in
    let taken : ℕ = fresh_count n c.args.raw - i * bits_in n in
    let number : List ℕ = bytes_of 4 i in
    let kept : length c.put.new.page ≡ n = c.put.auto.page in
    let k : ℕ = length c.put.new.page - 32 in
    let room = length-part 32 k c.put.new.page (omega arith) in
    let index : (c.args.number + 1) / c.bits_in-bits.result ≡ i = ap (λ m. (c.args.number + 1) / m) c.bits_in-bits.ensures.value in
    let numbered : c.put.new.page ≡ with_part 16 number page = c.put.ensures.written ∙ ap (λ v. with_part 16 (bytes_of 4 v) page) (c.from.ensures ∙ index) in
    let counted : ℕ = c.fresh_count-count.result - (c.args.number + 1) / c.bits_in-bits.result * c.bits_in-bits.result in
    let taken_is : counted ≡ taken =
    ap (λ m. c.fresh_count-count.result - (c.args.number + 1) / m * m) c.bits_in-bits.ensures.value ∙ ap (λ m. m - i * bits_in n) c.fresh_count-count.ensures.value in
    let bits : c.fill_bits.new.bits ≡ taken_bits (n - 32) taken = c.fill_bits.ensures ∙ ap (λ m. taken_bits m counted) (room ∙ ap (λ m. m - 32) kept) ∙ ap (taken_bits (n - 32)) taken_is in
    let len : length c.fill_bits.new.bits ≡ n - 32 = c.fill_bits.auto.bits ∙ room ∙ ap (λ m. m - 32) kept in
    ap (λ xs. put_mid 32 k xs c.fill_bits.new.bits) numbered
    ∙ ap (λ xs. put_mid 32 k (with_part 16 number page) xs) bits
    ∙ numbered_filled page number (taken_bits (n - 32) taken) k (length-bytes_of 4 i) (ap length (sym bits) ∙ len) (ap (λ m. m - 32) kept) (omega arith) c.requires.blank
