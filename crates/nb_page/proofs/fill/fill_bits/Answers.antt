use Rattle.std.proofs.Common.{◌≡◌, ◌∙◌, ℕ, ◌+◌, ◌-◌, ◌*◌, ◌/◌, ◌%◌, ◌^◌, List, length, replicate, ap, arith, slice_set}
use Rattle.nb_page.proofs.Common.{length-replicate, length-set, put_mid, length-part}
use Rattle.std.proofs.lemmas.Nat.{pow_below}
use Rattle.nb_page.proofs.FillLaws.{bits_filled, bits_all}
use Rattle.nb_page.proofs.fill.fill_bits.Goals as goal

pub returns-then-whole-bits : goal.returns-then-whole-bits
returns-then-whole-bits c =
    let n : ℕ = length c.args.bits.now in
    let w : ℕ = c.args.taken / 8 in
    let byte : ℕ = 256 - 1 * 2 ^ (c.args.taken % 8) % 65536 in
    let zeros : c.fill.new.self ≡ replicate n 0 = c.fill.ensures.after (λ y e. e) in
    let small = pow_below (c.args.taken % 8) 8 (omega arith) in
    let byte_is : byte ≡ 256 - 2 ^ (c.args.taken % 8) = omega arith in
    let written : List ℕ = slice_set c.fill.new.self w byte in
    let written_len : length written ≡ n = length-set c.fill.new.self w byte ∙ ap length zeros ∙ length-replicate n 0 in
    let k : ℕ = length written - (w + 1) in
    let free : c.fill-then-whole-bits.new.self ≡ replicate k 255 = c.fill-then-whole-bits.ensures.after (λ y e. e) ∙ ap (λ m. replicate m 255) (length-part (w + 1) k written (omega arith)) in
    let rest : k ≡ n - (w + 1) = ap (λ m. m - (w + 1)) written_len in
    ap (λ xs. put_mid (w + 1) k (slice_set xs w byte) c.fill-then-whole-bits.new.self) zeros
    ∙ ap (λ xs. put_mid (w + 1) k (slice_set (replicate n 0) w byte) xs) free
    ∙ bits_filled n c.args.taken byte k (omega arith) byte_is rest

pub returns-else-whole-bits : goal.returns-else-whole-bits
returns-else-whole-bits c =
    c.fill.ensures.after (λ y e. e) ∙ bits_all (length c.args.bits.now) c.args.taken (omega arith)
