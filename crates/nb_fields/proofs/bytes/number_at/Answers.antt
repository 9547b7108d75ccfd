use Rattle.std.proofs.Common.{◌≡◌, ℕ, ◌≤◌, List, ◌++◌, length, take, drop, replicate, ap, ◌∙◌, arith, length-append, length-drop}
use Rattle.nb_fields.proofs.Common.{number_of, part, number_in}
use Rattle.nb_fields.proofs.NumberLaws.{from_eight_bytes, number_of-append, number_of-drop_zeros}
use Rattle.nb_fields.proofs.PartLaws.{length-part, number_in-lt}
use Rattle.nb_fields.proofs.bytes.number_at.Goals as goal

pub returns-clause-value : goal.returns-clause-value
unfolding number_in
returns-clause-value c =
    let page : List ℕ = c.args.page.now in
    let got : List ℕ = c.copy_from_slice.new.self in
    let rest : List ℕ = drop c.args.width (replicate 8 0) in
    let few : c.args.width ≤ 8 = c.requires.few in
    let read : got ≡ part c.args.at c.args.width page = c.copy_from_slice.ensures.after ∙ ap (λ n. take n (drop c.args.at page)) (omega arith) in
    let got_len : length got ≡ c.args.width = ap length read ∙ length-part c.args.at c.args.width page c.requires.inside in
    let whole : length (got ++ rest) ≡ 8 = omega (arith, length-append got rest, length-drop {A = ℕ} c.args.width (replicate 8 0)) in
    c.from_le_bytes.ensures ∙ from_eight_bytes (got ++ rest) whole ∙ number_of-append got rest (number_of-drop_zeros c.args.width 8) ∙ ap number_of read

pub returns-clause-fits : goal.returns-clause-fits
returns-clause-fits c =
    let small = number_in-lt c.args.at c.args.width c.args.page.now (λ i. (c.type_inv.page i).fits) c.requires.inside in
    let value : c.from_le_bytes.result ≡ number_in c.args.at c.args.width c.args.page.now = returns-clause-value c in
    omega arith
