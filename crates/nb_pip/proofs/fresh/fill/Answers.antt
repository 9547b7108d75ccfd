use Rattle.std.proofs.Common.{◌≡◌, ◌-◌, ◌∙◌, List, ℕ, length, take, drop, replicate, ap, sym, arith}
use Rattle.nb_pip.proofs.Common.{length-replicate, bytes_of, with_part, size_facts}
use borrow.Rule.Slice.PartMut.{put_mid}
use Rattle.nb_fields.proofs.PartLaws.{length-part, length-with_part, put_mid-with_part}
use Rattle.nb_pip.proofs.FillLaws.{filled}
use Rattle.nb_pip.proofs.fresh.fill.Goals as goal

pub returns : goal.returns
returns c =
    let old : List ℕ = c.args.page.now in
    let n : ℕ = length old in
    let size = size_facts n c.requires in
    let kept : length c.put.new.page ≡ n = c.put.auto.page in
    let twelve : length (take 12 (drop 20 c.put.new.page)) ≡ 12 = length-part 20 12 c.put.new.page (omega arith) in
    let zeros : c.fill.new.self ≡ replicate 12 0 = c.fill.ensures.after (λ y e. e) ∙ ap (λ n. replicate n 0) twelve in
    let numbered : c.put.new.page ≡ with_part 16 (bytes_of 4 c.args.k) old = c.put.ensures.written ∙ ap (λ v. with_part 16 (bytes_of 4 v) old) c.from.ensures in
    let blank : List ℕ = put_mid 20 12 c.put.new.page c.fill.new.self in
    let blank_is : blank ≡ with_part 20 (replicate 12 0) c.put.new.page = put_mid-with_part 20 12 c.fill.new.self c.put.new.page (ap length zeros) ∙ ap (λ (xs : List ℕ). with_part 20 xs c.put.new.page) zeros in
    let long : length blank ≡ n = ap length blank_is ∙ length-with_part 20 (replicate 12 0) c.put.new.page (omega (arith, size.at_least, kept, length-replicate {A = ℕ} 12 0)) ∙ kept in
    let rest : length blank - 32 ≡ n - 32 = ap (λ m. m - 32) long in
    let ones : c.fill-2.new.self ≡ replicate (n - 32) 255 = c.fill-2.ensures.after (λ y e. e) ∙ ap (λ m. replicate m 255) (length-part 32 (length blank - 32) blank (omega (arith, size.at_least, long)) ∙ rest) in
    filled old c.put.new.page blank (put_mid 32 (length blank - 32) blank c.fill-2.new.self) c.args.k (omega (arith, size.at_least)) numbered blank_is
    (put_mid-with_part 32 (length blank - 32) c.fill-2.new.self blank (ap length ones ∙ length-replicate {A = ℕ} (n - 32) 255 ∙ sym rest) ∙ ap (λ (xs : List ℕ). with_part 32 xs blank) ones)
