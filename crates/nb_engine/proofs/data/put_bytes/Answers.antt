use Rattle.std.proofs.Common.{◌≡◌, ℕ, ◌+◌, ◌-◌, List, length, ap, ◌∙◌, arith}
use Rattle.nb_engine.proofs.Common.{with_part, put_mid-with_part}
use Rattle.nb_engine.proofs.data.put_bytes.Goals as goal

pub returns : goal.returns
returns c =
    let at : ℕ = c.args.at in
    let n : ℕ = length c.args.bytes.now in
    let wrote : c.copy_from_slice.new.self ≡ c.args.bytes.now = c.copy_from_slice.ensures.after in
    let len : length c.copy_from_slice.new.self ≡ at + n - at = omega (arith, ap length wrote) in
    put_mid-with_part at (at + n - at) c.copy_from_slice.new.self c.args.page.now len ∙ ap (λ (bytes : List ℕ). with_part at bytes c.args.page.now) wrote
