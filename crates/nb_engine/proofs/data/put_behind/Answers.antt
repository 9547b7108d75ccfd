use Rattle.std.proofs.Common.{◌∙◌, ℕ, ◌-◌, List, ◌++◌, length, take, drop, ap}
use Rattle.nb_engine.proofs.Common.{take_rest}
use Rattle.nb_engine.proofs.DataLaws.{put_rest}
use Rattle.nb_engine.proofs.data.put_behind.Goals as goal

pub returns : goal.returns
returns c =
    let page : List ℕ = c.args.page.now in
    let bytes : List ℕ = c.args.bytes.now in
    ap (λ (xs : List ℕ). take 16 page ++ (xs ++ drop (length page - 16) (drop 16 page))) (c.copy_from_slice.ensures.after ∙ take_rest bytes 16) ∙ put_rest page (drop 16 bytes)
