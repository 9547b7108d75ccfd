use Rattle.std.proofs.Common.{◌≡◌, ◌∙◌, ◌-◌, ℕ, List, ◌++◌, length, take, drop, replicate, ap}
use Rattle.nb_engine.proofs.Common.{bytes_of, with_part, payload_filled}
use Rattle.nb_engine.proofs.DataLaws.{put_rest}
use Rattle.nb_engine.proofs.data_new.fill_payload.Goals as goal

pub returns : goal.returns
returns c =
    let n : ℕ = length c.args.into.now in
    let slots : List ℕ = c.args.slots.now in
    let page : List ℕ = c.put.new.page in
    let zeros : c.fill.new.self ≡ replicate n 0 = c.fill.ensures.after (λ y e. e) in
    let is : page ≡ with_part 4 (bytes_of 4 c.args.owner) (replicate n 0) =
    c.put.ensures.written ∙ ap (λ (v : ℕ). with_part 4 (bytes_of 4 v) c.fill.new.self) c.from.ensures ∙ ap (λ (xs : List ℕ). with_part 4 (bytes_of 4 c.args.owner) xs) zeros in
    ap (λ (xs : List ℕ). take 16 page ++ (xs ++ drop (length page - 16) (drop 16 page))) c.copy_from_slice.ensures.after ∙ put_rest page slots ∙ payload_filled c.args.owner n slots page c.requires.room is
