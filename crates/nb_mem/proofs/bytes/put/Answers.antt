use Rattle.std.proofs.Common.{◌≡◌, ℕ, ◌+◌, List, ◌++◌, length, take, drop, ◌∙◌, ap, arith, vec_len}
use Rattle.nb_mem.proofs.Common.{padded}
use Rattle.nb_mem.proofs.PutLaws.{length-padded, put_at-padded, written}
use Rattle.nb_mem.proofs.bytes.put.Goals as goal

pub write_over-requires : goal.write_over-requires
write_over-requires c =
    let is : length c.as_mut_slice.result.now ≡ length (padded c.args.kept.now.items (c.args.at + length c.args.page.now)) = ap length (c.as_mut_slice.ensures.value ∙ c.in_ok-extend_to.ensures.ok) in
    omega (arith, length-padded c.args.kept.now.items (c.args.at + length c.args.page.now))

pub returns-clause-ok : goal.returns-clause-ok
returns-clause-ok c =
    let at = c.args.at in
    let page = c.args.page.now in
    let is = c.as_mut_slice.ensures.value ∙ c.in_ok-extend_to.ensures.ok in
    let kept = ap length c.as_mut_slice.ensures.value in
    written (vec_len c.extend_to.new.kept) c.write_over.new.bytes c.extend_to.new.kept.items (omega arith) (omega (arith, kept))
    ∙ c.write_over.ensures
    ∙ ap (λ (l : List ℕ). take at l ++ (page ++ drop (at + length page) l)) is
    ∙ put_at-padded c.args.kept.now.items page at
