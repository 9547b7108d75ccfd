use Rattle.std.proofs.Common.{◌≡◌, ◌∙◌, ℕ, suc, ◌+◌, ◌*◌, List, ◌++◌, take, sym, ap, arith}
use Rattle.nb_page.proofs.Common.{bytes_of, with_part, same_entries, length-bytes_of, take-with_part}
use Rattle.nb_page.proofs.FillLaws.{same_entries-none, same_entries-push}
use Rattle.nb_page.proofs.fill.fill_entries.Goals as goal

pub loop-index-init : goal.loop-index-init
loop-index-init c = sym (same_entries-none c.args.scn)

pub loop-index-preserved : goal.loop-index-preserved
loop-index-preserved c =
    let i : ℕ = c.loop-index.index in
    let entry : List ℕ = bytes_of 4 c.args.scn in
    let len = length-bytes_of 4 c.args.scn in
    ap (take (4 * (i + 1))) (c.put_number.ensures.written ∙ ap (λ v. with_part (4 * i) (bytes_of 4 v) c.loop-index.entries) c.from.ensures)
    ∙ take-with_part (4 * i) (4 * (i + 1)) entry c.loop-index.entries (omega arith) (omega arith)
    ∙ ap (λ xs. xs ++ entry) c.loop-index.invariant
    ∙ same_entries-push c.args.scn i
    ∙ ap (same_entries c.args.scn) (let e : suc i ≡ i + 1 = omega arith in e)
