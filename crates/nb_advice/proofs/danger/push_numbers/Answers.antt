use Rattle.std.proofs.Common.{◌≡◌, ℕ, ◌+◌, ◌++◌, List, drop, get_or, string_bytes, ap, sym, ◌∙◌, arith}
use Rattle.std.proofs.lemmas.List.{append-nil, drop_all, drop_more}
use Rattle.nb_advice.specs.Dangers.{numbers}
use Rattle.nb_advice.proofs.NumberLaws.{one_more}
use Rattle.nb_advice.proofs.danger.push_numbers.Goals as goal

pub loop-page-preserved : goal.loop-page-preserved
loop-page-preserved c =
    let l = c.loop-page in
    let i = l.page-index in
    let pages = c.args.pages.now in
    ap (λ (t : List ℕ). t ++ numbers (drop (i + 1) pages)) c.in_ok-push_spaced.ensures ∙ one_more (string_bytes l.text) pages i (get_or pages i 0) (drop_more pages i 0 (omega arith)) ∙ l.invariant

pub returns : goal.returns
returns c =
    sym (ap (λ (xs : List ℕ). string_bytes c.loop-page.text ++ numbers xs) (drop_all c.loop-page.page-index c.args.pages.now (omega arith)) ∙ append-nil (string_bytes c.loop-page.text)) ∙ c.loop-page.invariant
