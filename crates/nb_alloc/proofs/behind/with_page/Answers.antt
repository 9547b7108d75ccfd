use Rattle.std.proofs.Common.{◌≡◌, List, ℕ, ◌∷◌, ◌++◌, sym, ap, subst, ◌∙◌, Bool, true, Result, Err}
use Rattle.nb_alloc.proofs.Common.{Fault, Tested, judged, page_if}
use Rattle.nb_alloc.proofs.BehindLaws.{judged_none}
use Rattle.nb_alloc.proofs.behind.with_page.Goals as goal

-- where the page counts
counted : (counts : Bool) (page : ℕ) (pages : List ℕ) (full : Bool) → counts ≡ true → judged (page_if counts page ++ pages) full ≡ judged (page ∷ pages) full
counted counts page pages full is = ap (λ (t : Bool). judged (page_if t page ++ pages) full) is

pub returns-then-not-counts-clause-test : goal.returns-then-not-counts-clause-test
returns-then-not-counts-clause-test c pages full tested = subst (λ (t : Bool). Tested c.args.found (judged (page_if t c.args.page ++ pages) full)) (sym c.if-not-counts.true) tested

pub returns-in-Ok-clause-test : goal.returns-in-Ok-clause-test
returns-in-Ok-clause-test c pages full tested =
    counted c.args.counts c.args.page pages full c.if-not-counts.false ∙ judged_none c.args.page pages full (subst (λ (r : Result ℕ Fault). Tested r (judged pages full)) c.in-Ok.is tested)

pub returns-in-Err-Refused-clause-test : goal.returns-in-Err-Refused-clause-test
returns-in-Err-Refused-clause-test c pages full tested =
    counted c.args.counts c.args.page pages full c.if-not-counts.false
    ∙ c.lower.ensures pages full
    (subst (λ (f : Fault). Tested {T = ℕ} (Err f) (judged pages full)) c.in-Err-Refused.field-0-is (subst (λ (r : Result ℕ Fault). Tested r (judged pages full)) c.in-Err-Refused.is tested))
