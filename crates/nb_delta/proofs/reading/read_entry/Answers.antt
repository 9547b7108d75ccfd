use Rattle.std.proofs.Common.{ℕ, List, length, ◌≡◌, ◌++◌, ◌∷◌, [], ◌+◌, ◌*◌, ◌∙◌, ap, sym, arith}
use Rattle.nb_delta.proofs.Common.{lt-ltb, le-ltb, number_in, page_in, entries_from, is_unfit}
use Rattle.nb_delta.proofs.EntryLaws.{place_none}
use Rattle.nb_delta.proofs.ReadLaws.{entry_unfit, entry_cut, entry_read, on_broken, fit_named}
use Rattle.nb_delta.proofs.reading.read_entry.Goals as goal

pub add-requires-clause-fresh : goal.add-requires-clause-fresh
add-requires-clause-fresh c =
    place_none c.number_at-number.result c.args.entries.now (fit_named c.number_at-number.result c.args.entries.now (sym c.is_unfit.ensures ∙ c.if-is_unfit.false))

pub returns-then-is_unfit-clause-answer : goal.returns-then-is_unfit-clause-answer
returns-then-is_unfit-clause-answer c bytes left long page_is =
    let page : List ℕ = c.args.page.now in
    let same : c.number_at-number.result ≡ number_in (4 + 4 * c.args.i) 4 (page_in (length page) bytes c.args.at) = c.number_at-number.ensures.value ∙ ap (λ (p : List ℕ). number_in (4 + 4 * c.args.i) 4 p) (sym page_is) in
    on_broken _ _ _ c.args.at c.broken.ensures (entry_unfit (length page) c.args.at c.args.i left bytes c.args.entries.now
    (ap (λ (n : ℕ). is_unfit n c.args.entries.now) (sym same) ∙ sym c.is_unfit.ensures ∙ c.if-is_unfit.true))

pub returns-then-len-at-clause-answer : goal.returns-then-len-at-clause-answer
returns-then-len-at-clause-answer c bytes left long page_is =
    let page : List ℕ = c.args.page.now in
    let same : c.number_at-number.result ≡ number_in (4 + 4 * c.args.i) 4 (page_in (length page) bytes c.args.at) = c.number_at-number.ensures.value ∙ ap (λ (p : List ℕ). number_in (4 + 4 * c.args.i) 4 p) (sym page_is) in
    on_broken _ _ _ (c.args.at + 1 + c.args.i) c.broken-then-len-at.ensures (entry_cut (length page) c.args.at c.args.i left bytes c.args.entries.now
    (ap (λ (n : ℕ). is_unfit n c.args.entries.now) (sym same) ∙ sym c.is_unfit.ensures ∙ c.if-is_unfit.false)
    (lt-ltb (length bytes) ((c.args.at + 2 + c.args.i) * length page) (omega (arith, c.if-len-at.true, long))))

pub returns-clause-answer : goal.returns-clause-answer
returns-clause-answer c bytes left long page_is =
    let page : List ℕ = c.args.page.now in
    let same : c.number_at-number.result ≡ number_in (4 + 4 * c.args.i) 4 (page_in (length page) bytes c.args.at) = c.number_at-number.ensures.value ∙ ap (λ (p : List ℕ). number_in (4 + 4 * c.args.i) 4 p) (sym page_is) in
    entry_read (length page) c.args.at c.args.i left bytes c.args.entries.now
    (ap (λ (n : ℕ). is_unfit n c.args.entries.now) (sym same) ∙ sym c.is_unfit.ensures ∙ c.if-is_unfit.false)
    (le-ltb (length bytes) ((c.args.at + 2 + c.args.i) * length page) (omega (arith, c.if-len-at.false, long)))
    ∙ ap (λ (n : ℕ). entries_from (length page) c.args.at (c.args.i + 1) left bytes (c.args.entries.now ++ n ∷ [])) (sym same)
    ∙ ap (λ (xs : List ℕ). entries_from (length page) c.args.at (c.args.i + 1) left bytes xs) (sym c.in_ok-add.ensures.ok)
