use Rattle.std.proofs.Common.{ℕ, List, ◌<◌, length, subst, sym, arith}
use Rattle.nb_delta.proofs.Common.{get_or_read, most_pages}
use Rattle.nb_delta.proofs.EntryLaws.{entry_below}
use Rattle.nb_delta.proofs.entries.Entries.page_at.Goals as goal

pub returns-clause-below : goal.returns-clause-below
returns-clause-below c =
    let pages : List ℕ = c.self.inside.pages.items in
    let inside : c.args.place < length pages = subst (λ (xs : List ℕ). c.args.place < length xs) (sym c.self.view_is) c.requires in
    let value = get_or_read pages c.args.place c.index.result.now inside c.index.ensures 0 in
    omega (arith, entry_below pages most_pages c.self.invariant.0.below c.args.place inside, value)
