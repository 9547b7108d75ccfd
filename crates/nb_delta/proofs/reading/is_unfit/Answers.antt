use Rattle.std.proofs.Common.{ℕ, Bool, List, ap, ◌∙◌, sym, ◌||◌, nat_eq, is_some, Option}
use Rattle.nb_delta.proofs.Common.{list_any, lt-leb, most_pages}
use Rattle.nb_delta.proofs.EntryLaws.{is_named}
use Rattle.nb_delta.proofs.reading.is_unfit.Goals as goal

pub returns-else-number-ge-MOST_PAGES : goal.returns-else-number-ge-MOST_PAGES
returns-else-number-ge-MOST_PAGES c =
    let entries : List ℕ = c.args.entries.now in
    c.is_some.ensures ∙ ap (λ (o : Option ℕ). is_some o) c.place_of.ensures.value ∙ is_named c.args.number entries
    ∙ sym (ap (λ (b : Bool). b || list_any (nat_eq c.args.number) entries) (lt-leb most_pages c.args.number c.if-number-ge-MOST_PAGES.false))
