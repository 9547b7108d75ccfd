use Rattle.std.proofs.Common.{◌≡◌, ◌*◌, ◌+◌, ap, sym, ◌∙◌, arith, max, slice_index}
use Rattle.nb_scn.proofs.Common.{set, entries}
use Rattle.nb_scn.proofs.EntryLaws.{are_apart, entries-set}
use Rattle.nb_scn.proofs.entries.raise.Goals as goal

pub returns-then-entry-scn-clause-entries : goal.returns-then-entry-scn-clause-entries
returns-then-entry-scn-clause-entries c =
    let old = c.args.page.now in
    let i = c.args.index in
    let greater : max (slice_index (entries old) i) c.args.scn ≡ c.args.scn = omega (arith, c.entry.ensures) in
    entries-set old c.put_number.new.page i c.args.scn c.put_number.auto.page c.requires.index
    (c.put_number.ensures.value ∙ c.from.ensures)
    (λ k other. c.put_number.ensures.others (32 + 4 * k) 4 (are_apart i k other))
    ∙ ap (set (entries old) i) (sym greater)
