use Rattle.std.proofs.Common.{sym, ◌∙◌}
use Rattle.nb_scn.proofs.EntryLaws.{get_or-entries}
use Rattle.nb_scn.proofs.entries.entry.Goals as goal

pub returns : goal.returns
returns c = c.number_at.ensures.value ∙ sym (get_or-entries c.args.page.now c.args.index c.requires.index)
