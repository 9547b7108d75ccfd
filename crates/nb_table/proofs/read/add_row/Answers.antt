use Rattle.std.proofs.Common.{sym, ◌∙◌}
use Rattle.nb_table.proofs.Common.{leb-true, RowsFrom, length_in, used_of, filled_of}
use Rattle.nb_table.proofs.SortedLaws.{held_free, held_added}
use Rattle.nb_table.proofs.read.add_row.Goals as goal

pub returns-then-use_of-eq0-clause-rows : goal.returns-then-use_of-eq0-clause-rows
returns-then-use_of-eq0-clause-rows c ss s is same = held_free ss s c.args.slot.now c.args.rows.now.entries is same (sym c.use_of.ensures ∙ c.if-use_of-eq0.true)

pub text_of-requires-clause-fits : goal.text_of-requires-clause-fits
text_of-requires-clause-fits c = leb-true (length_in c.args.slot.now) 200 (filled_of (RowsFrom 0) c.args.slot.now c.requires.form (λ e. c.if-use_of-eq0.false (c.use_of.ensures ∙ e)))

pub returns-clause-rows : goal.returns-clause-rows
returns-clause-rows c ss s is same =
    held_added ss s c.args.slot.now c.args.rows.now.entries is same c.key_of.result c.key_of.ensures (used_of (RowsFrom 0) c.args.slot.now c.requires.form (λ e. c.if-use_of-eq0.false (c.use_of.ensures ∙ e))) c.text_of.result.now
    c.text_of.ensures c.add_new.new.rows.entries c.in_ok-add_new.ensures.there c.in_ok-add_new.ensures.new
