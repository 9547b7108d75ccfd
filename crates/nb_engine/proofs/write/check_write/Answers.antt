use Rattle.std.proofs.Common.{◌∙◌, sym}
use Rattle.nb_engine.proofs.Common.{write_closed, write_long, write_fits}
use Rattle.nb_engine.proofs.write.check_write.Goals as goal

pub returns-then-closed-clause-test : goal.returns-then-closed-clause-test
returns-then-closed-clause-test c image same = write_closed image c.args.text.now (sym same ∙ c.if-closed.true)

pub returns-then-text-gt-MOST_TEXT-clause-test : goal.returns-then-text-gt-MOST_TEXT-clause-test
returns-then-text-gt-MOST_TEXT-clause-test c image same = write_long image c.args.text.now (sym same ∙ c.if-closed.false) c.if-text-gt-MOST_TEXT.true

pub returns-clause-test : goal.returns-clause-test
returns-clause-test c image same = write_fits image c.args.text.now (sym same ∙ c.if-closed.false) c.if-text-gt-MOST_TEXT.false
