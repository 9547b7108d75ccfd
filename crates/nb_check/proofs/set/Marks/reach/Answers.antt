use Rattle.std.proofs.Common.{sym, ◌∙◌}
use Rattle.nb_check.proofs.MarkLaws.{reached_left, reached_danger}
use Rattle.nb_check.proofs.set.Marks.reach.Goals as goal

pub returns-then-has : goal.returns-then-has
returns-then-has c = reached_left c.args.self.now c.args.page c.remove.new.self (sym c.has.ensures ∙ c.if-has.true) c.remove.ensures.pages c.remove.ensures.room

pub returns-else-has : goal.returns-else-has
returns-else-has c = reached_danger c.args.self.now c.args.page c.put.new.self (sym c.has.ensures ∙ c.if-has.false) c.put.ensures.pages c.put.ensures.room
