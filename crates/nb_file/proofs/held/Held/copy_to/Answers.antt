use Rattle.std.proofs.Common.{◌∙◌}
use Rattle.nb_file.proofs.PartLaws.{given_within}
use Rattle.nb_file.proofs.held.Held.copy_to.Goals as goal

pub returns-then-give : goal.returns-then-give
returns-then-give g c = λ told. c.give.ensures.given c.if-give.true ∙ given_within _ _ _ _ c.args.at _ (c.args.self.now.fetched told) c.args.self.now.ahead.within (c.give.ensures.within c.if-give.true).0 (c.give.ensures.within c.if-give.true).1
