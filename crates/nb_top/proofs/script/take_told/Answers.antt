use Rattle.std.proofs.Common.{ap, ◌∙◌}
use Rattle.nb_top.proofs.Common.{told_later}
use Rattle.nb_top.proofs.ByTurnsLaws.{told_as}
use Rattle.nb_top.proofs.script.take_told.Goals as goal

pub returns-clause-plays : goal.returns-clause-plays
returns-clause-plays g c tells = (
  (c.take_turns.ensures.plays tells).0,
  λ now t ready todo making told.
      told_as g.H.Host.world g.met.H.Host.timely (λ h. g.met.H.Host.reads_left h tells) c.take_turns.result _ _ _ _ t c.told_by-told.result c.args.telling c.args.engine.now.files.count now c.args.script.now.schedule
      (λ events. c.told_by-told.ensures events ∙ ap (λ n. told_later c.args.telling n events) c.count.ensures.value)
      ready.named ((c.take_turns.ensures.plays tells).1 now t ready todo making told),
)
