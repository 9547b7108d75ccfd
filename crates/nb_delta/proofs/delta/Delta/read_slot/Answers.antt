use Rattle.std.proofs.Common.{length, ◌∙◌}
use Rattle.nb_delta.proofs.KnownLaws.{slot_read}
use Rattle.nb_delta.proofs.delta.Delta.read_slot.Goals as goal

pub returns-clause-page : goal.returns-clause-page
returns-clause-page g c tells =
    slot_read (g.H.Host.world c.args.host.now).files c.args.slot (length c.args.into.now) c.fill.new.self c.read_at.new.into _ _ c.args.self.now c.self.view_is c.requires.size (c.fill.ensures.after (λ y e. e)) (c.read_at.auto.into ∙ c.fill.auto.self) (c.in_ok-read_at.ensures.answer tells)
