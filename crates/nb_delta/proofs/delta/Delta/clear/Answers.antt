use Rattle.nb_delta.proofs.KnownLaws.{clear_changes}
use Rattle.nb_delta.proofs.delta.Delta.clear.Goals as goal

pub returns-in_err-remove_file-clause-changes : goal.returns-in_err-remove_file-clause-changes
returns-in_err-remove_file-clause-changes g c tells =
    clear_changes (g.H.Host.world c.args.host.now) (g.H.Host.world c.remove_file.new.host) _ c.forget.new.self c.args.self.now c.self.view_is c.forget.ensures (c.remove_file.ensures.changes tells)

pub returns-clause-changes : goal.returns-clause-changes
returns-clause-changes g c tells =
    clear_changes (g.H.Host.world c.args.host.now) (g.H.Host.world c.remove_file.new.host) _ c.forget.new.self c.args.self.now c.self.view_is c.forget.ensures (c.remove_file.ensures.changes tells)
