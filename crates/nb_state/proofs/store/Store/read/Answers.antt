use Rattle.std.proofs.Common.{sym, ap, subst, ◌∙◌}
use Rattle.nb_state.proofs.Common.{NoPageWaits}
use Rattle.nb_state.proofs.store.Store.read.Goals as goal

pub returns-clause-none_waits : goal.returns-clause-none_waits
returns-clause-none_waits g c none =
    let before = subst NoPageWaits (sym c.self.view_is) none in
    (c.read.ensures.none_waits before.0, ap (λ (p : Rattle.nb_owner.specs.Open.Held). p.files.drafted) c.read.ensures.same ∙ before.1)
