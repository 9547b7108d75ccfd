use Rattle.std.proofs.Common.{◌≡◌, ◌∙◌, ◌∷◌, ap, subst, OnOk}
use Rattle.nb_mem.proofs.Common.{Memory, Synced, Changed}
use Rattle.nb_mem.proofs.CallLaws.{synced}
use Rattle.nb_mem.proofs.host.MemHostHost.sync.Goals as goal

pub returns-clause-files : goal.returns-clause-files
returns-clause-files c =
    let is = subst (λ r. OnOk r (c.change.new.self ≡ Changed c.args.name.now Synced ∷ c.self.inside.history)) c.in_ok-settle.ensures.ok.0 c.change.ensures.ok in
    synced c.args.self.now.history c.args.name.now c.change.new.self tt (is ∙ ap (λ (m : Memory). Changed c.args.name.now Synced ∷ m.history) c.self.view_is)
