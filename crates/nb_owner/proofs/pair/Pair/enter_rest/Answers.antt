use Rattle.std.proofs.Common.{sym, subst, ◌∙◌}
use Rattle.nb_owner.proofs.Common.{NoneWaits, Held, IsOpen}
use Rattle.nb_owner.proofs.WaitLaws.{none_waits, none_drafted}
use Rattle.nb_base.proofs.StaysLaws.{begun_keeps}
use Rattle.nb_owner.proofs.pair.Pair.enter_rest.Goals as goal

pub returns-else-drafted-eq0-clause-takes : goal.returns-else-drafted-eq0-clause-takes
returns-else-drafted-eq0-clause-takes g c t tells given =
    let is = subst (λ (h : Held). IsOpen (g.H.Host.world c.args.host.now) h t) (sym c.self.view_is) given in
    let none = subst (λ (h : Held). NoneWaits h.pages) (sym c.self.view_is) c.requires.none in
    absurd (c.if-drafted-eq0.false (c.drafted.ensures.value ∙ (none_drafted c.self.inside.cache.pages c.self.inside.files.drafted is.sees t (none_waits c.self.inside.cache.pages none) is.waits).0))

pub returns-else-drafted-eq0-clause-touches : goal.returns-else-drafted-eq0-clause-touches
returns-else-drafted-eq0-clause-touches g c t tells given =
    let is = subst (λ (h : Held). IsOpen (g.H.Host.world c.args.host.now) h t) (sym c.self.view_is) given in
    let none = subst (λ (h : Held). NoneWaits h.pages) (sym c.self.view_is) c.requires.none in
    absurd (c.if-drafted-eq0.false (c.drafted.ensures.value ∙ (none_drafted c.self.inside.cache.pages c.self.inside.files.drafted is.sees t (none_waits c.self.inside.cache.pages none) is.waits).0))

pub returns-then-drafted-eq0-clause-within : goal.returns-then-drafted-eq0-clause-within
returns-then-drafted-eq0-clause-within g c t tells given most within = begun_keeps (g.H.Host.world c.args.host.now) c.args.self.now.files.name _ (g.met.H.Host.timely c.args.host.now)

pub returns-else-drafted-eq0-clause-within : goal.returns-else-drafted-eq0-clause-within
returns-else-drafted-eq0-clause-within g c t tells given most within =
    let is = subst (λ (h : Held). IsOpen (g.H.Host.world c.args.host.now) h t) (sym c.self.view_is) given in
    let none = subst (λ (h : Held). NoneWaits h.pages) (sym c.self.view_is) c.requires.none in
    absurd (c.if-drafted-eq0.false (c.drafted.ensures.value ∙ (none_drafted c.self.inside.cache.pages c.self.inside.files.drafted is.sees t (none_waits c.self.inside.cache.pages none) is.waits).0))
