use Rattle.std.proofs.Common.{sym, subst, IsTrue}
use Rattle.nb_owner.proofs.Common.{Only, Changes, delta_name, Trail, StandsIn, NoneWaits, Held, GoesSlot, waits}
use Rattle.nb_owner.proofs.WaitLaws.{none_waits, open_settled}
use Rattle.nb_owner.proofs.pair.Pair.enter.Goals as goal
use Rattle.nb_owner.proofs.pair.Pair.enter.Goals.{After-enter}

-- No page waits, and the entries are brought into the table.
module _ (g : _) (c : goal.After-enter g) (f t : Trail) (tells : IsTrue g.H.Host.tells) (given : GoesSlot (g.H.Host.world c.args.host.now) c.args.self.now f t) where
  left : Changes (g.H.Host.world c.args.host.now) (g.H.Host.world c.enter.new.host) (Only (delta_name c.args.self.now.files.name)) (StandsIn c.args.self.now.files.name t)
  left =
      let old = g.H.Host.world c.args.host.now in
      let new = g.H.Host.world c.enter.new.host in
      let out = subst (λ (h : Held). GoesSlot old h f t) (sym c.self.view_is) given in
      let none = subst (λ (h : Held). NoneWaits h.pages) (sym c.self.view_is) c.requires.none in
      subst (λ (h : Held). Changes old new (Only (delta_name h.files.name)) (StandsIn h.files.name t)) c.self.view_is
      (c.enter.ensures.left f t (waits c.self.inside.cache.pages) tells out.goes (none_waits c.self.inside.cache.pages none))

pub returns-in_err-enter-clause-left : goal.returns-in_err-enter-clause-left
returns-in_err-enter-clause-left g c f t tells given = left g (goal.at.returns-in_err-enter-clause-left g c).After-enter f t tells given

pub returns-clause-left : goal.returns-clause-left
returns-clause-left g c f t tells given = left g (goal.at.returns-clause-left g c).After-enter f t tells given

pub returns-clause-out : goal.returns-clause-out
returns-clause-out g c f t tells given =
    let old = g.H.Host.world c.args.host.now in
    let new = g.H.Host.world c.enter.new.host in
    let out = subst (λ (h : Held). GoesSlot old h f t) (sym c.self.view_is) given in
    let none = subst (λ (h : Held). NoneWaits h.pages) (sym c.self.view_is) c.requires.none in
    let now : Held = record { files = c.enter.new.self; pages = c.self.inside.cache.pages; cap = c.self.inside.cache.cap } in
    open_settled new now t none (c.in_ok-enter.ensures.done f t (waits c.self.inside.cache.pages) tells out.goes (none_waits c.self.inside.cache.pages none)) out.pages
