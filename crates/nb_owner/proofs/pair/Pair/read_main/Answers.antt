use Rattle.std.proofs.Common.{length, sym, subst, ap, ◌∙◌, arith}
use Rattle.nb_owner.proofs.Common.{on_ok_weaker, state_of, Image, page_at, Held, IsOpen, the_view}
use Rattle.nb_owner.proofs.WaitLaws.{files_still, sees_size}
use Rattle.nb_owner.proofs.pair.Pair.read_main.Goals as goal

pub returns-clause-open : goal.returns-clause-open
returns-clause-open g c t tells given =
    let old = g.H.Host.world c.args.host.now in
    let new = g.H.Host.world c.read_main.new.host in
    let is = subst (λ (h : Held). IsOpen old h t) (sym c.self.view_is) given in
    files_still old new (the_view c.self.inside) t c.read_main.new.self c.read_main.ensures.same c.read_main.ensures.quiet.still is

pub returns-clause-page : goal.returns-clause-page
returns-clause-page g c t tells given stalled low =
    let old = g.H.Host.world c.args.host.now in
    let is = subst (λ (h : Held). IsOpen old h t) (sym c.self.view_is) given in
    on_ok_weaker c.read_main.result (λ same. same ∙ ap (λ (x : Image). page_at x c.args.number) is.waits.behind.frozen)
    (c.read_main.ensures.page is.sees.base tells is.files.shows (sees_size old (the_view c.self.inside) t is) (ap state_of is.waits.behind.first ∙ sym is.agrees.state ∙ ap (λ (h : Held). h.files.state) c.self.view_is ∙ stalled)
    (omega (arith, low, ap length is.waits.behind.frozen)))
