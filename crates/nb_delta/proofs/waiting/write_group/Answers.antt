use Rattle.std.proofs.Common.{ℕ, ◌*◌, List, length, refl, ap, ◌∙◌, subst}
use Rattle.nb_delta.proofs.Common.{on_ok_weaker, Files, with_page, PageLeft, GroupStep, page_alone, whole_on_ok}
use Rattle.nb_delta.proofs.MoveLaws.{written}
use Rattle.nb_delta.proofs.EmptyLaws.{group_left, group_put}
use Rattle.nb_delta.proofs.waiting.write_group.Goals as goal

pub returns-clause-put : goal.returns-clause-put
returns-clause-put g c tells =
    let page : List ℕ = c.args.page.now in
    let old : Files = (g.H.Host.world c.args.host.now).files in
    let new : Files = (g.H.Host.world c.write_page.new.self).files in
    on_ok_weaker c.write_page.result
    (λ put. group_put (length page) c.requires.size c.args.group page refl (old c.args.name.now) (new c.args.name.now)
    (written old new c.args.name.now page (c.alloc_page_of.result * length page) put ∙ ap (λ (n : ℕ). with_page (old c.args.name.now) (n * length page) page) c.alloc_page_of.ensures.value))
    (whole_on_ok c.write_page.result _ _ _ (c.write_page.ensures.files.files tells))

pub returns-clause-changes : goal.returns-clause-changes
returns-clause-changes g c tells =
    let page : List ℕ = c.args.page.now in
    page_alone g.H.Host.tells c.write_page.result (g.H.Host.world c.args.host.now) (g.H.Host.world c.write_page.new.self) c.args.name.now (c.alloc_page_of.result * length page) page (GroupStep (length page) c.args.group page)
    tells (g.met.H.Host.timely c.args.host.now) c.write_page.ensures.files c.write_page.ensures.log.said c.write_page.ensures.time
    (λ d x was left. group_left (length page) c.requires.size c.args.group page refl d x (subst (λ (n : ℕ). PageLeft (n * length page) page d x) c.alloc_page_of.ensures.value left))
