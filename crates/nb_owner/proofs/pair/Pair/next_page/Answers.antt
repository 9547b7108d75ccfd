use Rattle.std.proofs.Common.{sym, ap, ◌∙◌}
use Rattle.nb_owner.proofs.Common.{GoesFirst, rank_of, Held, none_some}
use Rattle.nb_owner.proofs.RankLaws.{none_found}
use Rattle.nb_owner.proofs.OpenLaws.{first_waits}
use Rattle.nb_owner.proofs.pair.Pair.next_page.Goals as goal

pub returns-in-Some-clause-next : goal.returns-in-Some-clause-next
returns-in-Some-clause-next c =
    let goes : GoesFirst c.self.inside.cache.pages c.in-Some.number c.in-Some.field-0-1 = c.in-Some.ensures in
    (c.in-Some.field-0-1, sym (ap (λ (h : Held). rank_of h.pages c.in-Some.number) c.self.view_is) ∙ first_waits c.self.inside.cache.pages c.self.invariant.0.once c.in-Some.number c.in-Some.field-0-1 goes)

pub returns-in-Some-clause-merge : goal.returns-in-Some-clause-merge
returns-in-Some-clause-merge c merges =
    let goes : GoesFirst c.self.inside.cache.pages c.in-Some.number c.in-Some.field-0-1 = c.in-Some.ensures in
    let none = c.self.invariant.2 (ap (λ (h : Held). h.files.state) c.self.view_is ∙ merges) in
    absurd (none_some c.in-Some.field-0-1 (sym (none_found c.self.inside.cache.pages none c.in-Some.number) ∙ first_waits c.self.inside.cache.pages c.self.invariant.0.once c.in-Some.number c.in-Some.field-0-1 goes))
