use Rattle.std.proofs.Common.{◌≡◌, ◌≤◌, sym, ap, ◌∙◌, arith, None, Some}
use Rattle.nb_owner.proofs.Common.{GoesFirst, rank_of, Held}
use Rattle.nb_owner.proofs.RankLaws.{none_found}
use Rattle.nb_owner.proofs.OpenLaws.{first_waits, first_lowest}
use Rattle.nb_owner.proofs.pair.Pair.next_scn_page.Goals as goal

pub returns-then-rank-le-SCN_PAGE : goal.returns-then-rank-le-SCN_PAGE
returns-then-rank-le-SCN_PAGE c =
    let goes : GoesFirst c.self.inside.cache.pages c.in-Some.number c.in-Some.rank = c.in-Some.ensures in (
      c.in-Some.rank,
      sym (ap (λ (h : Held). rank_of h.pages c.in-Some.number) c.self.view_is) ∙ first_waits c.self.inside.cache.pages c.self.invariant.0.once c.in-Some.number c.in-Some.rank goes,
      omega (arith, c.if-rank-le-SCN_PAGE.true),
    )

pub returns-else-rank-le-SCN_PAGE : goal.returns-else-rank-le-SCN_PAGE
returns-else-rank-le-SCN_PAGE c p rank is =
    let goes : GoesFirst c.self.inside.cache.pages c.in-Some.number c.in-Some.rank = c.in-Some.ensures in
    let lowest : c.in-Some.rank ≤ rank = first_lowest c.self.inside.cache.pages c.self.invariant.0.once c.in-Some.number c.in-Some.rank goes p rank (ap (λ (h : Held). rank_of h.pages p) c.self.view_is ∙ is) in
    omega (arith, lowest, c.if-rank-le-SCN_PAGE.false)

pub returns-in-None : goal.returns-in-None
returns-in-None c p rank is =
    absurd (let h : None ≡ Some rank = sym (none_found c.self.inside.cache.pages c.in-None.ensures p) ∙ ap (λ (h : Held). rank_of h.pages p) c.self.view_is ∙ is in cc)
