use Rattle.std.proofs.Common.{◌≡◌, [], sym, subst, ◌∙◌, true}
use Rattle.nb_owner.proofs.Common.{true≢false, World, is_forced, Trail, NoneWaits, Held, Pages, IsOpen, none_there, on_ok}
use Rattle.nb_owner.proofs.RankLaws.{none_found}
use Rattle.nb_owner.proofs.WaitLaws.{none_drafted, settled_none, forced_none}
use Rattle.nb_owner.proofs.pair.Pair.write_out.Goals as goal

pub returns-in-Some-clause-idle : goal.returns-in-Some-clause-idle
returns-in-Some-clause-idle g c none no_drafts = absurd (none_there (sym (none_found c.args.self.now.pages none c.in-Some.field-0) ∙ c.in-Some.ensures.next.1))

pub returns-in-Some-clause-outside : goal.returns-in-Some-clause-outside
returns-in-Some-clause-outside g c merges = absurd (none_there (sym (c.next_page.ensures.merge merges) ∙ c.in-Some.is))

pub returns-in-Some-clause-at_settled : goal.returns-in-Some-clause-at_settled
returns-in-Some-clause-at_settled g c t tells is none = absurd ((is.waits.each c.in-Some.field-0 c.in-Some.ensures.next.0 c.in-Some.ensures.next.1).unsettled none)

no_drafts : (w : World) (held : Held) (t : Trail) → IsOpen w held t → t.earlier ≡ [] → held.files.drafted ≡ 0
no_drafts w held t is none = (none_drafted held.pages held.files.drafted is.sees t (settled_none w held t is none) is.waits).0

pub returns-in-None-clause-at_settled : goal.returns-in-None-clause-at_settled
returns-in-None-clause-at_settled g c t tells is none = c.enter_rest.ensures.idle (no_drafts (g.H.Host.world c.args.host.now) c.args.self.now t is none)

pub returns-in-Some-clause-at_forced : goal.returns-in-Some-clause-at_forced
returns-in-Some-clause-at_forced g c t tells is forced = absurd (true≢false (sym forced ∙ (is.waits.each c.in-Some.field-0 c.in-Some.ensures.next.0 c.in-Some.ensures.next.1).loose))

no_drafts_forced : (w : World) (held : Held) (t : Trail) → IsOpen w held t → is_forced t.base.image ≡ true → held.files.drafted ≡ 0
no_drafts_forced w held t is forced = (none_drafted held.pages held.files.drafted is.sees t (forced_none w held t is forced) is.waits).0

pub returns-in-None-clause-at_forced : goal.returns-in-None-clause-at_forced
returns-in-None-clause-at_forced g c t tells is forced = c.enter_rest.ensures.idle (no_drafts_forced (g.H.Host.world c.args.host.now) c.args.self.now t is forced)

pub returns-in-None-clause-none : goal.returns-in-None-clause-none
returns-in-None-clause-none g c = on_ok c.enter_rest.result (subst (λ (ps : Pages). NoneWaits ps) (sym c.enter_rest.ensures.pages) c.in-None.ensures.next)

pub returns-in-Some-clause-within : goal.returns-in-Some-clause-within
returns-in-Some-clause-within g c t tells is = c.flush_all.ensures.within t tells is

pub returns-in-None-clause-within : goal.returns-in-None-clause-within
returns-in-None-clause-within g c t tells is = c.enter_rest.ensures.within t tells is
