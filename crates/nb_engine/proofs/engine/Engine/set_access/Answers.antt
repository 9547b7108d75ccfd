use Rattle.std.proofs.Common.{◌≡◌, ℕ, ◌∙◌, refl, sym, ap, subst, rules, arith, None, Some}
use Rattle.nb_engine.proofs.Common.{normal_state, WrongState, quiet_begun, Done, flag, Cause, not_state, Seen, byte_strokes, access_turn, Held, IsOpen, Tries, done, seeing, if_ok, tries_failed, tries_does, refused_memory}
use denote.Enum.Bare.{same_true, same_false}
use Rattle.nb_cases.specs.Events.{OnOpen}
use Rattle.nb_cases.specs.contracts.events.Case.{the_type}
use Rattle.nb_cases.specs.declared.events.Case.TheVariants as case
use Rattle.nb_cases.proofs.StateLaws.{goes, only_normal}
use Rattle.nb_engine.proofs.FlagLaws.{access_is}
use Rattle.nb_engine.proofs.engine.Engine.set_access.Goals as goal

pub returns-then-eq-clause-turn : goal.returns-then-eq-clause-turn
returns-then-eq-clause-turn g c s t tells same is =
    let first = g.H.Host.world c.args.host.now in
    let here = subst (λ (h : Held). IsOpen first h t) (sym c.self.view_is) is in
    let state = c.state-state.ensures.value ∙ here.files.agrees.state in
    let says : OnOpen (not_state normal_state) c.state-state.result case.WrongState = subst (OnOpen (not_state normal_state) c.state-state.result) (same_true the_type (search rules) c.case_of.result case.WrongState (sym c.eq.ensures ∙ c.if-eq.true)) c.case_of.ensures in
    let other = says t.base.image (sym state) ∙ ap (λ (n : ℕ). Some (WrongState n)) (sym c.from.ensures) in
    tries_does done _ first first _ _ t s (λ (x : Seen). access_turn x c.args.closed) _ Done refl _ same (access_is (seeing s t.base) c.args.closed) tt
    (tries_failed (Unit {0}) _ first first _ _ t (not_state normal_state t.base.image) _ (refused_memory _) other refl (quiet_begun first (g.met.H.Host.timely c.args.host.now)) is is)

pub returns-clause-turn : goal.returns-clause-turn
returns-clause-turn g c s t tells same is =
    let old = g.H.Host.world c.args.host.now in
    let new = g.H.Host.world c.put_flag.new.host in
    let here = subst (λ (h : Held). IsOpen old h t) (sym c.self.view_is) is in
    let other = same_false the_type c.case_of.result case.WrongState (sym c.eq.ensures ∙ c.if-eq.false) in
    let state = c.state-state.ensures.value ∙ here.files.agrees.state in
    let free : None ≡ not_state normal_state t.base.image = sym (goes (not_state normal_state) c.state-state.result c.state-state.ensures.most c.case_of.result c.case_of.ensures other t.base.image (sym state)) in
    let result = c.put_flag.result in
    let xs = byte_strokes 65 (flag c.args.closed) t.base.image in
    let made = subst (λ (n : ℕ). Tries result old new c.self.inside.store c.put_flag.new.store t None (byte_strokes n (flag c.args.closed) t.base.image)) (ap (λ (place : ℕ × ℕ). place.0) c.place-at.ensures) (c.put_flag.ensures.tries t tells here) in
    let tries = subst (λ (k : Cause). Tries result old new c.self.inside.store c.put_flag.new.store t k xs) free made in
    tries_does done result old new _ _ t s (λ (x : Seen). access_turn x c.args.closed) _ Done refl _ same (access_is (seeing s t.base) c.args.closed) (if_ok result (λ value. done value ≡ Done) (λ value. refl))
    (subst (λ (h : Held). Tries result old new h c.put_flag.new.store t (not_state normal_state t.base.image) xs) c.self.view_is tries)

pub returns-clause-takes_none : goal.returns-clause-takes_none
returns-clause-takes_none g c =
    let other = same_false the_type c.case_of.result case.WrongState (sym c.eq.ensures ∙ c.if-eq.false) in
    let normal = only_normal c.state-state.result c.state-state.ensures.most c.case_of.result other c.case_of.ensures in
    c.put_flag.ensures.takes_none (λ stalled. absurd (omega (arith, normal, c.state-state.ensures.value, stalled)))
