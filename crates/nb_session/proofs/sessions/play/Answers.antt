use Rattle.std.proofs.Common.{refl, subst, sym, ◌∙◌, ◌++◌, Bool, Ok, Err}
use Rattle.nb_session.proofs.Common.{rounds, scene, first_askers, PlaysInTurn}
use Rattle.nb_session.proofs.DangerLaws.{found_alone}
use Rattle.nb_session.proofs.OutLaws.{whole_passed}
use Rattle.nb_session.proofs.StepLaws.{counts_handed}
use Rattle.nb_session.proofs.WholeLaws.{turns_as, first_ready, whole_shown, whole_played, whole_failed, whole_grows, whole_counts}
use Rattle.nb_session.proofs.sessions.play.Goals as goal

pub take_turns-requires-clause-ready : goal.take_turns-requires-clause-ready
take_turns-requires-clause-ready g c =
    first_ready g.H.Host.tells g.H.Host.world g.H.Host.faults c.args.told c.args.script.now c.requires.askable c.sessions_of-all.result c.args.host.now c.args.engine.now c.sessions_of-all.ensures

pub returns-clause-plays : goal.returns-clause-plays
returns-clause-plays g c tells =
    let whole = c.in_ok-take_turns.ensures.turns in
    let after = (scene c.take_turns.new.agents c.take_turns.new.host c.take_turns.new.shared) in
    let turns = (turns_as g.H.Host.tells g.H.Host.world g.H.Host.faults c.args.script.now.schedule _ (first_askers c.args.told c.args.script.now) _ whole.0 c.args.host.now c.args.engine.now (Ok tt) _ _ c.schedule.ensures c.sessions_of-all.ensures refl whole.1) in (
      whole_shown g.H.Host.tells tells g.H.Host.world g.H.Host.faults c.args.host.now c.args.engine.now c.args.told c.args.script.now c.requires.askable whole.0 (g.met.H.Host.timely c.args.host.now) (Ok tt) after turns,
      λ now t ready begins making foretold.
          subst (λ (b : Bool). PlaysInTurn g.H.Host.world (Ok b) c.args.host.now c.take_turns.new.host c.args.engine.now c.take_turns.new.shared t c.args.told now c.args.script.now.schedule) (sym c.any_refused-refused.ensures)
          (whole_played g.H.Host.tells tells g.H.Host.world g.H.Host.faults c.args.host.now c.args.engine.now c.args.told c.args.script.now c.requires.askable whole.0 (g.met.H.Host.timely c.args.host.now) t now making ready begins after turns c.in_ok-take_turns.ensures.finished (g.met.H.Host.timely c.take_turns.new.host) foretold),
    )

pub returns-clause-danger : goal.returns-clause-danger
returns-clause-danger g c statement t tells opened is =
    let whole = c.in_ok-take_turns.ensures.turns in
    let after = (scene c.take_turns.new.agents c.take_turns.new.host c.take_turns.new.shared) in
    c.danger_of.ensures
    ∙ found_alone g.H.Host.tells tells g.H.Host.world g.H.Host.faults c.args.host.now c.args.engine.now c.args.told c.args.script.now statement is t opened (c.args.script.now.schedule ++ rounds whole.0) after
    (turns_as g.H.Host.tells g.H.Host.world g.H.Host.faults c.args.script.now.schedule _ (first_askers c.args.told c.args.script.now) _ whole.0 c.args.host.now c.args.engine.now (Ok tt) _ _ c.schedule.ensures c.sessions_of-all.ensures refl whole.1)
    c.in_ok-take_turns.ensures.finished

pub returns-clause-grows : goal.returns-clause-grows
returns-clause-grows g c now t tells ready begins making =
    let whole = c.in_ok-take_turns.ensures.turns in
    whole_grows g.H.Host.tells tells g.H.Host.world g.H.Host.faults c.args.host.now c.args.engine.now c.args.told c.args.script.now c.requires.askable whole.0 (g.met.H.Host.timely c.args.host.now) t now making ready begins (Ok tt)
    (scene c.take_turns.new.agents c.take_turns.new.host c.take_turns.new.shared)
    (turns_as g.H.Host.tells g.H.Host.world g.H.Host.faults c.args.script.now.schedule _ (first_askers c.args.told c.args.script.now) _ whole.0 c.args.host.now c.args.engine.now (Ok tt) _ _ c.schedule.ensures c.sessions_of-all.ensures refl whole.1)

pub returns-clause-cause : goal.returns-clause-cause
returns-clause-cause g c =
    let whole = c.in_ok-take_turns.ensures.turns in
    whole_counts g.H.Host.tells g.H.Host.world g.H.Host.faults _ _ (scene c.take_turns.new.agents c.take_turns.new.host c.take_turns.new.shared) (Ok tt)
    (turns_as g.H.Host.tells g.H.Host.world g.H.Host.faults c.args.script.now.schedule _ (first_askers c.args.told c.args.script.now) _ whole.0 c.args.host.now c.args.engine.now (Ok tt) _ _ c.schedule.ensures c.sessions_of-all.ensures refl whole.1)

pub returns-in_err-take_turns-clause-plays : goal.returns-in_err-take_turns-clause-plays
returns-in_err-take_turns-clause-plays g c tells =
    let whole = c.in_err-take_turns.ensures.turns in
    let error = c.in_err-take_turns.field-0.0 in
    let after = (scene c.take_turns.new.agents c.take_turns.new.host c.take_turns.new.shared) in
    let turns = (turns_as g.H.Host.tells g.H.Host.world g.H.Host.faults c.args.script.now.schedule _ (first_askers c.args.told c.args.script.now) _ whole.0 c.args.host.now c.args.engine.now (Err error) _ _ c.schedule.ensures c.sessions_of-all.ensures refl whole.1) in (
      whole_shown g.H.Host.tells tells g.H.Host.world g.H.Host.faults c.args.host.now c.args.engine.now c.args.told c.args.script.now c.requires.askable whole.0 (g.met.H.Host.timely c.args.host.now) (Err error) after turns,
      λ now t ready begins making foretold.
          whole_passed g.H.Host.world c.args.host.now c.take_turns.new.host c.args.engine.now c.take_turns.new.shared t c.args.told now c.args.script.now.schedule error c.from_residual.result c.from_residual.ensures
          (whole_failed g.H.Host.tells tells g.H.Host.world g.H.Host.faults c.args.host.now c.args.engine.now c.args.told c.args.script.now c.requires.askable whole.0 (g.met.H.Host.timely c.args.host.now) t now making ready begins after error turns foretold),
    )

pub returns-in_err-take_turns-clause-grows : goal.returns-in_err-take_turns-clause-grows
returns-in_err-take_turns-clause-grows g c now t tells ready begins making =
    let whole = c.in_err-take_turns.ensures.turns in
    let error = c.in_err-take_turns.field-0.0 in
    whole_grows g.H.Host.tells tells g.H.Host.world g.H.Host.faults c.args.host.now c.args.engine.now c.args.told c.args.script.now c.requires.askable whole.0 (g.met.H.Host.timely c.args.host.now) t now making ready begins (Err error)
    (scene c.take_turns.new.agents c.take_turns.new.host c.take_turns.new.shared)
    (turns_as g.H.Host.tells g.H.Host.world g.H.Host.faults c.args.script.now.schedule _ (first_askers c.args.told c.args.script.now) _ whole.0 c.args.host.now c.args.engine.now (Err error) _ _ c.schedule.ensures c.sessions_of-all.ensures refl whole.1)

pub returns-in_err-take_turns-clause-cause : goal.returns-in_err-take_turns-clause-cause
returns-in_err-take_turns-clause-cause g c =
    let whole = c.in_err-take_turns.ensures.turns in
    let error = c.in_err-take_turns.field-0.0 in
    counts_handed error (Unit {0}) c.from_residual.result _ _ c.from_residual.ensures
    (whole_counts g.H.Host.tells g.H.Host.world g.H.Host.faults _ _ (scene c.take_turns.new.agents c.take_turns.new.host c.take_turns.new.shared) (Err error)
    (turns_as g.H.Host.tells g.H.Host.world g.H.Host.faults c.args.script.now.schedule _ (first_askers c.args.told c.args.script.now) _ whole.0 c.args.host.now c.args.engine.now (Err error) _ _ c.schedule.ensures c.sessions_of-all.ensures refl whole.1))
