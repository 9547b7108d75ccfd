use Rattle.std.proofs.Common.{[], ap}
use Rattle.nb_host.specs.declared.faults.RunError.TheVariants.{Device}
use Rattle.nb_session.proofs.GiftLaws.{grows_none, grows_joined, foretold_still}
use Rattle.nb_session.proofs.FilesLaws.{files_waiting}
use Rattle.nb_session.proofs.OutLaws.{takes_both, whole_out, whole_passed, whole_stopped}
use Rattle.nb_session.proofs.sessions.take_turns.Goals as goal

pub returns-in_err-refused-clause-plays : goal.returns-in_err-refused-clause-plays
returns-in_err-refused-clause-plays g c tells =
    let played = c.in_err-refused.ensures.plays tells in (
      played.0,
      λ now t ready begins making foretold.
          whole_passed g.H.Host.world c.args.host.now c.play.new.host c.args.engine.now c.play.new.engine t c.args.told now c.args.script.now.schedule _ c.from_residual.result c.from_residual.ensures
          (played.1 now t ready begins making foretold),
    )

pub returns-clause-plays : goal.returns-clause-plays
returns-clause-plays g c tells =
    let old = g.H.Host.world c.args.host.now in
    let mid = g.H.Host.world c.play.new.host in
    let new = g.H.Host.world c.write_out.new.host in
    let out = c.in_ok-write_out.ensures in
    let played = c.in_ok-refused.ensures.plays tells in (
      played.0,
      λ now t ready begins making foretold.
          let grown = c.play.ensures.grows now t tells ready begins making in
          whole_out g.H.Host.world c.args.host.now c.play.new.host c.write_out.new.host c.args.engine.now c.play.new.engine c.write_out.new.self t c.args.told now c.args.script.now.schedule making c.in_ok-refused.refused
          (played.1 now t ready begins making (foretold_still old mid new now.given played.0 grown out.gave foretold)) out.same out.gave
          (λ u opened. files_waiting mid new c.play.new.engine u opened (out.takes u tells opened).left (out.long u tells opened)) (λ u opened. takes_both _ mid new c.play.new.engine.files.state _ _ u [] (out.takes u tells opened)) (λ u opened settled. ap (λ host. (g.H.Host.world host).files) (out.at_settled u tells opened settled).2),
    )

pub returns-clause-grows : goal.returns-clause-grows
returns-clause-grows g c now t tells ready begins making =
    grows_joined (g.H.Host.world c.args.host.now) (g.H.Host.world c.play.new.host) (g.H.Host.world c.write_out.new.host) (c.play.ensures.grows now t tells ready begins making)
    (grows_none (g.H.Host.world c.play.new.host) (g.H.Host.world c.write_out.new.host) c.write_out.ensures.gave)

pub returns-in_err-write_out-clause-plays : goal.returns-in_err-write_out-clause-plays
returns-in_err-write_out-clause-plays g c tells =
    let old = g.H.Host.world c.args.host.now in
    let mid = g.H.Host.world c.play.new.host in
    let new = g.H.Host.world c.write_out.new.host in
    let out = c.in_err-write_out.ensures in
    let played = c.in_ok-refused.ensures.plays tells in (
      played.0,
      λ now t ready begins making foretold.
          let grown = c.play.ensures.grows now t tells ready begins making in
          whole_passed g.H.Host.world c.args.host.now c.write_out.new.host c.args.engine.now c.write_out.new.self t c.args.told now c.args.script.now.schedule _ c.from_residual-in_err-write_out.result c.from_residual-in_err-write_out.ensures
          (whole_stopped g.H.Host.world c.args.host.now c.play.new.host c.write_out.new.host c.args.engine.now c.play.new.engine c.write_out.new.self t c.args.told now c.args.script.now.schedule making c.in_ok-refused.refused
          (played.1 now t ready begins making (foretold_still old mid new now.given played.0 grown out.gave foretold)) out.same out.gave Device
          (λ u opened. files_waiting mid new c.play.new.engine u opened (out.takes u tells opened).left (out.long u tells opened)) (λ u opened. (takes_both _ mid new c.play.new.engine.files.state _ _ u [] (out.takes u tells opened)).left)
          (λ u opened settled. ap (λ host. (g.H.Host.world host).files) (out.at_settled u tells opened settled).2)),
    )

pub returns-in_err-write_out-clause-grows : goal.returns-in_err-write_out-clause-grows
returns-in_err-write_out-clause-grows g c now t tells ready begins making =
    grows_joined (g.H.Host.world c.args.host.now) (g.H.Host.world c.play.new.host) (g.H.Host.world c.write_out.new.host) (c.play.ensures.grows now t tells ready begins making)
    (grows_none (g.H.Host.world c.play.new.host) (g.H.Host.world c.write_out.new.host) c.write_out.ensures.gave)

pub returns-clause-danger : goal.returns-clause-danger
returns-clause-danger g c statement t tells opened is = c.in_ok-refused.ensures.danger statement t tells opened is
