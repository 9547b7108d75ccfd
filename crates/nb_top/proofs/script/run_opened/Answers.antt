use Rattle.std.proofs.Common.{[], ap, refl, ◌∙◌, Bool, Err}
use Rattle.nb_top.proofs.Common.{RunError, after_steps, settled, grows_none, grows_joined, RunsOpened, first_event, opened_reply, told_first, told_later}
use Rattle.nb_session.specs.ByTurns.{ending_of}
use Rattle.nb_top.proofs.ByTurnsLaws.{reply_said_by, reply_unsaid_by}
use Rattle.nb_top.proofs.OpenedSaid.{opened_err, reply_unsaid, reply_said_then, ready_still}
use Rattle.nb_top.proofs.QuietRuns.{foretold_from}
use Rattle.nb_top.proofs.ToldLaws.{told_first_made, told_first_steps, told_output, told_status}
use Rattle.nb_state.proofs.MakesLaws.{still_open}
use Rattle.nb_top.proofs.script.run_opened.Goals as goal

pub returns-in_err-say_opened-clause-plays : goal.returns-in_err-say_opened-clause-plays
returns-in_err-say_opened-clause-plays g c tells = (
  [],
  λ now start strokes ready todo making told trail.
      let old = g.H.Host.world c.args.host.now in
      let new = g.H.Host.world c.say_opened.new.host in
      let plan = c.args.script.now in
      let held = c.args.engine.now in
      let telling = c.args.telling in
      let pages = held.files.count in
      let done = first_event plan.first_session strokes (opened_reply plan.first held.files.count held.files.state) in
      opened_err c.from_residual.result (λ r. RunsOpened g.H.Host.world r c.args.host.now c.say_opened.new.host held held start (told_first telling done) telling pages now plan) c.from_residual.ensures.0
      (λ e. record {
        whole = reply_unsaid old new new held held start now plan c.requires.askable ready todo making (told_first telling done) telling pages (told_first_made telling done) _ (told_output plan.first_session strokes plan.first held.files.count held.files.state telling)
            (ap (after_steps (settled start)) (told_first_steps telling done) ∙ trail) c.say_opened.result (c.say_opened.ensures.line tells) e;
        turns = reply_unsaid_by g.H.Host.world g.met.H.Host.timely (λ h. g.met.H.Host.reads_left h tells) plan.first (told_later telling pages) now plan.schedule c.say_opened.result _ (ending_of {T = Bool} (Err e)) refl c.args.host.now c.say_opened.new.host (c.say_opened.ensures.line tells);
      }),
)

pub returns-in_err-say_opened-clause-grows : goal.returns-in_err-say_opened-clause-grows
returns-in_err-say_opened-clause-grows g c now tells ready todo making = grows_none (g.H.Host.world c.args.host.now) (g.H.Host.world c.say_opened.new.host) c.say_opened.ensures.gave

pub returns-clause-plays : goal.returns-clause-plays
returns-clause-plays g c tells = (
  (c.take_told.ensures.plays tells).0,
  λ now start strokes ready todo making told trail.
      let old = g.H.Host.world c.args.host.now in
      let mid = g.H.Host.world c.say_opened.new.host in
      let new = g.H.Host.world c.take_told.new.host in
      let plan = c.args.script.now in
      let held = c.args.engine.now in
      let telling = c.args.telling in
      let pages = held.files.count in
      let done = first_event plan.first_session strokes (opened_reply plan.first held.files.count held.files.state) in
      let says = c.say_opened.ensures.line tells in
      let said = (c.in_ok-say_opened.ensures.line tells).said in
      let taken = (c.take_told.ensures.plays tells).1 now _ (ready_still old mid held now says.still ready) todo making (foretold_from old mid new now.given _ c.say_opened.ensures.gave told) in
      record {
        whole = reply_said_then old mid new held c.take_told.new.engine start now plan c.requires.askable ready todo making (told_first telling done) telling pages (told_first_made telling done) _ (told_output plan.first_session strokes plan.first held.files.count held.files.state telling)
            (ap (after_steps (settled start)) (told_first_steps telling done) ∙ trail) c.say_opened.result says (told_status plan.first_session strokes plan.first held.files.count held.files.state telling) said c.take_told.result taken.whole;
        turns = reply_said_by g.H.Host.world g.met.H.Host.timely (λ h. g.met.H.Host.reads_left h tells) plan.first (told_later telling pages) now plan.schedule c.say_opened.result _ _ c.args.host.now c.say_opened.new.host c.take_told.new.host says taken.turns;
      },
)

pub returns-clause-grows : goal.returns-clause-grows
returns-clause-grows g c now tells ready todo making =
    let old = g.H.Host.world c.args.host.now in
    let mid = g.H.Host.world c.say_opened.new.host in
    let new = g.H.Host.world c.take_told.new.host in
    grows_joined old mid new (grows_none old mid c.say_opened.ensures.gave)
    (c.take_told.ensures.grows now _ tells (ready_still old mid c.args.engine.now now (c.say_opened.ensures.line tells).still ready) todo making)

pub returns-clause-danger : goal.returns-clause-danger
returns-clause-danger g c statement t tells opened is =
    c.take_told.ensures.danger statement t tells (still_open (g.H.Host.world c.args.host.now) (g.H.Host.world c.say_opened.new.host) c.args.engine.now t (c.say_opened.ensures.line tells).still opened) is
