use Rattle.std.proofs.Common.{Ok, Err}
use Rattle.nb_top.proofs.Common.{restore_turn, restoring, Serves, passed}
use Rattle.nb_top.proofs.Restored.{restore_serves}
use Rattle.nb_top.proofs.turn.restored.Goals as goal

pub returns-in_err-pages-clause-serves : goal.returns-in_err-pages-clause-serves
returns-in_err-pages-clause-serves g c account tells knows =
    let old = g.H.Host.world c.args.host.now in
    let mid = g.H.Host.world c.restore.new.host in
    let fault = c.in_err-pages.field-0.0 in
    passed _ (λ r. Serves r old mid (restoring old.files c.args.db.now c.args.files.now) (restore_turn old.files account c.args.db.now c.args.files.now)) c.from_residual.result fault c.from_residual.ensures
    (restore_serves old mid account c.args.db.now c.args.files.now knows (Err fault) (c.in_err-pages.ensures.restores tells))

pub returns-clause-serves : goal.returns-clause-serves
returns-clause-serves g c account tells knows =
    let old = g.H.Host.world c.args.host.now in
    let mid = g.H.Host.world c.restore.new.host in
    restore_serves old mid account c.args.db.now c.args.files.now knows (Ok c.in_ok-pages.pages) (c.in_ok-pages.ensures.restores tells)
