use Rattle.std.proofs.Common.{Ok, Err}
use Rattle.nb_top.proofs.Common.{apply_turn, merging, Serves, passed}
use Rattle.nb_top.proofs.Merged.{merge_serves}
use Rattle.nb_top.proofs.turn.merged.Goals as goal

pub returns-in_err-pages-clause-serves : goal.returns-in_err-pages-clause-serves
returns-in_err-pages-clause-serves g c tells =
    let old = g.H.Host.world c.args.host.now in
    let mid = g.H.Host.world c.apply.new.host in
    let fault = c.in_err-pages.field-0.0 in
    passed _ (λ r. Serves r old mid (merging old.files c.args.db.now c.args.file.now) (apply_turn old.files c.args.db.now c.args.file.now)) c.from_residual.result fault c.from_residual.ensures
    (merge_serves old mid c.args.db.now c.args.file.now (Err fault) (c.in_err-pages.ensures.applies tells))

pub returns-clause-serves : goal.returns-clause-serves
returns-clause-serves g c tells =
    let old = g.H.Host.world c.args.host.now in
    let mid = g.H.Host.world c.apply.new.host in
    merge_serves old mid c.args.db.now c.args.file.now (Ok c.in_ok-pages.pages) (c.in_ok-pages.ensures.applies tells)
