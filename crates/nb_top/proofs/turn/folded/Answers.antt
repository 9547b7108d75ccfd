use Rattle.std.proofs.Common.{arith, Ok, Err}
use Rattle.nb_top.proofs.Common.{fold_turn, folding, Serves, passed}
use Rattle.nb_top.proofs.Folded.{fold_serves}
use Rattle.nb_top.proofs.turn.folded.Goals as goal

pub returns-in_err-made-clause-serves : goal.returns-in_err-made-clause-serves
returns-in_err-made-clause-serves g c account tells knows =
    let old = g.H.Host.world c.args.host.now in
    let mid = g.H.Host.world c.fold.new.host in
    let fault = c.in_err-made.field-0.0 in
    passed _ (λ r. Serves r old mid (folding old.files c.args.out.now c.args.files.now) (fold_turn old.files account c.args.out.now c.args.files.now)) c.from_residual.result fault c.from_residual.ensures
    (fold_serves old mid account c.args.out.now c.args.files.now knows (omega (arith, c.requires.some)) (Err fault) 0 tt (c.in_err-made.ensures.folds tells))

pub returns-clause-serves : goal.returns-clause-serves
returns-clause-serves g c account tells knows =
    let old = g.H.Host.world c.args.host.now in
    let mid = g.H.Host.world c.fold.new.host in
    fold_serves old mid account c.args.out.now c.args.files.now knows (omega (arith, c.requires.some)) (Ok c.in_ok-made.made) c.level_of.result c.level_of.ensures (c.in_ok-made.ensures.folds tells)
