use Rattle.std.proofs.Common.{Ok, Err}
use Rattle.nb_top.proofs.Common.{fixup_turn, fixing, Serves, passed}
use Rattle.nb_top.proofs.Fixed.{fix_serves}
use Rattle.nb_top.proofs.turn.fixed.Goals as goal

pub returns-in_err-fix_up-clause-serves : goal.returns-in_err-fix_up-clause-serves
returns-in_err-fix_up-clause-serves g c tells =
    let old = g.H.Host.world c.args.host.now in
    let mid = g.H.Host.world c.fix_up.new.host in
    let fault = c.in_err-fix_up.field-0.0 in
    passed _ (λ r. Serves r old mid (fixing old.files c.args.db.now) (fixup_turn old.files c.args.db.now)) c.from_residual.result fault c.from_residual.ensures
    (fix_serves old mid c.args.db.now (Err fault) (c.in_err-fix_up.ensures.fixes tells))

pub returns-clause-serves : goal.returns-clause-serves
returns-clause-serves g c tells =
    let old = g.H.Host.world c.args.host.now in
    let mid = g.H.Host.world c.fix_up.new.host in
    fix_serves old mid c.args.db.now (Ok tt) (c.in_ok-fix_up.ensures.fixes tells)
