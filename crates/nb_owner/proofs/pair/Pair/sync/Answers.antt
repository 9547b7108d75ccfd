use Rattle.nb_owner.proofs.Common.{StandsIn, OfFiles, touched_joined, quiet_touched, not_done, on_ok}
use Rattle.nb_owner.proofs.OutLaws.{quiet_more}
use Rattle.nb_base.proofs.StaysLaws.{quiet_keeps, keeps_joined}
use Rattle.nb_owner.proofs.pair.Pair.sync.Goals as goal

pub returns-in_err-write_out-clause-takes : goal.returns-in_err-write_out-clause-takes
returns-in_err-write_out-clause-takes g c t tells is = record { left = (c.write_out.ensures.takes t tells is).left; done = not_done c.from_residual.result _ c.from_residual.ensures.0 }

pub returns-clause-takes : goal.returns-clause-takes
returns-clause-takes g c t tells is =
    let first = c.in_ok-write_out.ensures.takes t tells is in
    record {
      left = quiet_more (g.H.Host.world c.args.host.now) (g.H.Host.world c.write_out.new.host) (g.H.Host.world c.sync_files.new.host) (OfFiles c.args.self.now.files.name) (StandsIn c.args.self.now.files.name t) first.left c.sync_files.ensures.quiet;
      done = on_ok c.sync_files.result (c.sync_files.ensures.open t tells first.done);
    }

pub returns-clause-settled : goal.returns-clause-settled
returns-clause-settled g c t tells is = c.sync_files.ensures.settled t tells (c.in_ok-write_out.ensures.takes t tells is).done

pub returns-clause-touches : goal.returns-clause-touches
returns-clause-touches g c t tells is =
    let mid = g.H.Host.world c.write_out.new.host in
    let new = g.H.Host.world c.sync_files.new.host in
    touched_joined (g.H.Host.world c.args.host.now) mid new _ (c.write_out.ensures.touches t tells is) (quiet_touched mid new _ c.sync_files.ensures.quiet)

pub returns-clause-within : goal.returns-clause-within
returns-clause-within g c t tells is most within =
    let mid = g.H.Host.world c.write_out.new.host in
    let new = g.H.Host.world c.sync_files.new.host in
    keeps_joined _ mid new c.args.self.now.files.name _ (c.write_out.ensures.within t tells is most within) (quiet_keeps mid new c.args.self.now.files.name _ c.sync_files.ensures.quiet)
