use Rattle.std.proofs.Common.{◌≡◌, length, arith}
use Rattle.nb_delta.proofs.KnownLaws.{make_changes}
use Rattle.nb_delta.proofs.delta.Delta.make.Goals as goal

pub returns-in_err-make_file-clause-changes : goal.returns-in_err-make_file-clause-changes
returns-in_err-make_file-clause-changes g c tells =
    let size : length c.deref_mut.result.now ≡ c.self.inside.page_size = omega (arith, c.deref_mut.ensures.len, c.self.invariant.1) in
    make_changes (g.H.Host.world c.args.host.now) (g.H.Host.world c.make_file.new.host) (length c.deref_mut.result.now) _ c.forget.new.self c.args.self.now c.self.view_is c.forget.ensures size (c.make_file.ensures.changes tells)

pub returns-clause-changes : goal.returns-clause-changes
returns-clause-changes g c tells =
    let size : length c.deref_mut.result.now ≡ c.self.inside.page_size = omega (arith, c.deref_mut.ensures.len, c.self.invariant.1) in
    make_changes (g.H.Host.world c.args.host.now) (g.H.Host.world c.make_file.new.host) (length c.deref_mut.result.now) _ c.forget.new.self c.args.self.now c.self.view_is c.forget.ensures size (c.make_file.ensures.changes tells)
