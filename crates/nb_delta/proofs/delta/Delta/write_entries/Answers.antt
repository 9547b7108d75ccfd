use Rattle.std.proofs.Common.{◌≡◌, length, arith}
use Rattle.nb_delta.proofs.KnownLaws.{wait_changes, wait_begun, wait_writes, wait_zeros, none_waits}
use Rattle.nb_delta.proofs.delta.Delta.write_entries.Goals as goal

pub returns-then-self-eq0-clause-changes : goal.returns-then-self-eq0-clause-changes
returns-then-self-eq0-clause-changes g c tells = wait_begun (g.H.Host.world c.args.host.now) _ c.args.self.now c.self.view_is (g.met.H.Host.timely c.args.host.now)

pub returns-then-self-eq0-clause-written : goal.returns-then-self-eq0-clause-written
returns-then-self-eq0-clause-written g c tells = none_waits (g.H.Host.world c.args.host.now).files _ c.args.self.now c.self.view_is c.if-self-eq0.true

pub returns-in_err-put_waiting-clause-changes : goal.returns-in_err-put_waiting-clause-changes
returns-in_err-put_waiting-clause-changes g c tells =
    let size : length c.deref_mut.result.now ≡ c.self.inside.page_size = omega (arith, c.deref_mut.ensures.len, c.self.invariant.1) in
    wait_changes (g.H.Host.world c.args.host.now) (g.H.Host.world c.put_waiting.new.host) (length c.deref_mut.result.now) _ c.args.self.now c.self.view_is size (c.put_waiting.ensures.changes tells)

pub returns-clause-changes : goal.returns-clause-changes
returns-clause-changes g c tells =
    let size : length c.deref_mut.result.now ≡ c.self.inside.page_size = omega (arith, c.deref_mut.ensures.len, c.self.invariant.1) in
    wait_changes (g.H.Host.world c.args.host.now) (g.H.Host.world c.put_waiting.new.host) (length c.deref_mut.result.now) _ c.args.self.now c.self.view_is size (c.put_waiting.ensures.changes tells)

pub returns-clause-written : goal.returns-clause-written
returns-clause-written g c tells =
    let size : length c.deref_mut.result.now ≡ c.self.inside.page_size = omega (arith, c.deref_mut.ensures.len, c.self.invariant.1) in
    wait_writes (g.H.Host.world c.args.host.now).files (g.H.Host.world c.put_waiting.new.host).files (length c.deref_mut.result.now) _ c.args.self.now c.self.view_is size (c.in_ok-put_waiting.ensures.written tells)

pub returns-clause-zeros : goal.returns-clause-zeros
returns-clause-zeros g c tells some =
    let size : length c.deref_mut.result.now ≡ c.self.inside.page_size = omega (arith, c.deref_mut.ensures.len, c.self.invariant.1) in
    wait_zeros (g.H.Host.world c.args.host.now).files (g.H.Host.world c.put_waiting.new.host).files (length c.deref_mut.result.now) _ c.args.self.now c.self.view_is size (c.in_ok-put_waiting.ensures.zeros tells)
