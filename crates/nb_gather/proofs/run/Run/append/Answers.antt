use Rattle.std.proofs.Common.{◌++◌, ◌*◌, take, ap, subst, arith, mul-le-mul_right}
use Rattle.nb_gather.proofs.Common.{bytes_of, size_facts, AddsTwo, Waiting}
use Rattle.nb_gather.proofs.WaitingLaws.{run_adds}
use Rattle.nb_gather.proofs.run.Run.append.Goals as goal

pub returns-clause-adds : goal.returns-clause-adds
returns-clause-adds g c tells =
    let run = c.self.inside in
    let is = c.self.invariant in
    subst (λ (v : Waiting). AddsTwo c.write_run.result (g.H.Host.world c.args.host.now) (g.H.Host.world c.write_run.new.host) c.args.name.now (bytes_of 4 v.first ++ bytes_of 4 v.count) v.bytes) c.self.view_is
    (run_adds c.write_run.result _ _ _ run.first run.count run.page_size run.bytes.items _ (omega (arith, (size_facts run.page_size is.is_size).at_least)) (omega (arith, mul-le-mul_right run.page_size is.few, is.wide))
    (ap (take (run.count * run.page_size)) c.deref.ensures.value) (c.write_run.ensures.adds tells))
