use Rattle.std.proofs.Common.{ℕ, take, ap, ◌∙◌}
use Rattle.nb_fixup.proofs.Common.{Device, normal_page, Fixes, passed}
use Rattle.nb_fixup.proofs.FixupLaws.{copy_there, fix_refused, fix_fails, fix_done}
use Rattle.nb_fixup.proofs.fixing.fix_up.Goals as goal

pub returns-in_err-size-clause-fixes : goal.returns-in_err-size-clause-fixes
returns-in_err-size-clause-fixes g c tells =
    let old = g.H.Host.world c.args.host.now in
    let mid = g.H.Host.world c.read_copy.new.host in
    passed (Unit {0}) (λ r. Fixes r old mid c.args.name.now) c.from_residual.result c.in_err-size.field-0.0 c.from_residual.ensures
    (fix_refused old mid c.args.name.now c.in_err-size.ensures.quiet c.in_err-size.field-0.0 (c.in_err-size.ensures.test tells))

pub returns-in_err-write_first-clause-fixes : goal.returns-in_err-write_first-clause-fixes
returns-in_err-write_first-clause-fixes g c tells =
    let old = g.H.Host.world c.args.host.now in
    let mid = g.H.Host.world c.read_copy.new.host in
    let new = g.H.Host.world c.write_first.new.host in
    let name = c.args.name.now in
    let read = c.in_ok-size.ensures in
    let copy = copy_there old.files name (read.test tells) in
    let page = read.page tells copy.0 copy.1.there in
    let write = c.in_err-write_first.ensures in
    passed (Unit {0}) (λ r. Fixes r old new name) c.from_residual-in_err-write_first.result Device c.from_residual-in_err-write_first.ensures
    (fix_fails old mid new name copy.0 c.put.new.page read.quiet copy.1 (c.put.ensures.written ∙ ap normal_page (page.1 ∙ ap (λ (n : ℕ). take n copy.0) page.0)) (g.met.H.Host.reads_left c.args.host.now tells name) (write.left tells) (write.now tells) write.gave)

pub returns-clause-fixes : goal.returns-clause-fixes
returns-clause-fixes g c tells =
    let old = g.H.Host.world c.args.host.now in
    let mid = g.H.Host.world c.read_copy.new.host in
    let new = g.H.Host.world c.write_first.new.host in
    let name = c.args.name.now in
    let read = c.in_ok-size.ensures in
    let copy = copy_there old.files name (read.test tells) in
    let page = read.page tells copy.0 copy.1.there in
    let write = c.in_ok-write_first.ensures in
    fix_done old mid new name copy.0 c.put.new.page read.quiet copy.1 (c.put.ensures.written ∙ ap normal_page (page.1 ∙ ap (λ (n : ℕ). take n copy.0) page.0)) (write.done tells) (g.met.H.Host.reads_left c.args.host.now tells name) (write.left tells) (write.now tells) write.gave
