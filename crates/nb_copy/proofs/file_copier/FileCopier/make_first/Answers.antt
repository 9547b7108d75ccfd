use Rattle.std.proofs.Common.{◌≡◌, ap, subst, arith}
use Rattle.nb_copy.proofs.Common.{Copying, IsBlank, IsMade, is_made, renamed}
use Rattle.nb_copy.proofs.CopyLaws.{made, begun_made}
use Rattle.nb_copy.proofs.file_copier.FileCopier.make_first.Goals as goal

pub returns-in_err-make-clause-left : goal.returns-in_err-make-clause-left
returns-in_err-make-clause-left g c tells =
    let make = c.in_err-make.ensures in
    renamed _ _ _ _ IsBlank (ap (λ (v : Copying). v.name) c.self.view_is) (made c.self.inside.pages.name _ _ _ _ tells (g.met.H.Host.timely _) make.files make.log.said make.time)

pub returns-in_ok-make-clause-left : goal.returns-in_ok-make-clause-left
returns-in_ok-make-clause-left g c tells =
    let make = c.in_ok-make.ensures in
    renamed _ _ _ _ IsBlank (ap (λ (v : Copying). v.name) c.self.view_is) (made c.self.inside.pages.name _ _ _ _ tells (g.met.H.Host.timely _) make.files make.log.said make.time)

pub returns-in_ok-make-clause-made : goal.returns-in_ok-make-clause-made
returns-in_ok-make-clause-made g c frozen tells goes =
    let new = g.H.Host.world c.make.new.host in
    let next : c.args.self.now.next ≡ 0 = omega (arith, ap (λ (v : Copying). v.next) c.self.view_is, c.written.ensures, c.if-written-eq0.true) in
    let empty = subst (λ (v : Copying). IsMade new v.name) c.self.view_is (is_made _ _ _ _ c.self.inside.pages.name tells c.in_ok-make.ensures.files) in
    record { of = goes.of; begun = begun_made new c.args.self.now frozen next empty }
