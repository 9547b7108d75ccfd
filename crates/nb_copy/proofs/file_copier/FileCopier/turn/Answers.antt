use Rattle.std.proofs.Common.{refl, sym, subst, ◌≡◌, ℕ, List, ◌∙◌, Result, Err}
use Rattle.nb_copy.proofs.Common.{HostFault, Changes, Only, Remade, passed_on, joined, Copying, IsCopying, CopiesFile, IsFreeOr, CopyTurn, OfFiles, name_of, Progress}
use Rattle.nb_copy.proofs.FileCopyLaws.{copies_file, made_free, made_then}
use Rattle.nb_copy.proofs.AsideLaws.{open_aside}
use Rattle.nb_copy.proofs.file_copier.FileCopier.turn.Goals as goal

pub returns-in_err-make_first-clause-turn : goal.returns-in_err-make_first-clause-turn
returns-in_err-make_first-clause-turn g c t tells is stalled goes apart =
    let old = g.H.Host.world c.args.host.now in
    let mid = g.H.Host.world c.make_first.new.host in
    let copy : Copying = c.args.self.now in
    let made = c.in_err-make_first.ensures in
    let fault : HostFault = c.in_err-make_first.field-0.0 in
    subst (λ (r : Result Progress HostFault). CopiesFile r old mid c.args.engine.now c.args.engine.now copy copy t) (sym (passed_on c.from_residual.result fault c.from_residual.ensures))
    (copies_file (Err fault) old mid c.args.engine.now c.args.engine.now copy copy t is stalled apart (g.met.H.Host.reads_left c.args.host.now tells copy.name) refl
    (made_free copy.name (joined t.base.frozen) old mid (made.left tells)) (record { guids = made.log.guids; times = made.log.times }) tt)

pub returns-clause-turn : goal.returns-clause-turn
returns-clause-turn g c t tells is stalled goes apart =
    let old = g.H.Host.world c.args.host.now in
    let mid = g.H.Host.world c.make_first.new.host in
    let new = g.H.Host.world c.turn.new.host in
    let copy : Copying = c.args.self.now in
    let made = c.in_ok-make_first.ensures in
    let gave = c.turn.ensures.gave in
    let reads = λ (m : List ℕ). g.met.H.Host.reads_left c.args.host.now tells m in
    let other = λ (m : List ℕ) (same : m ≡ copy.name) (own : OfFiles (name_of c.args.engine.now) m). apart (subst (OfFiles (name_of c.args.engine.now)) same own) in
    let here = open_aside old mid c.args.engine.now t is reads (Only copy.name) other _ (made.left tells) in
    let inner = subst (λ (v : Copying). IsCopying mid v t.base.frozen) (sym c.self.view_is) (made.made t.base.frozen tells goes) in
    let turn = subst (λ (v : Copying). Changes mid new (Only v.name) (Remade mid v.name (IsFreeOr (joined t.base.frozen)))) c.self.view_is (c.turn.ensures.left t tells here stalled inner) in
    copies_file c.turn.result old new c.args.engine.now c.turn.new.engine copy c.turn.new.self t is stalled apart (reads copy.name) c.turn.ensures.engine
    (made_then copy.name (joined t.base.frozen) old mid new (g.met.H.Host.reads_left c.make_first.new.host tells copy.name) (made.left tells) turn)
    (record { guids = gave.guids ∙ made.log.guids; times = gave.times ∙ made.log.times })
    (subst (λ (v : Copying). CopyTurn c.turn.result new v c.turn.new.self t.base.frozen) c.self.view_is (c.turn.ensures.answer t tells here stalled inner))
