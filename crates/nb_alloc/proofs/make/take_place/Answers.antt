use Rattle.std.proofs.Common.{◌≤◌, ℕ, length, arith, None, Ok}
use Rattle.nb_alloc.proofs.Common.{Draft, drafted, system_page, after_strokes, system_cause, system_strokes, on_ok}
use Rattle.nb_alloc.proofs.DoesLaws.{tries_opened}
use Rattle.nb_alloc.proofs.MakeLaws.{tries_named}
use Rattle.nb_alloc.proofs.ReadyLaws.{system_clear, system_drafted, system_marks}
use Rattle.nb_alloc.proofs.NewLaws.{take_not, take_after, system_of}
use Rattle.nb_alloc.proofs.make.take_place.Goals as goal

pub returns-in_err-make_system-clause-makes : goal.returns-in_err-make_system-clause-makes
returns-in_err-make_system-clause-makes g c t tells is supplied system =
    let image = t.base.image in
    let p : ℕ = c.args.place in
    let low : p ≤ length image = omega (arith, c.requires.inside, is.files.agrees.count) in
    let e : Draft = system_page p (drafted image) in
    take_not t p e (system_of t.base p) (Unit {0}) c.from_residual.result c.in_err-make_system.field-0.0 _ _ _ _ c.from_residual.ensures
    (tries_named _ _ _ _ _ t (system_cause image p) None (system_strokes image p) e.strokes (system_clear t.base p supplied.shaped supplied.ready c.requires.low low system)
    (system_drafted t.base p supplied.shaped supplied.ready c.requires.low low system) (c.in_err-make_system.ensures.tries t tells is))

pub returns-clause-makes : goal.returns-clause-makes
returns-clause-makes g c t tells is supplied system =
    let image = t.base.image in
    let p : ℕ = c.args.place in
    let low : p ≤ length image = omega (arith, c.requires.inside, is.files.agrees.count) in
    let e : Draft = system_page p (drafted image) in
    let old = g.H.Host.world c.args.host.now in
    let mid = g.H.Host.world c.make_system.new.host in
    let first = tries_named {T = Unit {0}} (Ok tt) old mid c.args.store.now c.make_system.new.store t (system_cause image p) None (system_strokes image p) e.strokes
    (system_clear t.base p supplied.shaped supplied.ready c.requires.low low system) (system_drafted t.base p supplied.shaped supplied.ready c.requires.low low system) (c.in_ok-make_system.ensures.tries t tells is) in
    let opened = tries_opened {T = Unit {0}} tt old mid c.args.store.now c.make_system.new.store t None e.strokes first in
    take_after t p e (system_of t.base p) c.mark.result old mid (g.H.Host.world c.mark.new.host) c.args.store.now c.make_system.new.store c.mark.new.store
    (system_marks t.base p supplied.shaped supplied.ready c.requires.low low system) first (c.mark.ensures.tries (after_strokes t e.strokes) tells opened)

pub returns-clause-added : goal.returns-clause-added
returns-clause-added g c = on_ok c.mark.result (omega (arith, c.in_ok-make_system.ensures.added, c.mark.ensures.goes.longer))
