-- Work over any host keeps whose count of faults it is, and so the shadow's host and pairs.
use Rattle.std.proofs.Common.{List, ℕ, subst, OnOk}
use Rattle.nb_host.specs.Crash.{IsDurable}
use Rattle.nb_shadow.specs.Shadowed.{shadowed}
use Rattle.nb_shadow.proofs.SameLaws.{whose_same, whose_kept, synced_both}
use Rattle.nb_shadow.proofs.laws.sync_shadow.Goals as goal

pub returns-clause-same_host : goal.returns-clause-same_host
returns-clause-same_host g c =
    let s = c.args.shadow.now in
    let t = c.sync_any.new.host in
    (whose_same s.host.ghost_name t.host.ghost_name s.twin.pairs t.twin.pairs (g.H.Host.faults s.host.now) (g.H.Host.faults t.host.now) s.twin.refused t.twin.refused
    (whose_kept c.sync_any.result _ _ c.sync_any.ensures.cause)).host

pub returns-clause-whose : goal.returns-clause-whose
returns-clause-whose g c =
    let s = c.args.shadow.now in
    let t = c.sync_any.new.host in
    (whose_same s.host.ghost_name t.host.ghost_name s.twin.pairs t.twin.pairs (g.H.Host.faults s.host.now) (g.H.Host.faults t.host.now) s.twin.refused t.twin.refused
    (whose_kept c.sync_any.result _ _ c.sync_any.ensures.cause)).whose

pub returns-clause-both : goal.returns-clause-both
returns-clause-both g c told =
    let s = c.args.shadow.now in
    let t = c.sync_any.new.host in
    synced_both c.sync_any.result g.H.Host.tells told s.twin.pairs t.twin.pairs s.twin.apart (g.H.Host.world s.host.now) (g.H.Host.world t.host.now)
    (whose_same s.host.ghost_name t.host.ghost_name s.twin.pairs t.twin.pairs (g.H.Host.faults s.host.now) (g.H.Host.faults t.host.now) s.twin.refused t.twin.refused
    (whose_kept c.sync_any.result _ _ c.sync_any.ensures.cause)).pairs
    (subst (λ (n : List ℕ). OnOk c.sync_any.result (IsDurable (shadowed g.H.Host.tells t.twin.pairs (g.H.Host.world t.host.now)) n ((shadowed g.H.Host.tells s.twin.pairs (g.H.Host.world s.host.now)).files n)))
    c.copied-name.ensures (c.sync_any.ensures.durable told))
