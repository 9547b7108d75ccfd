use Rattle.std.proofs.Common.{subst}
use Rattle.nb_top.proofs.Common.{FitsDeed, Restore}
use Rattle.nb_top.proofs.NamedChains.{restored_alone, restores_kept, stand_follow, stand_hold}
use Rattle.nb_top.proofs.RequestLaws.{CanBeMet, can_be_asked}
use Rattle.nb_top.proofs.laws.a_named_chain_restores.Goals as goal

pub returns-clause-restores : goal.returns-clause-restores
returns-clause-restores g c = λ told status db names kept links words asks run follow holds accepted are free.
    let fits : FitsDeed (Restore db names) = subst CanBeMet asks (can_be_asked (g.H.Host.world c.args._before.now).files words) in
    restores_kept g.H.Host.world g.H.Host.tells told status c.args._before.now c.args._behind.now db names kept links fits run follow holds accepted are free

pub returns-clause-alone : goal.returns-clause-alone
returns-clause-alone g c = λ told status db names kept links words asks run follow holds accepted are free device memory durable alone.
    let fits : FitsDeed (Restore db names) = subst CanBeMet asks (can_be_asked (g.H.Host.world c.args._before.now).files words) in
    restored_alone g.H.Host.world g.H.Host.tells told status c.args._before.now c.args._behind.now db names kept links fits run follow holds accepted are free
    (g.met.H.Host.timely c.args._behind.now) (g.met.H.Host.reads_left c.args._behind.now told) device memory durable alone

pub returns-clause-follow : goal.returns-clause-follow
returns-clause-follow g c = λ files account stands. stand_follow files account stands

pub returns-clause-hold : goal.returns-clause-hold
returns-clause-hold g c = λ files account names stands plain. stand_hold files account names stands plain
