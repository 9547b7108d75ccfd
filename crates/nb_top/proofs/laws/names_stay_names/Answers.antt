use Rattle.nb_top.proofs.Common.{request_asked, OfAsked}
use Rattle.nb_top.proofs.NamesStay.{asked_named, names_at, names_from, names_then}
use Rattle.nb_top.proofs.AllStay.{others_stay}
use Rattle.nb_top.proofs.laws.names_stay_names.Goals as goal

pub returns-clause-moments : goal.returns-clause-moments
returns-clause-moments g c = λ status words told run before.
    let old = g.H.Host.world c.args._before.now in
    let touches = others_stay g.H.Host.world g.H.Host.tells told g.met.H.Host.timely (λ host. g.met.H.Host.reads_left host told) status c.args._before.now c.args._behind.now words run in
    names_at status old (g.H.Host.world c.args._behind.now) (OfAsked old.files (request_asked old.files words)) (asked_named old.files words) touches before

pub returns-clause-behind : goal.returns-clause-behind
returns-clause-behind g c = λ status words told run before.
    let old = g.H.Host.world c.args._before.now in
    let touches = others_stay g.H.Host.world g.H.Host.tells told g.met.H.Host.timely (λ host. g.met.H.Host.reads_left host told) status c.args._before.now c.args._behind.now words run in
    names_then status old (g.H.Host.world c.args._behind.now) (OfAsked old.files (request_asked old.files words)) (asked_named old.files words) touches before

pub returns-clause-starts : goal.returns-clause-starts
returns-clause-starts g c = λ files names starts. names_from (g.H.Host.world c.args._behind.now) files names starts
