use Rattle.std.proofs.Common.{List, ℕ, sym, subst, ap}
use Rattle.nb_owner.proofs.Common.{Only, Changes, composed, delta_name, StandsIn, NoneWaits, Pages, on_ok}
use Rattle.nb_owner.proofs.SlotLaws.{start_slots}
use Rattle.nb_owner.proofs.pair.Pair.flush_delta.Goals as goal

pub returns-in_err-flush_slots-clause-left : goal.returns-in_err-flush_slots-clause-left
returns-in_err-flush_slots-clause-left g c t tells is =
    let waiting = is.waits.each c.requires.some.0 c.requires.some.1 c.requires.some.2 in
    let start = start_slots (g.H.Host.world c.args.host.now) c.args.self.now t is c.requires.stalled waiting.unsettled in
    c.flush_slots.ensures.left is.sees t tells start

pub returns-clause-left : goal.returns-clause-left
returns-clause-left g c t tells is =
    let old = g.H.Host.world c.args.host.now in
    let mid = g.H.Host.world c.flush_slots.new.host in
    let new = g.H.Host.world c.enter.new.host in
    let name = c.args.self.now.files.name in
    let waiting = is.waits.each c.requires.some.0 c.requires.some.1 c.requires.some.2 in
    let start = start_slots old c.args.self.now t is c.requires.stalled waiting.unsettled in
    let out = c.in_ok-flush_slots.ensures.out is.sees t tells start in
    composed old mid new (Only (delta_name name)) (StandsIn name t) (StandsIn name t) (StandsIn name t) (c.flush_slots.ensures.left is.sees t tells start)
    (subst (λ (n : List ℕ). Changes mid new (Only (delta_name n)) (StandsIn n t)) (ap (λ f. f.name) c.flush_slots.ensures.files) (c.enter.ensures.left is.sees t tells out)) (λ files so. so) (λ files so. so)

pub returns-clause-out : goal.returns-clause-out
returns-clause-out g c t tells is =
    let old = g.H.Host.world c.args.host.now in
    let waiting = is.waits.each c.requires.some.0 c.requires.some.1 c.requires.some.2 in
    let start = start_slots old c.args.self.now t is c.requires.stalled waiting.unsettled in
    let out = c.in_ok-flush_slots.ensures.out is.sees t tells start in
    c.enter.ensures.out is.sees t tells out

pub returns-clause-none : goal.returns-clause-none
returns-clause-none g c = on_ok c.enter.result (subst (λ (ps : Pages). NoneWaits ps) (sym c.enter.ensures.pages) c.in_ok-flush_slots.ensures.none)
