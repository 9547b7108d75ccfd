use Rattle.std.proofs.Common.{◌<◌, ℕ, List, sym, subst, ap}
use Rattle.nb_owner.proofs.Common.{Only, Changes, composed, delta_name, StandsIn, Held}
use Rattle.nb_owner.proofs.KeepLaws.{keeps_begun, keeps_on}
use Rattle.nb_owner.proofs.RankLaws.{waiting_count, fewer_wait}
use Rattle.nb_owner.proofs.SlotLaws.{slots_begun}
use Rattle.nb_owner.proofs.pair.Pair.flush_slots.Goals as goal

pub loop-number-init : goal.loop-number-init
loop-number-init g c = record {
  keeps = keeps_begun (g.H.Host.world c.args.host.now) c.args.self.now (g.H.Host.faults c.args.host.now);
  out = λ f t tells given. (slots_begun (g.H.Host.world c.args.host.now) c.args.self.now f t given (g.met.H.Host.timely c.args.host.now), given);
}

pub loop-number-smaller : goal.loop-number-smaller
loop-number-smaller g c =
    subst (λ (h : Held). waiting_count h.pages < waiting_count c.loop-number.self.pages) (sym c.in_ok-flush_slot.ensures.done)
    (fewer_wait c.in-Some.number c.in-Some.ensures.next.0 c.loop-number.self.pages c.in-Some.ensures.next.1)

pub loop-number-preserved : goal.loop-number-preserved
loop-number-preserved g c =
    let old = g.H.Host.world c.args.host.now in
    let mid = g.H.Host.world c.loop-number.host in
    let new = g.H.Host.world c.flush_slot.new.host in
    let loop = c.loop-number.invariant in
    let ok = c.in_ok-flush_slot.ensures in
    let name = ap (λ f. f.name) loop.keeps.files in
    record {
      keeps = keeps_on _ _ _ _ c.loop-number.self _ _ _ _ c.in-Some.number loop.keeps ok.done ok.gave ok.reads ok.cause;
      out = λ f t tells given.
          let so = loop.out f t tells given in (
            composed old mid new (Only (delta_name c.args.self.now.files.name)) (StandsIn c.args.self.now.files.name t) (StandsIn c.args.self.now.files.name t) (StandsIn c.args.self.now.files.name t) so.0
                (subst (λ (n : List ℕ). Changes mid new (Only (delta_name n)) (StandsIn n t)) name (c.flush_slot.ensures.left f t tells so.1)) (λ files is. is) (λ files is. is),
            ok.out f t tells so.1,
          );
    }

pub returns-in_err-flush_slot-clause-left : goal.returns-in_err-flush_slot-clause-left
returns-in_err-flush_slot-clause-left g c f t tells given =
    let old = g.H.Host.world c.args.host.now in
    let mid = g.H.Host.world c.loop-number.host in
    let new = g.H.Host.world c.flush_slot.new.host in
    let loop = c.loop-number.invariant in
    let so = loop.out f t tells given in
    composed old mid new (Only (delta_name c.args.self.now.files.name)) (StandsIn c.args.self.now.files.name t) (StandsIn c.args.self.now.files.name t) (StandsIn c.args.self.now.files.name t) so.0
    (subst (λ (n : List ℕ). Changes mid new (Only (delta_name n)) (StandsIn n t)) (ap (λ f. f.name) loop.keeps.files) (c.flush_slot.ensures.left f t tells so.1)) (λ files is. is) (λ files is. is)

pub returns-clause-left : goal.returns-clause-left
returns-clause-left g c f t tells given = (c.loop-number.invariant.out f t tells given).0

pub returns-clause-out : goal.returns-clause-out
returns-clause-out g c f t tells given = (c.loop-number.invariant.out f t tells given).1
