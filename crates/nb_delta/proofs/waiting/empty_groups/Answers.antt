use Rattle.std.proofs.Common.{◌≡◌, ℕ, ◌+◌, List, length, refl, ◌∙◌, subst, arith}
use Rattle.nb_delta.proofs.Common.{Stays, GroupStep, Empties, Only, moved_begun, moved_joined}
use Rattle.nb_delta.proofs.MoveLaws.{silence_none, silence_joined}
use Rattle.nb_delta.proofs.EmptyLaws.{stays_none, stays_more, empties_none, empties_more}
use Rattle.nb_delta.proofs.waiting.empty_groups.Goals as goal

pub loop-group-init : goal.loop-group-init
loop-group-init g c = record {
  emptied = λ tells. empties_none (length c.args.zeros.now) c.requires.size c.args.first _;
  changes = λ tells n low. moved_begun (g.H.Host.world c.args.host.now) (Only c.args.name.now) c.args.name.now (Stays (length c.args.zeros.now) n) (g.met.H.Host.timely c.args.host.now) (λ d was. stays_none (length c.args.zeros.now) c.requires.size n d);
  log = silence_none (g.H.Host.world c.args.host.now);
  cause = refl;
}

pub loop-group-preserved : goal.loop-group-preserved
loop-group-preserved g c =
    let zeros : List ℕ = c.args.zeros.now in
    let group : ℕ = c.loop-group.group in
    record {
      emptied = λ tells. empties_more (length zeros) c.requires.size c.args.first group zeros _ _ _ (omega arith) c.requires.zeros (c.loop-group.invariant.emptied tells) (c.in_ok-write_group.ensures.put tells);
      changes = λ tells n low.
          moved_joined (g.H.Host.world c.args.host.now) (g.H.Host.world c.loop-group.host) (g.H.Host.world c.write_group.new.host) c.args.name.now (Stays (length zeros) n) (GroupStep (length zeros) (group + 1) zeros) (Stays (length zeros) n)
          (c.loop-group.invariant.changes tells n low) (c.write_group.ensures.changes tells) (λ b d was stays. stays)
          (λ b d x was still stays step. stays_more (length zeros) c.requires.size n c.args.first group zeros b d x (omega arith) low stays step);
      log = silence_joined _ _ _ c.loop-group.invariant.log c.write_group.ensures.log;
      cause = c.in_ok-write_group.ensures.cause ∙ c.loop-group.invariant.cause;
    }

pub returns-in_err-write_group-clause-changes : goal.returns-in_err-write_group-clause-changes
returns-in_err-write_group-clause-changes g c tells n low =
    let zeros : List ℕ = c.args.zeros.now in
    let group : ℕ = c.loop-group.group in
    moved_joined (g.H.Host.world c.args.host.now) (g.H.Host.world c.loop-group.host) (g.H.Host.world c.write_group.new.host) c.args.name.now (Stays (length zeros) n) (GroupStep (length zeros) (group + 1) zeros) (Stays (length zeros) n)
    (c.loop-group.invariant.changes tells n low) (c.write_group.ensures.changes tells) (λ b d was stays. stays)
    (λ b d x was still stays step. stays_more (length zeros) c.requires.size n c.args.first group zeros b d x (omega arith) low stays step)

pub returns-in_err-write_group-clause-log : goal.returns-in_err-write_group-clause-log
returns-in_err-write_group-clause-log g c = silence_joined _ _ _ c.loop-group.invariant.log c.write_group.ensures.log

pub returns-clause-emptied : goal.returns-clause-emptied
returns-clause-emptied g c tells =
    let all : c.loop-group.group ≡ c.args.last = omega arith in
    subst (λ (n : ℕ). Empties (length c.args.zeros.now) c.args.first n ((g.H.Host.world c.args.host.now).files c.args.name.now) ((g.H.Host.world c.loop-group.host).files c.args.name.now)) all (c.loop-group.invariant.emptied tells)
