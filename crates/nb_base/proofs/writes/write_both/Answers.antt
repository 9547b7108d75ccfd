use Rattle.std.proofs.Common.{inl, [], ◌∷◌, arith}
use Rattle.nb_base.proofs.Common.{on_ok_weaker, strokes_composed, page, after_stroke, StandsFirm, OfFiles}
use Rattle.nb_base.proofs.OutcomeLaws.{write_later}
use Rattle.nb_base.proofs.MergedLaws.{both_after}
use Rattle.nb_base.proofs.TouchLaws.{delta_of, touched_joined, touched_more}
use Rattle.nb_base.proofs.WriteLaws.{not_done, merges_later, entry_later}
use Rattle.nb_base.proofs.StaysLaws.{delta_keeps, keeps_joined}
use Rattle.nb_base.proofs.writes.write_both.Goals as goal

pub returns-in_err-write_slot-clause-takes : goal.returns-in_err-write_slot-clause-takes
returns-in_err-write_slot-clause-takes g c t k tells seen is merges at named slot must =
    record {
      left = (c.write_slot.ensures.takes t c.args.name.now c.args.number k tells seen is (omega (arith, merges)) at named slot must).left;
      done = not_done c.from_residual.result _ c.from_residual.ensures.0;
    }

pub returns-clause-takes : goal.returns-clause-takes
returns-clause-takes g c t k tells seen is merges at named slot must =
    let first = c.write_slot.ensures.takes t c.args.name.now c.args.number k tells seen is (omega (arith, merges)) at named slot must in
    let done = (c.in_ok-write_slot.ensures.takes t c.args.name.now c.args.number k tells seen is (omega (arith, merges)) at named slot must).done in
    let second = c.write_hidden.ensures.takes (after_stroke (page c.args.number c.args.page.now) t) k tells done (write_later c.args.name.now t c.args.number c.args.page.now is)
    (merges_later t c.args.number c.args.page.now is merges) (entry_later t c.args.number c.args.page.now merges k at) in
    record {
      left = strokes_composed after_stroke (StandsFirm c.args.name.now) (OfFiles c.args.name.now) (g.H.Host.world c.args.host.now) (g.H.Host.world c.write_slot.new.host) (g.H.Host.world c.write_hidden.new.host) t (page c.args.number c.args.page.now ∷ []) [] first.left second.left;
      done = second.done;
    }

pub returns-clause-merged : goal.returns-clause-merged
returns-clause-merged g c t held n k tells seen is merges entries named sized beside at slot merged =
    on_ok_weaker c.write_hidden.result
    (λ put. both_after (g.H.Host.world c.args.host.now) held t c.args.number c.args.page.now is seen merges entries c.args.name.now c.args.delta.now.name c.args.delta.now.page_size named sized beside c.requires.size c.requires.page
    (g.H.Host.world c.write_slot.new.host) (g.H.Host.world c.write_hidden.new.host) k at (c.write_slot.ensures.touches tells k slot).others_read (c.in_ok-write_slot.ensures.put tells k slot) put n merged)
    (c.write_hidden.ensures.put tells)

pub returns-in_err-write_slot-clause-touches : goal.returns-in_err-write_slot-clause-touches
returns-in_err-write_slot-clause-touches g c tells k named slot = delta_of _ _ c.args.name.now _ named (c.write_slot.ensures.touches tells k slot)

pub returns-clause-touches : goal.returns-clause-touches
returns-clause-touches g c tells k named slot =
    touched_joined _ _ _ _ (delta_of _ _ c.args.name.now _ named (c.write_slot.ensures.touches tells k slot)) (touched_more _ _ _ _ (c.write_hidden.ensures.touches tells) (λ m one. inl one))

pub returns-in_err-write_slot-clause-within : goal.returns-in_err-write_slot-clause-within
returns-in_err-write_slot-clause-within g c most k tells named slot low = delta_keeps _ _ c.args.name.now _ _ _ named (c.write_slot.ensures.touches tells k slot)

pub returns-clause-within : goal.returns-clause-within
returns-clause-within g c most k tells named slot low =
    keeps_joined _ _ _ c.args.name.now _ (delta_keeps _ _ c.args.name.now _ _ _ named (c.write_slot.ensures.touches tells k slot)) (c.write_hidden.ensures.within most tells low)
