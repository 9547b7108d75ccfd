use Rattle.std.proofs.Common.{◌≡◌, ◌*◌, ℕ, List, [], ◌∷◌, length, refl, sym, ap, subst, ◌∙◌, arith}
use Rattle.nb_base.proofs.Common.{World, IsDurable, ends, Held, IsOpen, StrikesFirm}
use Rattle.nb_base.proofs.StrokeLaws.{h0, waits, not_struck}
use Rattle.nb_base.proofs.EndLaws.{size, end_image, end_room, end_struck, end_open}
use Rattle.nb_base.proofs.WriteLaws.{not_done}
use Rattle.nb_base.specs.Stays.{KeepsFile, EndsWithin, HasAfterFirst}
use Rattle.nb_base.proofs.StaysLaws.{still_keeps, keeps_joined, keeps_sized}
use Rattle.nb_base.proofs.files.TwoFiles.end.Goals as goal

pub returns-in_err-sync-clause-takes : goal.returns-in_err-sync-clause-takes
returns-in_err-sync-clause-takes g c t tells given =
    let old : World = g.H.Host.world c.args.host.now in
    let is = subst (λ (h : Held). IsOpen old h t) (sym c.self.view_is) given in
    let sync = c.in_err-sync.ensures in
    let synced = waits old _ _ t is (g.met.H.Host.timely _) sync.files.still sync.log.said sync.time in
    let left = subst (λ (h : Held). StrikesFirm old (g.H.Host.world c.sync.new.self) h.name t (ends ∷ [])) c.self.view_is (not_struck old _ _ t ends synced) in
    record { left = left; done = not_done c.from_residual.result _ c.from_residual.ensures.0 }

pub returns-in_err-control_block-clause-takes : goal.returns-in_err-control_block-clause-takes
returns-in_err-control_block-clause-takes g c t tells given =
    let old : World = g.H.Host.world c.args.host.now in
    let is = subst (λ (h : Held). IsOpen old h t) (sym c.self.view_is) given in
    let reads = g.met.H.Host.reads_left c.args.host.now tells in
    let stalled = ap (λ (h : Held). h.state) c.self.view_is ∙ c.requires.stalled in
    let sync = c.in_ok-sync.ensures in
    let synced = waits old _ _ t is (g.met.H.Host.timely _) sync.files.still sync.log.said sync.time in
    let durable = subst (λ (n : List ℕ). IsDurable (g.H.Host.world c.sync.new.self) n (old.files n)) c.delta.ensures (sync.files.durable tells) in
    let image = end_image old _ t is reads stalled _ sync.files.still in
    let long : c.self.inside.delta.page_size ≡ length c.deref_mut.result.now = omega (arith, c.deref_mut.ensures.len, c.self.invariant.3) in
    let block = c.control_block.ensures.left (h0 old _ t is).main tells image (sym (size old _ t is reads) ∙ long) (end_room old _ t is reads stalled) in
    let left = subst (λ (h : Held). StrikesFirm old (g.H.Host.world c.control_block.new.host) h.name t (ends ∷ [])) c.self.view_is (end_struck old _ t is reads stalled _ _ synced durable block) in
    record { left = left; done = not_done c.from_residual-in_err-control_block.result _ c.from_residual-in_err-control_block.ensures.0 }

pub returns-clause-takes : goal.returns-clause-takes
returns-clause-takes g c t tells given =
    let old : World = g.H.Host.world c.args.host.now in
    let is = subst (λ (h : Held). IsOpen old h t) (sym c.self.view_is) given in
    let reads = g.met.H.Host.reads_left c.args.host.now tells in
    let stalled = ap (λ (h : Held). h.state) c.self.view_is ∙ c.requires.stalled in
    let sync = c.in_ok-sync.ensures in
    let synced = waits old _ _ t is (g.met.H.Host.timely _) sync.files.still sync.log.said sync.time in
    let durable = subst (λ (n : List ℕ). IsDurable (g.H.Host.world c.sync.new.self) n (old.files n)) c.delta.ensures (sync.files.durable tells) in
    let image = end_image old _ t is reads stalled _ sync.files.still in
    let long : c.self.inside.delta.page_size ≡ length c.deref_mut.result.now = omega (arith, c.deref_mut.ensures.len, c.self.invariant.3) in
    let block = c.control_block.ensures.left (h0 old _ t is).main tells image (sym (size old _ t is reads) ∙ long) (end_room old _ t is reads stalled) in
    let left = subst (λ (h : Held). StrikesFirm old (g.H.Host.world c.control_block.new.host) h.name t (ends ∷ [])) c.self.view_is (end_struck old _ t is reads stalled _ _ synced durable block) in
    let done = c.in_ok-control_block.ensures.done (h0 old _ t is).main tells image (sym (size old _ t is reads) ∙ long) (end_room old _ t is reads stalled) in
    record {
      left = left;
      done = end_open old _ t is reads stalled _ _ synced durable block done (g.met.H.Host.reads_left c.sync.new.self tells) _ refl refl refl refl refl refl is.drafted;
    }

pub returns-in_err-sync-clause-within : goal.returns-in_err-sync-clause-within
returns-in_err-sync-clause-within g c most tells some =
    subst (λ (h : Held). KeepsFile (g.H.Host.world c.args.host.now) (g.H.Host.world c.sync.new.self) h.name (EndsWithin (most * h.page_size))) c.self.view_is
    (still_keeps _ _ c.self.inside.name _ (g.met.H.Host.timely _) c.sync.ensures.time c.sync.ensures.files.still)

pub returns-in_err-control_block-clause-within : goal.returns-in_err-control_block-clause-within
returns-in_err-control_block-clause-within g c most tells some =
    let long : c.self.inside.delta.page_size ≡ length c.deref_mut.result.now = omega (arith, c.deref_mut.ensures.len, c.self.invariant.3) in
    subst (λ (h : Held). KeepsFile (g.H.Host.world c.args.host.now) (g.H.Host.world c.control_block.new.host) h.name (EndsWithin (most * h.page_size))) c.self.view_is
    (keeps_joined _ _ _ c.self.inside.name _ (still_keeps _ _ c.self.inside.name _ (g.met.H.Host.timely _) c.sync.ensures.time c.sync.ensures.files.still)
    (keeps_sized _ _ c.self.inside.name most _ _ (sym long) (c.control_block.ensures.within most tells some)))

pub returns-clause-within : goal.returns-clause-within
returns-clause-within g c most tells some =
    let long : c.self.inside.delta.page_size ≡ length c.deref_mut.result.now = omega (arith, c.deref_mut.ensures.len, c.self.invariant.3) in
    subst (λ (h : Held). KeepsFile (g.H.Host.world c.args.host.now) (g.H.Host.world c.control_block.new.host) h.name (EndsWithin (most * h.page_size))) c.self.view_is
    (keeps_joined _ _ _ c.self.inside.name _ (still_keeps _ _ c.self.inside.name _ (g.met.H.Host.timely _) c.sync.ensures.time c.sync.ensures.files.still)
    (keeps_sized _ _ c.self.inside.name most _ _ (sym long) (c.control_block.ensures.within most tells some)))

pub returns-in_err-sync-clause-rest : goal.returns-in_err-sync-clause-rest
returns-in_err-sync-clause-rest g c bytes tells =
    subst (λ (h : Held). KeepsFile (g.H.Host.world c.args.host.now) (g.H.Host.world c.sync.new.self) h.name (HasAfterFirst h.page_size bytes)) c.self.view_is
    (still_keeps _ _ c.self.inside.name _ (g.met.H.Host.timely _) c.sync.ensures.time c.sync.ensures.files.still)

pub returns-in_err-control_block-clause-rest : goal.returns-in_err-control_block-clause-rest
returns-in_err-control_block-clause-rest g c bytes tells =
    let long : c.self.inside.delta.page_size ≡ length c.deref_mut.result.now = omega (arith, c.deref_mut.ensures.len, c.self.invariant.3) in
    subst (λ (h : Held). KeepsFile (g.H.Host.world c.args.host.now) (g.H.Host.world c.control_block.new.host) h.name (HasAfterFirst h.page_size bytes)) c.self.view_is
    (keeps_joined _ _ _ c.self.inside.name _ (still_keeps _ _ c.self.inside.name _ (g.met.H.Host.timely _) c.sync.ensures.time c.sync.ensures.files.still)
    (subst (λ n. KeepsFile (g.H.Host.world c.sync.new.self) (g.H.Host.world c.control_block.new.host) c.self.inside.name (HasAfterFirst n bytes)) (sym long) (c.control_block.ensures.rest bytes tells)))

pub returns-clause-rest : goal.returns-clause-rest
returns-clause-rest g c bytes tells =
    let long : c.self.inside.delta.page_size ≡ length c.deref_mut.result.now = omega (arith, c.deref_mut.ensures.len, c.self.invariant.3) in
    subst (λ (h : Held). KeepsFile (g.H.Host.world c.args.host.now) (g.H.Host.world c.control_block.new.host) h.name (HasAfterFirst h.page_size bytes)) c.self.view_is
    (keeps_joined _ _ _ c.self.inside.name _ (still_keeps _ _ c.self.inside.name _ (g.met.H.Host.timely _) c.sync.ensures.time c.sync.ensures.files.still)
    (subst (λ n. KeepsFile (g.H.Host.world c.sync.new.self) (g.H.Host.world c.control_block.new.host) c.self.inside.name (HasAfterFirst n bytes)) (sym long) (c.control_block.ensures.rest bytes tells)))
