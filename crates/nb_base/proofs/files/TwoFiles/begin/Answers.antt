use Rattle.std.proofs.Common.{◌≡◌, ◌*◌, ℕ, List, [], ◌∷◌, length, refl, sym, ap, subst, ◌∙◌, arith}
use Rattle.nb_base.proofs.Common.{World, IsDurable, Changes, Only, Remade, Known, HasTable, begin, Held, IsOpen, StrikesFirm}
use Rattle.nb_delta.specs.Slots.{IsBlank}
use Rattle.nb_base.proofs.StrokeLaws.{h0, not_struck, begin_ready, begin_room, begin_size, begin_struck, begin_open}
use Rattle.nb_base.proofs.WriteLaws.{not_done}
use Rattle.nb_base.specs.Stays.{KeepsFile, EndsWithin}
use Rattle.nb_base.proofs.StaysLaws.{still_keeps, keeps_joined, keeps_sized, delta_keeps}
use Rattle.nb_base.proofs.files.TwoFiles.begin.Goals as goal

pub returns-in_err-make-clause-takes : goal.returns-in_err-make-clause-takes
returns-in_err-make-clause-takes g c t ask tells given low =
    let old : World = g.H.Host.world c.args.host.now in
    let is = subst (λ (h : Held). IsOpen old h t) (sym c.self.view_is) given in
    let normal = ap (λ (h : Held). h.state) c.self.view_is ∙ c.requires.normal in
    let sync = c.in_ok-sync.ensures in
    let made = subst (λ (n : List ℕ). Changes (g.H.Host.world c.sync.new.self) (g.H.Host.world c.make.new.host) (Only n) (Remade (g.H.Host.world c.sync.new.self) n (IsBlank c.self.inside.delta.page_size))) c.self.invariant.5 (c.make.ensures.changes tells) in
    let ready = begin_ready old _ t is c.args.guid.now ask c.told-guid normal _ _ (g.met.H.Host.timely _) sync.files.still sync.log.said sync.time (sync.files.durable tells) (IsBlank c.self.inside.delta.page_size) made in
    record {
      left = subst (λ (h : Held). StrikesFirm old (g.H.Host.world c.make.new.host) h.name t (begin c.args.guid.now ask ∷ [])) c.self.view_is (not_struck old _ _ t (begin c.args.guid.now ask) ready.so_far);
      done = not_done c.from_residual-in_err-make.result _ c.from_residual-in_err-make.ensures.0;
    }

pub returns-in_err-control_block-clause-takes : goal.returns-in_err-control_block-clause-takes
returns-in_err-control_block-clause-takes g c t ask tells given low =
    let old : World = g.H.Host.world c.args.host.now in
    let is = subst (λ (h : Held). IsOpen old h t) (sym c.self.view_is) given in
    let normal = ap (λ (h : Held). h.state) c.self.view_is ∙ c.requires.normal in
    let sync = c.in_ok-sync.ensures in
    let made = subst (λ (n : List ℕ). Changes (g.H.Host.world c.sync.new.self) (g.H.Host.world c.make.new.host) (Only n) (Remade (g.H.Host.world c.sync.new.self) n (IsBlank c.self.inside.delta.page_size))) c.self.invariant.5 (c.make.ensures.changes tells) in
    let ready = begin_ready old _ t is c.args.guid.now ask c.told-guid normal _ _ (g.met.H.Host.timely _) sync.files.still sync.log.said sync.time (sync.files.durable tells) (IsBlank c.self.inside.delta.page_size) made in
    let empty = subst (λ (n : List ℕ). HasTable c.self.inside.delta.page_size ((g.H.Host.world c.make.new.host).files n) []) c.self.invariant.5 (c.in_ok-make.ensures.table tells) in
    let durable = subst (λ (n : List ℕ). IsDurable (g.H.Host.world c.make.new.host) n ((g.H.Host.world c.make.new.host).files n)) c.self.invariant.5 (c.in_ok-make.ensures.durable tells) in
    let long : c.self.inside.delta.page_size ≡ length c.deref_mut.result.now = omega (arith, c.deref_mut.ensures.len, c.self.invariant.3) in
    let block = c.control_block.ensures.left (h0 old _ t is).main tells ready.image (sym (begin_size old _ t is c.args.guid.now ask c.told-guid normal) ∙ long) (begin_room old _ t is c.args.guid.now ask c.told-guid normal low) in
    record {
      left = subst (λ (h : Held). StrikesFirm old (g.H.Host.world c.control_block.new.host) h.name t (begin c.args.guid.now ask ∷ [])) c.self.view_is (begin_struck old _ t is c.args.guid.now ask c.told-guid normal _ _ ready.so_far empty durable block);
      done = not_done c.from_residual-in_err-control_block.result _ c.from_residual-in_err-control_block.ensures.0;
    }

pub returns-clause-takes : goal.returns-clause-takes
returns-clause-takes g c t ask tells given low =
    let old : World = g.H.Host.world c.args.host.now in
    let is = subst (λ (h : Held). IsOpen old h t) (sym c.self.view_is) given in
    let normal = ap (λ (h : Held). h.state) c.self.view_is ∙ c.requires.normal in
    let sync = c.in_ok-sync.ensures in
    let made = subst (λ (n : List ℕ). Changes (g.H.Host.world c.sync.new.self) (g.H.Host.world c.make.new.host) (Only n) (Remade (g.H.Host.world c.sync.new.self) n (IsBlank c.self.inside.delta.page_size))) c.self.invariant.5 (c.make.ensures.changes tells) in
    let ready = begin_ready old _ t is c.args.guid.now ask c.told-guid normal _ _ (g.met.H.Host.timely _) sync.files.still sync.log.said sync.time (sync.files.durable tells) (IsBlank c.self.inside.delta.page_size) made in
    let empty = subst (λ (n : List ℕ). HasTable c.self.inside.delta.page_size ((g.H.Host.world c.make.new.host).files n) []) c.self.invariant.5 (c.in_ok-make.ensures.table tells) in
    let durable = subst (λ (n : List ℕ). IsDurable (g.H.Host.world c.make.new.host) n ((g.H.Host.world c.make.new.host).files n)) c.self.invariant.5 (c.in_ok-make.ensures.durable tells) in
    let long : c.self.inside.delta.page_size ≡ length c.deref_mut.result.now = omega (arith, c.deref_mut.ensures.len, c.self.invariant.3) in
    let block = c.control_block.ensures.left (h0 old _ t is).main tells ready.image (sym (begin_size old _ t is c.args.guid.now ask c.told-guid normal) ∙ long) (begin_room old _ t is c.args.guid.now ask c.told-guid normal low) in
    let done = c.in_ok-control_block.ensures.done (h0 old _ t is).main tells ready.image (sym (begin_size old _ t is c.args.guid.now ask c.told-guid normal) ∙ long) (begin_room old _ t is c.args.guid.now ask c.told-guid normal low) in
    record {
      left = subst (λ (h : Held). StrikesFirm old (g.H.Host.world c.control_block.new.host) h.name t (begin c.args.guid.now ask ∷ [])) c.self.view_is (begin_struck old _ t is c.args.guid.now ask c.told-guid normal _ _ ready.so_far empty durable block);
      done = begin_open old _ t is c.args.guid.now ask c.told-guid normal _ _ ready.so_far empty durable block done (g.met.H.Host.reads_left c.make.new.host tells) _ refl (ap (λ (d : Known). d.page_size) c.make.ensures.known) refl refl refl refl
          (ap (λ (d : Known). d.entries) c.make.ensures.known) (ap (λ (d : Known). d.drafted) c.make.ensures.known);
    }

pub returns-in_err-sync-clause-within : goal.returns-in_err-sync-clause-within
returns-in_err-sync-clause-within g c most tells some =
    subst (λ (h : Held). KeepsFile (g.H.Host.world c.args.host.now) (g.H.Host.world c.sync.new.self) h.name (EndsWithin (most * h.page_size))) c.self.view_is
    (still_keeps _ _ c.self.inside.name _ (g.met.H.Host.timely _) c.sync.ensures.time c.sync.ensures.files.still)

pub returns-in_err-make-clause-within : goal.returns-in_err-make-clause-within
returns-in_err-make-clause-within g c most tells some =
    subst (λ (h : Held). KeepsFile (g.H.Host.world c.args.host.now) (g.H.Host.world c.make.new.host) h.name (EndsWithin (most * h.page_size))) c.self.view_is
    (keeps_joined _ _ _ c.self.inside.name _ (still_keeps _ _ c.self.inside.name _ (g.met.H.Host.timely _) c.sync.ensures.time c.sync.ensures.files.still)
    (delta_keeps _ _ c.self.inside.name _ _ _ c.self.invariant.5 (c.make.ensures.changes tells)))

pub returns-in_err-control_block-clause-within : goal.returns-in_err-control_block-clause-within
returns-in_err-control_block-clause-within g c most tells some =
    let long : c.self.inside.delta.page_size ≡ length c.deref_mut.result.now = omega (arith, c.deref_mut.ensures.len, c.self.invariant.3) in
    subst (λ (h : Held). KeepsFile (g.H.Host.world c.args.host.now) (g.H.Host.world c.control_block.new.host) h.name (EndsWithin (most * h.page_size))) c.self.view_is
    (keeps_joined _ _ _ c.self.inside.name _ (keeps_joined _ _ _ c.self.inside.name _ (still_keeps _ _ c.self.inside.name _ (g.met.H.Host.timely _) c.sync.ensures.time c.sync.ensures.files.still)
    (delta_keeps _ _ c.self.inside.name _ _ _ c.self.invariant.5 (c.make.ensures.changes tells)))
    (keeps_sized _ _ c.self.inside.name most _ _ (sym long) (c.control_block.ensures.within most tells some)))

pub returns-clause-within : goal.returns-clause-within
returns-clause-within g c most tells some =
    let long : c.self.inside.delta.page_size ≡ length c.deref_mut.result.now = omega (arith, c.deref_mut.ensures.len, c.self.invariant.3) in
    subst (λ (h : Held). KeepsFile (g.H.Host.world c.args.host.now) (g.H.Host.world c.control_block.new.host) h.name (EndsWithin (most * h.page_size))) c.self.view_is
    (keeps_joined _ _ _ c.self.inside.name _ (keeps_joined _ _ _ c.self.inside.name _ (still_keeps _ _ c.self.inside.name _ (g.met.H.Host.timely _) c.sync.ensures.time c.sync.ensures.files.still)
    (delta_keeps _ _ c.self.inside.name _ _ _ c.self.invariant.5 (c.make.ensures.changes tells)))
    (keeps_sized _ _ c.self.inside.name most _ _ (sym long) (c.control_block.ensures.within most tells some)))

pub returns-clause-durable : goal.returns-clause-durable
returns-clause-durable g c tells = subst (λ (h : Held). IsDurable (g.H.Host.world c.control_block.new.host) h.name ((g.H.Host.world c.control_block.new.host).files h.name)) c.self.view_is (c.in_ok-control_block.ensures.durable tells)
