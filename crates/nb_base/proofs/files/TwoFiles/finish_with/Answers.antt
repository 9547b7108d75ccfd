use Rattle.std.proofs.Common.{◌≡◌, ◌*◌, ℕ, List, [], ◌∷◌, length, refl, sym, ap, subst, ◌∙◌, arith, None}
use Rattle.nb_base.proofs.Common.{Files, World, Changes, Only, Remade, Known, File, finish, Held, IsOpen, AreMerged, StrikesFirm, on_ok}
use Rattle.nb_base.proofs.StrokeLaws.{h0, waits, durable_main}
use Rattle.nb_base.proofs.EndLaws.{size, finish_room, finish_struck, removed_struck, finish_open}
use Rattle.nb_base.proofs.WriteLaws.{not_done}
use Rattle.nb_base.specs.Stays.{KeepsFile, EndsWithin}
use Rattle.nb_base.proofs.StaysLaws.{still_keeps, keeps_joined, keeps_sized, delta_keeps}
use Rattle.nb_base.proofs.files.TwoFiles.finish_with.Goals as goal

pub returns-in_err-control_block-clause-takes : goal.returns-in_err-control_block-clause-takes
returns-in_err-control_block-clause-takes g c t tells given equal filled =
    let old : World = g.H.Host.world c.args.host.now in
    let is = subst (λ (h : Held). IsOpen old h t) (sym c.self.view_is) given in
    let reads = g.met.H.Host.reads_left c.args.host.now tells in
    let merges = ap (λ (h : Held). h.state) c.self.view_is ∙ c.requires.merge in
    let merged = subst (λ (h : Held). AreMerged old h (length h.entries)) (sym c.self.view_is) equal in
    let sync = c.in_ok-sync.ensures in
    let synced = waits old _ _ t is (g.met.H.Host.timely _) sync.files.still sync.log.said sync.time in
    let image = durable_main old _ t is _ (sync.files.durable tells) (ap (λ (f : Files). f c.self.inside.name) sync.files.still.files) in
    let long : c.self.inside.delta.page_size ≡ length c.deref_mut.result.now = omega (arith, c.deref_mut.ensures.len, c.self.invariant.3) in
    let block = c.control_block.ensures.left (h0 old _ t is).main tells image (sym (size old _ t is reads) ∙ long) (finish_room old _ t is reads merges merged) in
    record {
      left = subst (λ (h : Held). StrikesFirm old (g.H.Host.world c.control_block.new.host) h.name t (finish ∷ [])) c.self.view_is (finish_struck old _ t is reads merges merged _ _ synced sync.files.still block);
      done = not_done c.from_residual-in_err-control_block.result _ c.from_residual-in_err-control_block.ensures.0;
    }

pub returns-clause-takes : goal.returns-clause-takes
returns-clause-takes g c t tells given equal filled =
    let old : World = g.H.Host.world c.args.host.now in
    let is = subst (λ (h : Held). IsOpen old h t) (sym c.self.view_is) given in
    let reads = g.met.H.Host.reads_left c.args.host.now tells in
    let merges = ap (λ (h : Held). h.state) c.self.view_is ∙ c.requires.merge in
    let merged = subst (λ (h : Held). AreMerged old h (length h.entries)) (sym c.self.view_is) equal in
    let sync = c.in_ok-sync.ensures in
    let synced = waits old _ _ t is (g.met.H.Host.timely _) sync.files.still sync.log.said sync.time in
    let image = durable_main old _ t is _ (sync.files.durable tells) (ap (λ (f : Files). f c.self.inside.name) sync.files.still.files) in
    let long : c.self.inside.delta.page_size ≡ length c.deref_mut.result.now = omega (arith, c.deref_mut.ensures.len, c.self.invariant.3) in
    let block = c.control_block.ensures.left (h0 old _ t is).main tells image (sym (size old _ t is reads) ∙ long) (finish_room old _ t is reads merges merged) in
    let done = c.in_ok-control_block.ensures.done (h0 old _ t is).main tells image (sym (size old _ t is reads) ∙ long) (finish_room old _ t is reads merges merged) in
    let removed = subst (λ (n : List ℕ). Changes (g.H.Host.world c.control_block.new.host) (g.H.Host.world c.clear.new.host) (Only n) (Remade (g.H.Host.world c.control_block.new.host) n (λ file. file ≡ None))) c.self.invariant.5 (c.clear.ensures.changes tells) in
    record {
      left = subst (λ (h : Held). StrikesFirm old (g.H.Host.world c.clear.new.host) h.name t (finish ∷ [])) c.self.view_is (removed_struck old _ t is reads merges merged _ _ synced sync.files.still block _ done (λ (file : File). file ≡ None) removed);
      done = on_ok c.clear.result (finish_open old _ t is reads merges merged _ _ synced sync.files.still block _ done (λ (file : File). file ≡ None) removed _ refl (ap (λ (d : Known). d.page_size) c.clear.ensures.known) refl refl filled
          (ap (λ (d : Known). d.entries) c.clear.ensures.known) (ap (λ (d : Known). d.drafted) c.clear.ensures.known));
    }

pub returns-in_err-sync-clause-within : goal.returns-in_err-sync-clause-within
returns-in_err-sync-clause-within g c most tells some =
    subst (λ (h : Held). KeepsFile (g.H.Host.world c.args.host.now) (g.H.Host.world c.sync.new.self) h.name (EndsWithin (most * h.page_size))) c.self.view_is
    (still_keeps _ _ c.self.inside.name _ (g.met.H.Host.timely _) c.sync.ensures.time c.sync.ensures.files.still)

pub returns-in_err-control_block-clause-within : goal.returns-in_err-control_block-clause-within
returns-in_err-control_block-clause-within g c most tells some =
    let long : c.self.inside.delta.page_size ≡ length c.deref_mut.result.now = omega (arith, c.deref_mut.ensures.len, c.self.invariant.3) in
    subst (λ (h : Held). KeepsFile (g.H.Host.world c.args.host.now) (g.H.Host.world c.control_block.new.host) h.name (EndsWithin (most * h.page_size))) c.self.view_is
    (keeps_joined _ _ _ c.self.inside.name _ (still_keeps _ _ c.self.inside.name _ (g.met.H.Host.timely _) c.sync.ensures.time c.sync.ensures.files.still)
    (keeps_sized _ _ c.self.inside.name most _ _ (sym long) (c.control_block.ensures.within most tells some)))

pub returns-clause-within : goal.returns-clause-within
returns-clause-within g c most tells some =
    let long : c.self.inside.delta.page_size ≡ length c.deref_mut.result.now = omega (arith, c.deref_mut.ensures.len, c.self.invariant.3) in
    subst (λ (h : Held). KeepsFile (g.H.Host.world c.args.host.now) (g.H.Host.world c.clear.new.host) h.name (EndsWithin (most * h.page_size))) c.self.view_is
    (keeps_joined _ _ _ c.self.inside.name _ (keeps_joined _ _ _ c.self.inside.name _ (still_keeps _ _ c.self.inside.name _ (g.met.H.Host.timely _) c.sync.ensures.time c.sync.ensures.files.still)
    (keeps_sized _ _ c.self.inside.name most _ _ (sym long) (c.control_block.ensures.within most tells some)))
    (delta_keeps _ _ c.self.inside.name _ _ _ c.self.invariant.5 (c.clear.ensures.changes tells)))
