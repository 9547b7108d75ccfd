use Rattle.std.proofs.Common.{ℕ, ◌*◌, List, length, refl, ap, ◌∙◌, subst}
use Rattle.nb_delta.proofs.Common.{on_ok_weaker, Files, with_page, PageLeft, SlotStep, page_alone, whole_on_ok}
use Rattle.nb_delta.proofs.MoveLaws.{written}
use Rattle.nb_delta.proofs.StepLaws.{slot_left, slot_put}
use Rattle.nb_delta.proofs.writing.write_slot.Goals as goal

pub returns-clause-put : goal.returns-clause-put
returns-clause-put g c tells k at =
    let bytes : List ℕ = c.args.bytes.now in
    let old : Files = (g.H.Host.world c.args.host.now).files in
    let new : Files = (g.H.Host.world c.write_page.new.self).files in
    on_ok_weaker c.write_page.result
    (λ put. slot_put (length bytes) c.requires k bytes refl (old c.args.name.now) (new c.args.name.now)
    (written old new c.args.name.now bytes (c.args.slot * length bytes) put ∙ ap (λ (n : ℕ). with_page (old c.args.name.now) (n * length bytes) bytes) at))
    (whole_on_ok c.write_page.result _ _ _ (c.write_page.ensures.files.files tells))

pub returns-clause-changes : goal.returns-clause-changes
returns-clause-changes g c tells k at =
    let bytes : List ℕ = c.args.bytes.now in
    page_alone g.H.Host.tells c.write_page.result (g.H.Host.world c.args.host.now) (g.H.Host.world c.write_page.new.self) c.args.name.now (c.args.slot * length bytes) bytes (SlotStep (length bytes) k bytes)
    tells (g.met.H.Host.timely c.args.host.now) c.write_page.ensures.files c.write_page.ensures.log.said c.write_page.ensures.time
    (λ b x was left. slot_left (length bytes) c.requires k bytes refl b x (subst (λ (n : ℕ). PageLeft (n * length bytes) bytes b x) at left))
