use Rattle.std.proofs.Common.{◌≡◌, ◌∙◌, refl, ap, None}
use Rattle.nb_delta.proofs.Common.{on_ok_weaker, Files, with_file, with_file-same, remade_alone, whole_on_ok}
use Rattle.nb_delta.proofs.writing.remove_file.Goals as goal

pub returns-clause-changes : goal.returns-clause-changes
returns-clause-changes g c tells =
    remade_alone g.H.Host.tells c.remove.result (g.H.Host.world c.args.host.now) (g.H.Host.world c.remove.new.self) c.args.name.now None (λ file. file ≡ None) tells (g.met.H.Host.timely c.args.host.now) c.remove.ensures.files c.remove.ensures.log.said c.remove.ensures.time refl

pub returns-clause-gone : goal.returns-clause-gone
returns-clause-gone g c tells =
    let old : Files = (g.H.Host.world c.args.host.now).files in
    let new : Files = (g.H.Host.world c.remove.new.self).files in
    on_ok_weaker c.remove.result (λ (gone : new ≡ with_file old c.args.name.now None). ap (λ (f : Files). f c.args.name.now) gone ∙ with_file-same old c.args.name.now None) (whole_on_ok c.remove.result _ _ _ (c.remove.ensures.files.files tells))
