use Rattle.std.proofs.Common.{◌≡◌, ◌*◌, [], ◌∷◌, length, sym, subst, None, OnOk}
use Rattle.nb_base.proofs.Common.{World, delta_name, finish, Held, IsOpen, AreMerged, StrikesFirm}
use Rattle.nb_base.proofs.AgreeLaws.{open_seen}
use Rattle.nb_base.proofs.FilledLaws.{open_still, merged_still, quiet_struck}
use Rattle.nb_base.proofs.MergingLaws.{struck_quiet}
use Rattle.nb_base.proofs.StrokeLaws.{not_struck}
use Rattle.nb_base.proofs.WriteLaws.{not_done}
use Rattle.nb_base.specs.Stays.{KeepsFile, EndsWithin}
use Rattle.nb_base.proofs.StaysLaws.{quiet_keeps, keeps_joined}
use Rattle.nb_base.proofs.files.TwoFiles.finish.Goals as goal

pub returns-in_err-count-clause-takes : goal.returns-in_err-count-clause-takes
returns-in_err-count-clause-takes g c t tells is equal =
    let old : World = g.H.Host.world c.args.host.now in
    let mid : World = g.H.Host.world c.count_filled.new.host in
    record {
      left = not_struck old mid c.args.self.now.name t finish (struck_quiet old mid c.args.self.now.name t c.count_filled.ensures.quiet (open_seen old c.args.self.now t is));
      done = not_done c.from_residual.result _ c.from_residual.ensures.0;
    }

pub returns-clause-takes : goal.returns-clause-takes
returns-clause-takes g c t tells is equal =
    let old : World = g.H.Host.world c.args.host.now in
    let mid : World = g.H.Host.world c.count_filled.new.host in
    let new : World = g.H.Host.world c.finish_with.new.host in
    let quiet = c.count_filled.ensures.quiet in
    let here = subst (λ (h : Held). IsOpen mid h t) (sym c.count_filled.ensures.same) (open_still old mid c.args.self.now t quiet.still is) in
    let merged = subst (λ (h : Held). AreMerged mid h (length h.entries)) (sym c.count_filled.ensures.same) (merged_still old mid c.args.self.now _ quiet.still equal) in
    let takes = c.finish_with.ensures.takes t tells here merged (c.in_ok-count.ensures.count t tells is) in
    record {
      left = quiet_struck old mid new c.args.self.now t (finish ∷ []) quiet is (subst (λ (h : Held). StrikesFirm mid new h.name t (finish ∷ [])) c.count_filled.ensures.same takes.left);
      done = takes.done;
    }

pub returns-clause-gone : goal.returns-clause-gone
returns-clause-gone g c tells = subst (λ (h : Held). OnOk c.finish_with.result ((g.H.Host.world c.finish_with.new.host).files (delta_name h.name) ≡ None)) c.count_filled.ensures.same (c.finish_with.ensures.gone tells)

pub returns-in_err-count-clause-within : goal.returns-in_err-count-clause-within
returns-in_err-count-clause-within g c most tells some = quiet_keeps _ _ c.args.self.now.name _ c.count_filled.ensures.quiet

pub returns-clause-within : goal.returns-clause-within
returns-clause-within g c most tells some =
    let mid = g.H.Host.world c.count_filled.new.host in
    let new = g.H.Host.world c.finish_with.new.host in
    keeps_joined _ _ _ c.args.self.now.name _ (quiet_keeps _ mid c.args.self.now.name _ c.count_filled.ensures.quiet)
    (subst (λ (h : Held). KeepsFile mid new h.name (EndsWithin (most * h.page_size))) c.count_filled.ensures.same (c.finish_with.ensures.within most tells some))
