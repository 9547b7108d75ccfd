use Rattle.std.proofs.Common.{◌≡◌, List, ℕ, [], ◌∷◌, inl, sym, subst, ap, ◌∙◌, nat_eq}
use Rattle.nb_owner.proofs.Common.{on_ok_weaker, weaker_has, strokes_composed, ends, StandsIn, after_stroke, OfFiles, Strikes, not_done, remove_entry, Pages, bare, behind_first}
use Rattle.nb_owner.proofs.OpenLaws.{bare_removed}
use Rattle.nb_base.specs.Stays.{KeepsFile, HasAfterFirst, GrowsWithin}
use Rattle.nb_base.proofs.StaysLaws.{frozen_keeps, keeps_joined, grows_joined}
use Rattle.nb_owner.proofs.pair.Pair.end.Goals as goal

pub returns-in_err-write_out-clause-takes : goal.returns-in_err-write_out-clause-takes
returns-in_err-write_out-clause-takes g c t tells is = record {
  left = weaker_has (g.H.Host.world c.args.host.now) (g.H.Host.world c.write_out.new.host) (OfFiles c.args.self.now.files.name) _ _ (c.write_out.ensures.takes t tells is).left (λ files so. inl so);
  done = not_done c.from_residual.result _ c.from_residual.ensures.0;
}

pub end_files-requires-clause-stalled : goal.end_files-requires-clause-stalled
end_files-requires-clause-stalled g c = ap (λ f. f.state) c.write_out.ensures.files ∙ c.requires.stalled

pub returns-clause-takes : goal.returns-clause-takes
returns-clause-takes g c t tells is =
    let old = g.H.Host.world c.args.host.now in
    let mid = g.H.Host.world c.write_out.new.host in
    let new = g.H.Host.world c.end_files.new.host in
    let name = c.args.self.now.files.name in
    let first = c.in_ok-write_out.ensures.takes t tells is in
    let second = c.end_files.ensures.takes t tells first.done in
    record {
      left = strokes_composed after_stroke (StandsIn name) (OfFiles name) old mid new t [] (ends ∷ []) first.left
          (subst (λ (n : List ℕ). Strikes mid new n t (ends ∷ [])) (ap (λ f. f.name) c.write_out.ensures.files) second.left);
      done = second.done;
    }

pub returns-clause-others : goal.returns-clause-others
returns-clause-others g c =
    on_ok_weaker c.end_files.result (λ (others : c.end_files.new.self.pages ≡ behind_first c.write_out.new.self.pages). ap (λ (ps : Pages). bare ps) others ∙ bare_removed 0 c.write_out.new.self.pages ∙ ap (remove_entry (nat_eq 0)) c.write_out.ensures.bare ∙ sym (bare_removed 0 c.args.self.now.pages)) c.end_files.ensures.others

pub returns-in_err-write_out-clause-entries : goal.returns-in_err-write_out-clause-entries
returns-in_err-write_out-clause-entries g c = ap (λ f. f.entries) c.write_out.ensures.files

pub returns-in_err-write_out-clause-within : goal.returns-in_err-write_out-clause-within
returns-in_err-write_out-clause-within g c t tells is = c.write_out.ensures.within t tells is

pub returns-clause-within : goal.returns-clause-within
returns-clause-within g c t tells is =
    let old = g.H.Host.world c.args.host.now in
    let mid = g.H.Host.world c.write_out.new.host in
    let new = g.H.Host.world c.end_files.new.host in
    let held = c.args.self.now in
    grows_joined old mid new held.files.name held.files.page_size t [] [] (c.write_out.ensures.within t tells is)
    (subst (λ (f : Rattle.nb_base.specs.Open.Held). GrowsWithin mid new f.name f.page_size t []) c.write_out.ensures.files (c.end_files.ensures.within t tells (c.in_ok-write_out.ensures.takes t tells is).done))

pub returns-in_err-write_out-clause-rest : goal.returns-in_err-write_out-clause-rest
returns-in_err-write_out-clause-rest g c t bytes tells is = frozen_keeps _ _ c.args.self.now.files.state c.args.self.now.files.name _ c.requires.stalled (c.write_out.ensures.touches t tells is)

pub returns-clause-rest : goal.returns-clause-rest
returns-clause-rest g c t bytes tells is =
    let mid = g.H.Host.world c.write_out.new.host in
    let new = g.H.Host.world c.end_files.new.host in
    let held = c.args.self.now in
    keeps_joined _ mid new held.files.name _ (frozen_keeps _ mid held.files.state held.files.name _ c.requires.stalled (c.write_out.ensures.touches t tells is))
    (subst (λ (f : Rattle.nb_base.specs.Open.Held). KeepsFile mid new f.name (HasAfterFirst f.page_size bytes)) c.write_out.ensures.files (c.end_files.ensures.rest t bytes tells (c.in_ok-write_out.ensures.takes t tells is).done))
