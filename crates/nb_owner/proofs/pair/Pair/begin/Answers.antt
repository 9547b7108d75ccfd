use Rattle.std.proofs.Common.{OnOk, ◌≡◌, List, ℕ, [], ◌∷◌, inl, sym, subst, ap, ◌∙◌, nat_eq}
use Rattle.nb_owner.proofs.Common.{on_ok_weaker, weaker_has, strokes_composed, begin, StandsIn, after_stroke, OfFiles, Strikes, not_done, remove_entry, Pages, bare, behind_first}
use Rattle.nb_owner.proofs.OpenLaws.{bare_removed}
use Rattle.nb_base.specs.Stays.{GrowsWithin}
use Rattle.nb_base.proofs.StaysLaws.{grows_joined}
use Rattle.nb_host.specs.Crash.{IsDurable}
use Rattle.nb_owner.proofs.pair.Pair.begin.Goals as goal

pub returns-in_err-write_out-clause-takes : goal.returns-in_err-write_out-clause-takes
returns-in_err-write_out-clause-takes g c t ask tells is low = record {
  left = weaker_has (g.H.Host.world c.args.host.now) (g.H.Host.world c.write_out.new.host) (OfFiles c.args.self.now.files.name) _ _ (c.write_out.ensures.takes t tells is).left (λ files so. inl so);
  done = not_done c.from_residual.result _ c.from_residual.ensures.0;
}

pub begin_files-requires-clause-normal : goal.begin_files-requires-clause-normal
begin_files-requires-clause-normal g c = ap (λ f. f.state) c.write_out.ensures.files ∙ c.requires.normal

pub returns-clause-takes : goal.returns-clause-takes
returns-clause-takes g c t ask tells is low =
    let old = g.H.Host.world c.args.host.now in
    let mid = g.H.Host.world c.write_out.new.host in
    let new = g.H.Host.world c.begin_files.new.host in
    let name = c.args.self.now.files.name in
    let first = c.in_ok-write_out.ensures.takes t tells is in
    let second = c.begin_files.ensures.takes t ask tells first.done low in
    record {
      left = strokes_composed after_stroke (StandsIn name) (OfFiles name) old mid new t [] (begin c.args.guid.now ask ∷ []) first.left
          (subst (λ (n : List ℕ). Strikes mid new n t (begin c.args.guid.now ask ∷ [])) (ap (λ f. f.name) c.write_out.ensures.files) second.left);
      done = second.done;
    }

pub returns-clause-others : goal.returns-clause-others
returns-clause-others g c =
    on_ok_weaker c.begin_files.result (λ (others : c.begin_files.new.self.pages ≡ behind_first c.write_out.new.self.pages). ap (λ (ps : Pages). bare ps) others ∙ bare_removed 0 c.write_out.new.self.pages ∙ ap (remove_entry (nat_eq 0)) c.write_out.ensures.bare ∙ sym (bare_removed 0 c.args.self.now.pages)) c.begin_files.ensures.others

pub returns-in_err-write_out-clause-within : goal.returns-in_err-write_out-clause-within
returns-in_err-write_out-clause-within g c t tells is = c.write_out.ensures.within t tells is

pub returns-clause-within : goal.returns-clause-within
returns-clause-within g c t tells is =
    let old = g.H.Host.world c.args.host.now in
    let mid = g.H.Host.world c.write_out.new.host in
    let new = g.H.Host.world c.begin_files.new.host in
    let held = c.args.self.now in
    grows_joined old mid new held.files.name held.files.page_size t [] [] (c.write_out.ensures.within t tells is)
    (subst (λ (f : Rattle.nb_base.specs.Open.Held). GrowsWithin mid new f.name f.page_size t []) c.write_out.ensures.files (c.begin_files.ensures.within t tells (c.in_ok-write_out.ensures.takes t tells is).done))

pub returns-clause-durable : goal.returns-clause-durable
returns-clause-durable g c tells =
    let new = g.H.Host.world c.begin_files.new.host in
    subst (λ (f : Rattle.nb_base.specs.Open.Held). OnOk c.begin_files.result (IsDurable new f.name (new.files f.name))) c.write_out.ensures.files (c.begin_files.ensures.durable tells)
