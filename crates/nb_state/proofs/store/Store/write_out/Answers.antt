use Rattle.std.proofs.Common.{◌≡◌, [], refl, sym, subst, ap, ◌∙◌, Result, Ok, Err, OnOk}
use Rattle.nb_state.proofs.Common.{on_ok_weaker, AreMerged, NoneWaits, Held, IsOpen, name_of, OfFiles, StrikesIn, WrittenIn, GrowsWithin}
use Rattle.nb_state.proofs.TurnLaws.{open_out}
use Rattle.nb_base.proofs.TouchLaws.{narrowed}
use Rattle.nb_state.proofs.store.Store.write_out.Goals as goal

on_ok_pair : {T E : Type 0} (P Q : Type 0) (result : Result T E) → OnOk result P → OnOk result Q → OnOk result (P × Q)
on_ok_pair P Q (Ok x) p q = (p, q)
on_ok_pair P Q (Err e) p q = tt

pub returns-clause-none : goal.returns-clause-none
returns-clause-none g c = on_ok_pair (NoneWaits c.write_out.new.self.pages) (c.write_out.new.self.files.drafted ≡ 0) c.write_out.result c.write_out.ensures.none c.write_out.ensures.no_drafts

pub returns-clause-takes : goal.returns-clause-takes
returns-clause-takes g c t tells given =
    let old = g.H.Host.world c.args.host.now in
    let new = g.H.Host.world c.write_out.new.host in
    let is = subst (λ (h : Held). IsOpen old h t) (sym c.self.view_is) given in
    let takes = c.write_out.ensures.takes t tells is.files in
    record {
      left = subst (λ (h : Held). StrikesIn old new h.files.state (name_of h) t []) c.self.view_is
          (narrowed old new (OfFiles c.self.inside.pair.files.name) (WrittenIn c.self.inside.pair.files.state c.self.inside.pair.files.name) _ takes.left (c.write_out.ensures.touches t tells is.files));
      done = on_ok_weaker c.write_out.result
          (λ opened. open_out old new _ c.write_out.new.self t t is refl c.write_out.ensures.files opened (λ apart merged.
          let idle = c.write_out.ensures.outside apart in
          subst (λ host. AreMerged (g.H.Host.world host) c.write_out.new.self.files c.self.inside.merged) (sym idle.2) (subst (λ (p : Rattle.nb_owner.specs.Open.Held). AreMerged old p.files c.self.inside.merged) (sym idle.1) merged)))
          takes.done;
    }

pub returns-clause-at_settled : goal.returns-clause-at_settled
returns-clause-at_settled g c t tells given none =
    let is = subst (λ (h : Held). IsOpen (g.H.Host.world c.args.host.now) h t) (sym c.self.view_is) given in
    let same = c.write_out.ensures.at_settled t tells is.files none in (
      same.0,
      ap (λ (p : Rattle.nb_owner.specs.Open.Held). record { files = p.files; scn = c.self.inside.scn; guid = c.self.inside.guid; read_only = c.self.inside.read_only; running = c.self.inside.running; merged = c.self.inside.merged; pages = p.pages; cap = p.cap })
          same.1 ∙ c.self.view_is,
      same.2,
    )

pub returns-clause-long : goal.returns-clause-long
returns-clause-long g c t tells given =
    let old = g.H.Host.world c.args.host.now in
    let new = g.H.Host.world c.write_out.new.host in
    let is = subst (λ (h : Held). IsOpen old h t) (sym c.self.view_is) given in
    subst (λ (h : Held). GrowsWithin old new (name_of h) h.files.page_size t []) c.self.view_is (c.write_out.ensures.within t tells is.files)
