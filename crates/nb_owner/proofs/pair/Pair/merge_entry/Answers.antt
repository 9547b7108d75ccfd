use Rattle.std.proofs.Common.{◌*◌, [], ap, sym, subst, ◌∙◌, slice_index, OnOk}
use Rattle.nb_owner.proofs.Common.{on_ok_weaker, AreMerged, Strikes, strikes_left, Held, IsOpen, the_view}
use Rattle.nb_base.specs.Merging.{PutsPage}
use Rattle.nb_owner.proofs.WaitLaws.{files_open, open_settled}
use Rattle.nb_base.specs.Stays.{KeepsFile, EndsWithin}
use Rattle.nb_change.specs.Changes.{Only, Touches}
use Rattle.nb_owner.proofs.pair.Pair.merge_entry.Goals as goal

pub returns-clause-takes : goal.returns-clause-takes
returns-clause-takes g c t tells given =
    let old = g.H.Host.world c.args.host.now in
    let new = g.H.Host.world c.merge_entry.new.host in
    let is = subst (λ (h : Held). IsOpen old h t) (sym c.self.view_is) given in
    let none = c.self.invariant.2 (ap (λ (h : Held). h.files.state) c.self.view_is ∙ c.requires.merge) in
    let takes = c.merge_entry.ensures.takes t tells (files_open old (the_view c.self.inside) t none is) in
    let now : Held = record { files = c.merge_entry.new.self; pages = c.self.inside.cache.pages; cap = c.self.inside.cache.cap } in
    record {
      left = subst (λ (h : Held). Strikes old new h.files.name t []) c.self.view_is (strikes_left old new c.self.inside.files.name t [] takes.left);
      done = on_ok_weaker c.merge_entry.result (λ files. open_settled new now t none files is.pages) takes.done;
    }

pub returns-clause-merged : goal.returns-clause-merged
returns-clause-merged g c t tells given merged =
    let old = g.H.Host.world c.args.host.now in
    let is = subst (λ (h : Held). IsOpen old h t) (sym c.self.view_is) given in
    let none = c.self.invariant.2 (ap (λ (h : Held). h.files.state) c.self.view_is ∙ c.requires.merge) in
    c.merge_entry.ensures.merged t tells (files_open old (the_view c.self.inside) t none is) (subst (λ (h : Held). AreMerged old h.files c.args.k) (sym c.self.view_is) merged)

pub returns-clause-put : goal.returns-clause-put
returns-clause-put g c tells =
    subst (λ (h : Held). OnOk c.merge_entry.result (PutsPage (g.H.Host.world c.args.host.now).files (g.H.Host.world c.merge_entry.new.host).files h.files.name h.files.page_size (slice_index h.files.entries c.args.k))) c.self.view_is
    (c.merge_entry.ensures.put tells)

pub returns-clause-within : goal.returns-clause-within
returns-clause-within g c t tells given most within =
    let old = g.H.Host.world c.args.host.now in
    let new = g.H.Host.world c.merge_entry.new.host in
    let is = subst (λ (h : Held). IsOpen old h t) (sym c.self.view_is) given in
    let none = c.self.invariant.2 (ap (λ (h : Held). h.files.state) c.self.view_is ∙ c.requires.merge) in
    subst (λ (h : Held). KeepsFile old new h.files.name (EndsWithin (most * h.files.page_size))) c.self.view_is (c.merge_entry.ensures.within t most tells (files_open old (the_view c.self.inside) t none is) within)

pub returns-clause-touches : goal.returns-clause-touches
returns-clause-touches g c tells = subst (λ (h : Held). Touches (g.H.Host.world c.args.host.now) (g.H.Host.world c.merge_entry.new.host) (Only h.files.name)) c.self.view_is (c.merge_entry.ensures.touches tells)
