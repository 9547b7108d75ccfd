use Rattle.std.proofs.Common.{◌≢◌, [], ◌∷◌, refl, sym, ap, subst, ◌∙◌, arith, Result, IfErr}
use Rattle.nb_state.proofs.Common.{size_facts, World, as_fault, as_answer, RunError, page, Held, IsOpen, HasBlock, NoPageWaits, name_of, pair_of, Goes, Makes, passed_on, OfFiles, StrikesIn, WrittenIn, GrowsWithin}
use Rattle.nb_host.specs.declared.faults.RunError.TheVariants.{Memory}
use Rattle.nb_owner.proofs.OpenLaws.{may_write}
use Rattle.nb_state.specs.contracts.store.Store.{the_view}
use Rattle.nb_state.proofs.AgreeLaws.{open_written, goes_files, goes_written}
use Rattle.nb_state.proofs.MakesLaws.{never_ended, none_refused}
use Rattle.nb_state.proofs.TurnLaws.{open_wanting}
use Rattle.nb_base.proofs.TouchLaws.{narrowed}
use Rattle.nb_state.proofs.store.Store.write.Goals as goal

pub write-requires-clause-control_block : goal.write-requires-clause-control_block
write-requires-clause-control_block g c first tells = subst (λ (h : Held). HasBlock (g.H.Host.world c.args.host.now) h c.args.page.now) (sym c.self.view_is) (c.requires.control_block first tells)

pub returns-in_err-write-clause-makes : goal.returns-in_err-write-clause-makes
returns-in_err-write-clause-makes g c t tells given =
    let old : World = g.H.Host.world c.args.host.now in
    let new : World = g.H.Host.world c.write.new.host in
    let is = subst (λ (h : Held). IsOpen old h t) (sym c.self.view_is) given in
    let wrote = c.write.ensures in
    let after : Held = record c.args.self.now { files = c.write.new.self.files; pages = c.write.new.self.pages; cap = c.write.new.self.cap } in
    let left = subst (λ (h : Held). StrikesIn old new h.files.state (name_of h) t (page c.args.number c.args.page.now ∷ [])) c.self.view_is
    (narrowed old new (OfFiles c.self.inside.pair.files.name) (WrittenIn c.self.inside.pair.files.state c.self.inside.pair.files.name) _ (wrote.takes t tells is.files).left (c.write.ensures.touches t tells is.files)) in
    let long = subst (λ (h : Held). GrowsWithin old new (name_of h) h.files.page_size t (page c.args.number c.args.page.now ∷ [])) c.self.view_is (c.write.ensures.within t tells is.files) in
    let goes = subst (λ (h : Held). Goes h (record h { files = c.write.new.self.files; pages = c.write.new.self.pages; cap = c.write.new.self.cap })) c.self.view_is (goes_files _ c.write.new.self wrote.name wrote.page_size wrote.state wrote.longer wrote.entries wrote.cap) in
    subst (λ (h : Held). Makes {T = Unit {0}} (as_answer c.from_residual.result) old new c.args.self.now h t (page c.args.number c.args.page.now ∷ [])) (sym (ap (λ (h : Held). record h { files = c.write.new.self.files; pages = c.write.new.self.pages; cap = c.write.new.self.cap }) c.self.view_is))
    (subst (λ (r : Result (Unit {0}) RunError). Makes (as_answer r) old new c.args.self.now after t (page c.args.number c.args.page.now ∷ [])) (sym (passed_on c.from_residual.result c.in_err-write.field-0.0 c.from_residual.ensures)) (record {
      left = left;
      long = long;
      opened = never_ended (Unit {0}) (as_fault c.in_err-write.field-0.0) _ (none_refused c.in_err-write.field-0.0);
      goes = goes;
      gave = wrote.gave;
    }))

pub take_access-requires : goal.take_access-requires
take_access-requires g c = let size = size_facts c.self.inside.pair.files.page_size c.self.invariant.0 in omega (arith, size.at_least, c.requires.size, ap (λ (h : Held). h.files.page_size) c.self.view_is)

pub returns-clause-makes : goal.returns-clause-makes
returns-clause-makes g c t tells given =
    let fits = may_write (g.H.Host.world c.args.host.now) (pair_of c.args.self.now) t c.args.number c.args.page.now given.files c.requires.low (λ first. c.requires.control_block first tells) in
    let old : World = g.H.Host.world c.args.host.now in
    let new : World = g.H.Host.world c.write.new.host in
    let is = subst (λ (h : Held). IsOpen old h t) (sym c.self.view_is) given in
    let wrote = c.in_ok-write.ensures in
    let takes = wrote.takes t tells is.files in
    let pair = c.write.new.self in
    let first = c.take_access.ensures.first in
    let other = c.take_access.ensures.other in
    record {
      left = subst (λ (h : Held). StrikesIn old new h.files.state (name_of h) t (page c.args.number c.args.page.now ∷ [])) c.self.view_is
          (narrowed old new (OfFiles c.self.inside.pair.files.name) (WrittenIn c.self.inside.pair.files.state c.self.inside.pair.files.name) _ takes.left (c.write.ensures.touches t tells is.files));
      long = subst (λ (h : Held). GrowsWithin old new (name_of h) h.files.page_size t (page c.args.number c.args.page.now ∷ [])) c.self.view_is (c.write.ensures.within t tells is.files);
      opened = open_written t c.args.number c.args.page.now fits _ pair old new c.take_access.new.self first other is wrote.state wrote.entries takes.done (λ two. wrote.merged t _ tells is.files two (is.merged two));
      goes = subst (λ (h : Held). Goes h c.take_access.new.self) c.self.view_is
          (goes_written c.args.number c.args.page.now _ c.take_access.new.self pair first other (goes_files _ pair wrote.name wrote.page_size wrote.state wrote.longer wrote.entries wrote.cap));
      gave = wrote.gave;
    }

pub returns-in_err-write-clause-on_memory : goal.returns-in_err-write-clause-on_memory
returns-in_err-write-clause-on_memory g c t tells given memory =
    let old : World = g.H.Host.world c.args.host.now in
    let new : World = g.H.Host.world c.write.new.host in
    let is = subst (λ (h : Held). IsOpen old h t) (sym c.self.view_is) given in
    let wrote = c.in_err-write.ensures in
    let wants = sym (passed_on c.from_residual.result c.in_err-write.field-0.0 c.from_residual.ensures) ∙ memory in
    let on_memory = wrote.on_memory t tells is.files wants in (
      subst (λ (h : Held). StrikesIn old new h.files.state (name_of h) t []) c.self.view_is
          (narrowed old new (OfFiles c.self.inside.pair.files.name) (WrittenIn c.self.inside.pair.files.state c.self.inside.pair.files.name) _ on_memory.0 (c.write.ensures.touches t tells is.files)),
      open_wanting old new _ c.write.new.self t is wrote.state on_memory.1 (λ two. subst (λ (r : Result (Unit {0}) RunError). IfErr r (λ error. error ≢ Memory)) wants (wrote.takes_none (λ one. absurd (omega (arith, one, two)))) refl),
    )

pub returns-in_err-write-clause-idle : goal.returns-in_err-write-clause-idle
returns-in_err-write-clause-idle g c none memory =
    let wants = sym (passed_on c.from_residual.result c.in_err-write.field-0.0 c.from_residual.ensures) ∙ memory in
    let idle = subst (λ (h : Held). NoPageWaits h) (sym c.self.view_is) none in
    let same = c.in_err-write.ensures.idle idle.0 idle.1 wants in
    (ap (λ (p : Rattle.nb_owner.specs.Open.Held). record (the_view c.self.inside) { files = p.files; pages = p.pages; cap = p.cap }) same.0 ∙ c.self.view_is, same.1)

pub returns-in_err-write-clause-forced : goal.returns-in_err-write-clause-forced
returns-in_err-write-clause-forced g c t tells given forced memory =
    let is = subst (λ (h : Held). IsOpen (g.H.Host.world c.args.host.now) h t) (sym c.self.view_is) given in
    let wants = sym (passed_on c.from_residual.result c.in_err-write.field-0.0 c.from_residual.ensures) ∙ memory in
    let same = c.in_err-write.ensures.forced t tells is.files (sym given.files.agrees.forced ∙ forced) wants in
    (ap (λ (p : Rattle.nb_owner.specs.Open.Held). record (the_view c.self.inside) { files = p.files; pages = p.pages; cap = p.cap }) same.0 ∙ c.self.view_is, same.1)
