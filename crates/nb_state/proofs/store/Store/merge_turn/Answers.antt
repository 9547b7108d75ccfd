use Rattle.std.proofs.Common.{◌≡◌, ◌+◌, ◌<◌, ◌≤◌, [], ◌∷◌, length, refl, sym, ap, subst, ◌∙◌, arith, slice_index, None}
use Rattle.nb_state.proofs.Common.{World, finish, delta_name, Strikes, Held, IsOpen, name_of, passed_on, OfFiles, StrikesOn, GrowsWithin}
use Rattle.nb_base.specs.Merging.{PutsPage}
use Rattle.nb_base.proofs.StaysLaws.{grows_first}
use Rattle.nb_base.proofs.TouchLaws.{narrowed}
use Rattle.nb_change.specs.Changes.{Only}
use Rattle.nb_state.proofs.TurnLaws.{struck_more, open_more, open_finished, all_merged, merge_failed}
use Rattle.nb_state.proofs.store.Store.merge_turn.Goals as goal

pub returns-in_err-merge_entry-clause-merges : goal.returns-in_err-merge_entry-clause-merges
returns-in_err-merge_entry-clause-merges g c t tells given =
    let old : World = g.H.Host.world c.args.host.now in
    let new : World = g.H.Host.world c.merge_entry.new.host in
    let is = subst (λ (h : Held). IsOpen old h t) (sym c.self.view_is) given in
    let entry = c.merge_entry.ensures in
    let struck = subst (λ (h : Held). StrikesOn old new (Only (name_of h)) (name_of h) t []) c.self.view_is
    (narrowed old new (OfFiles c.self.inside.pair.files.name) (Only c.self.inside.pair.files.name) _ (entry.takes t tells is.files).left (entry.touches tells)) in
    let long = grows_first old new (name_of c.args.self.now) c.args.self.now.files.page_size t (finish ∷ [])
    (subst (λ (h : Held). GrowsWithin old new (name_of h) h.files.page_size t []) c.self.view_is (entry.within t tells is.files)) in
    merge_failed old new c.args.self.now _ t c.from_residual.result _ (passed_on c.from_residual.result c.in_err-merge_entry.field-0.0 c.from_residual.ensures) (struck_more old new _ t struck) long (λ low. struck) entry.gave
    (ap (λ (p : Rattle.nb_owner.specs.Open.Held). p.files.name) entry.same ∙ ap (λ (h : Held). name_of h) c.self.view_is)

pub returns-then-self-delta_count-clause-merges : goal.returns-then-self-delta_count-clause-merges
returns-then-self-delta_count-clause-merges g c t tells given =
    let old : World = g.H.Host.world c.args.host.now in
    let new : World = g.H.Host.world c.merge_entry.new.host in
    let is = subst (λ (h : Held). IsOpen old h t) (sym c.self.view_is) given in
    let merges = ap (λ (h : Held). h.files.state) c.self.view_is ∙ c.requires.merge in
    let entry = c.in_ok-merge_entry.ensures in
    let takes = entry.takes t tells is.files in
    let struck = subst (λ (h : Held). StrikesOn old new (Only (name_of h)) (name_of h) t []) c.self.view_is
    (narrowed old new (OfFiles c.self.inside.pair.files.name) (Only c.self.inside.pair.files.name) _ (entry.takes t tells is.files).left (entry.touches tells)) in
    let long = grows_first old new (name_of c.args.self.now) c.args.self.now.files.page_size t (finish ∷ [])
    (subst (λ (h : Held). GrowsWithin old new (name_of h) h.files.page_size t []) c.self.view_is (entry.within t tells is.files)) in
    let inside : c.self.inside.merged < length c.self.inside.pair.files.entries = omega (arith, c.if-self-delta_count.true, c.delta_count.ensures.value) in
    record {
      left = struck_more old new _ t struck;
      long = long;
      more = λ low. struck;
      puts = subst (λ (h : Held). PutsPage old.files new.files (name_of h) h.files.page_size (slice_index h.files.entries h.merged)) c.self.view_is (entry.put tells);
      on = (
        omega (arith, inside, ap length is.files.agrees.entries, ap (λ (h : Held). h.merged) c.self.view_is),
        ap (λ (h : Held). h.merged + 1) c.self.view_is,
        ap (λ (h : Held). h.running) c.self.view_is,
        open_more old new _ t is c.merge_entry.new.self takes.done (ap (λ (p : Rattle.nb_owner.specs.Open.Held). p.files.entries) entry.same) inside (entry.merged t tells is.files (is.merged merges)),
      );
      gave = entry.gave;
      name = ap (λ (p : Rattle.nb_owner.specs.Open.Held). p.files.name) entry.same ∙ ap (λ (h : Held). name_of h) c.self.view_is;
    }

pub returns-in_err-finish-clause-merges : goal.returns-in_err-finish-clause-merges
returns-in_err-finish-clause-merges g c t tells given =
    let old : World = g.H.Host.world c.args.host.now in
    let new : World = g.H.Host.world c.finish.new.host in
    let is = subst (λ (h : Held). IsOpen old h t) (sym c.self.view_is) given in
    let merges = ap (λ (h : Held). h.files.state) c.self.view_is ∙ c.requires.merge in
    let finished = c.finish.ensures in
    let all : length c.self.inside.pair.files.entries ≤ c.self.inside.merged = omega (arith, c.if-self-delta_count.false, c.delta_count.ensures.value) in
    let left = subst (λ (h : Held). Strikes old new (name_of h) t (finish ∷ [])) c.self.view_is (finished.takes t tells is.files (all_merged old _ t is merges all)).left in
    let long = grows_first old new (name_of c.args.self.now) c.args.self.now.files.page_size t (finish ∷ [])
    (subst (λ (h : Held). GrowsWithin old new (name_of h) h.files.page_size t []) c.self.view_is (finished.within t tells is.files)) in
    merge_failed old new c.args.self.now _ t c.from_residual-in_err-finish.result _ (passed_on c.from_residual-in_err-finish.result c.in_err-finish.field-0.0 c.from_residual-in_err-finish.ensures) left long
    (λ low. absurd (omega (arith, low, all, ap length is.files.agrees.entries, ap (λ (h : Held). h.merged) c.self.view_is))) finished.gave (finished.name ∙ ap (λ (h : Held). name_of h) c.self.view_is)

pub returns-clause-merges : goal.returns-clause-merges
returns-clause-merges g c t tells given =
    let old : World = g.H.Host.world c.args.host.now in
    let new : World = g.H.Host.world c.finish.new.host in
    let is = subst (λ (h : Held). IsOpen old h t) (sym c.self.view_is) given in
    let merges = ap (λ (h : Held). h.files.state) c.self.view_is ∙ c.requires.merge in
    let finished = c.in_ok-finish.ensures in
    let all : length c.self.inside.pair.files.entries ≤ c.self.inside.merged = omega (arith, c.if-self-delta_count.false, c.delta_count.ensures.value) in
    let takes = finished.takes t tells is.files (all_merged old _ t is merges all) in
    let long = grows_first old new (name_of c.args.self.now) c.args.self.now.files.page_size t (finish ∷ [])
    (subst (λ (h : Held). GrowsWithin old new (name_of h) h.files.page_size t []) c.self.view_is (finished.within t tells is.files)) in
    record {
      left = subst (λ (h : Held). Strikes old new (name_of h) t (finish ∷ [])) c.self.view_is takes.left;
      long = long;
      puts = subst (λ (h : Held). new.files (delta_name (name_of h)) ≡ None) c.self.view_is (finished.gone tells);
      more = λ low. absurd (omega (arith, low, all, ap length is.files.agrees.entries, ap (λ (h : Held). h.merged) c.self.view_is));
      on = (
        omega (arith, all, is.most merges, ap length is.files.agrees.entries, ap (λ (h : Held). h.merged) c.self.view_is),
        refl,
        open_finished old new _ t is c.finish.new.self c.self.told c.self.invariant.1 takes.done,
      );
      gave = finished.gave;
      name = finished.name ∙ ap (λ (h : Held). name_of h) c.self.view_is;
    }

pub returns-then-self-delta_count-clause-puts : goal.returns-then-self-delta_count-clause-puts
returns-then-self-delta_count-clause-puts g c tells =
    subst (λ (h : Held). PutsPage (g.H.Host.world c.args.host.now).files (g.H.Host.world c.merge_entry.new.host).files (name_of h) h.files.page_size (slice_index h.files.entries h.merged)) c.self.view_is
    (c.in_ok-merge_entry.ensures.put tells)

pub returns-clause-puts : goal.returns-clause-puts
returns-clause-puts g c tells = subst (λ (h : Held). (g.H.Host.world c.finish.new.host).files (delta_name (name_of h)) ≡ None) c.self.view_is (c.in_ok-finish.ensures.gone tells)
