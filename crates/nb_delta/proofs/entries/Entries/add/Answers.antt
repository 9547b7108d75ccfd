use Rattle.std.proofs.Common.{◌≡◌, ℕ, List, [], ◌∷◌, ◌++◌, None, ap, sym, ◌∙◌, subst, arith}
use Rattle.nb_delta.proofs.Common.{place_of, AreEntries, IsIndex}
use Rattle.nb_delta.proofs.EntryLaws.{few, room_for, named_none, entries_more, index_added}
use Rattle.nb_delta.proofs.entries.Entries.add.Goals as goal

pub overflow_cast-place : goal.overflow_cast-place
overflow_cast-place c = let most = few c.self.inside.pages.items c.self.invariant.0 in omega (arith, most, c.self.inside.pages.ok.0)

pub returns-in_err-push-clause-room : goal.returns-in_err-push-clause-room
returns-in_err-push-clause-room c = room_for c.args.self.now c.args.page (subst AreEntries c.self.view_is c.self.invariant.0) c.requires.fresh c.requires.below

pub returns-then-is_err-clause-room : goal.returns-then-is_err-clause-room
returns-then-is_err-clause-room c = room_for c.args.self.now c.args.page (subst AreEntries c.self.view_is c.self.invariant.0) c.requires.fresh c.requires.below

pub returns-clause-room : goal.returns-clause-room
returns-clause-room c = room_for c.args.self.now c.args.page (subst AreEntries c.self.view_is c.self.invariant.0) c.requires.fresh c.requires.below

pub invariant_of-self-else-is_err : goal.invariant_of-self-else-is_err
invariant_of-self-else-is_err c =
    let page = c.args.page in
    let old : List ℕ = c.self.inside.pages.items in
    let pushed : c.push.new.self.items ≡ old ++ page ∷ [] = c.in_ok-push.ensures.items in
    let none : place_of old page ≡ None = ap (λ (xs : List ℕ). place_of xs page) c.self.view_is ∙ c.requires.fresh in (
      subst AreEntries (sym pushed) (entries_more old page c.self.invariant.0 (named_none page old none) c.requires.below),
      subst (λ (xs : List ℕ). IsIndex xs c.insert.new.self) (sym pushed)
          (index_added c.insert.result c.self.inside.places c.insert.new.self old page c.len-place.result c.if-is_err.ensures.negation (omega (arith, c.len-place.ensures, c.self.inside.pages.ok.0)) c.self.invariant.1 none c.insert.ensures.updates),
    )
