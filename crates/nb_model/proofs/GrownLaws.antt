-- The files stand for the account with the records of all backups that have begun along steps, where their GUIDs are new.
use Rattle.std.proofs.Common.{◌≡◌, ◌≢◌, ⊎_elim, ℕ, zero, suc, List, [], ◌∷◌, ◌++◌, refl, sym, ap, subst, ◌∙◌, arith, Some, Option, false, Contains}
use Rattle.nb_model.proofs.Common.{append-nil, Contains-append_cases, Files, is_delta, World, Ask, Kept, Base, Account, IsUnnamed, ComeOnce, AreNew, guids_in, IsSoundImage, Stands, NamesItsPast, nil, Step, makes, settles, after_step, strokes_in, Stroke, make, page, begin, ends, finish, fix, merge, on_base, records_of, Trail, settled, after_stroke, IsWellTrail}
use Rattle.nb_host.specs.Crash.{LeavesAll, Leaves}
use Rattle.nb_model.proofs.TrailLaws.{trail_base}
use Rattle.nb_model.proofs.RecordLaws.{IsFresh, with_record, stands_with_record}
use Rattle.nb_model.proofs.SteadyLaws.{WellAlong, record_of, kept_along, along_first}

-- these GUIDs are in none of the records and in none of the files, and none comes twice
pub record AreUnused (files : Files) (kept : List Kept) (guids : List (List ℕ)) : Type 0 where
  pub some : (guid : List ℕ) → Contains guids guid → guid ≢ nil
  pub unkept : (guid : List ℕ) → Contains guids guid → (q : Kept) → Contains kept q → q.guid ≢ guid
  pub unnamed : (guid : List ℕ) → Contains guids guid → (name bytes : List ℕ) → is_delta name ≡ false → files name ≡ Some bytes → IsUnnamed bytes guid
  pub once : ComeOnce guids

-- so are those that are new, whatever a crash leaves
pub new_unused : (w : World) (kept : List Kept) (guids : List (List ℕ)) (files : Files) → AreNew w kept guids → LeavesAll w files → AreUnused files kept guids
new_unused w kept guids files new left = record {
  some = λ guid there. (new.each guid there).some;
  unkept = λ guid there q kept_there. (new.each guid there).unkept q kept_there;
  unnamed = λ guid there name bytes plain is. (new.each guid there).unnamed name bytes plain (subst (Leaves w name) is (left name));
  once = new.once;
}

first_there : (guid : List ℕ) (guids : List (List ℕ)) → Contains (guid ∷ guids) guid
first_there guid guids = (0, omega arith, refl)

later_there : (guid g : List ℕ) (guids : List (List ℕ)) → Contains guids g → Contains (guid ∷ guids) g
later_there guid g guids (i, low, is) = (suc i, omega (arith, low), is)

-- after the first of them
unused_then : (files : Files) (kept : List Kept) (r : Kept) (guids : List (List ℕ)) → AreUnused files kept (r.guid ∷ guids) → AreUnused files (kept ++ r ∷ []) guids
unused_then files kept r guids unused = record {
  some = λ guid there. unused.some guid (later_there r.guid guid guids there);
  unkept = λ guid there q kept_there. ⊎_elim (λ old. unused.unkept guid (later_there r.guid guid guids there) q old) (λ one e. other guid there q one e) (Contains-append_cases kept (r ∷ []) q kept_there);
  unnamed = λ guid there. unused.unnamed guid (later_there r.guid guid guids there);
  once = unused.once.1;
}
  where
    other : (guid : List ℕ) → Contains guids guid → (q : Kept) → Contains (r ∷ []) q → q.guid ≡ guid → ⊥
    other guid there q (zero, low, is) e = unused.once.0 (subst (Contains guids) (sym (ap (λ (x : Kept). x.guid) is ∙ e)) there)
    other guid there q (suc k, low, is) e = absurd (omega (arith, low))

record_is : (t : Trail) (guid : List ℕ) (ask : Option Ask) → records_of (begin guid ask) t.base ≡ record_of t guid ask ∷ []
unfolding records_of
record_is t guid ask = refl

module _ (files : Files) where
  fresh_record : (account : Account) (t : Trail) (guid : List ℕ) (ask : Option Ask) (ss : List Step) → WellAlong account.kept t (makes (begin guid ask) ∷ ss) → (guids : List (List ℕ)) → AreUnused files account.kept (guid ∷ guids)
      → IsFresh files account.kept (record_of t guid ask)
  unfolding after_step
  fresh_record account t guid ask ss w guids unused =
      let later : IsWellTrail (account.kept ++ records_of (begin guid ask) t.base) (after_stroke (begin guid ask) t) = along_first _ _ ss w.2 in
      let same : (after_stroke (begin guid ask) t).base.image ≡ (on_base (begin guid ask) t.base).image = ap (λ (b : Base). b.image) (trail_base (begin guid ask) t) in
      record {
        begun = w.1.0;
        parent = w.1.1;
        sound = subst IsSoundImage same later.base.well.sound;
        past = subst (NamesItsPast (account.kept ++ record_of t guid ask ∷ [])) same
            (subst (λ (rs : List Kept). NamesItsPast (account.kept ++ rs) (after_stroke (begin guid ask) t).base.image) (record_is t guid ask) later.base.well.past);
        some = unused.some guid (first_there guid guids);
        unkept = unused.unkept guid (first_there guid guids);
        unnamed = unused.unnamed guid (first_there guid guids);
      }

  -- a step that keeps no record
  abbrev Grown : Account → Trail → List Step → Type 0
  Grown account t ss = Stands files (record { entry = account.entry; kept = kept_along account.kept t ss })

  none_more : (s : Stroke) (account : Account) (t : Trail) → records_of s t.base ≡ [] → account.kept ++ records_of s t.base ≡ account.kept
  none_more s account t none = ap (λ (rs : List Kept). account.kept ++ rs) none ∙ append-nil account.kept

  grown : (s : Stroke) (ss : List Step) (account : Account) (t : Trail) → Grown account (after_stroke s t) ss → records_of s t.base ≡ [] → Stands files (record { entry = account.entry; kept = kept_along (account.kept ++ records_of s t.base) (after_stroke s t) ss })
  grown s ss account t stands none = subst (λ (rs : List Kept). Stands files (record { entry = account.entry; kept = kept_along rs (after_stroke s t) ss })) (sym (none_more s account t none)) stands

  pub stands_along : (ss : List Step) (account : Account) (t : Trail) → Stands files account → WellAlong account.kept t ss → AreUnused files account.kept (guids_in (strokes_in ss)) → Grown account t ss
  unfolding strokes_in guids_in after_step records_of
  stands_along [] account t stands w unused = stands
  stands_along (settles ∷ ss) account t stands w unused = stands_along ss account (settled t.base) stands w.2 unused
  stands_along (makes (begin guid ask) ∷ ss) account t stands w unused =
      let r : Kept = record_of t guid ask in
      let fresh : IsFresh files account.kept r = fresh_record account t guid ask ss w (guids_in (strokes_in ss)) unused in
      subst (λ (rs : List Kept). Stands files (record { entry = account.entry; kept = kept_along (account.kept ++ rs) (after_stroke (begin guid ask) t) ss })) (sym (record_is t guid ask))
      (stands_along ss (with_record r account) (after_stroke (begin guid ask) t) (stands_with_record files account r stands fresh)
      (subst (λ (rs : List Kept). WellAlong (account.kept ++ rs) (after_stroke (begin guid ask) t) ss) (record_is t guid ask) w.2)
      (unused_then files account.kept r (guids_in (strokes_in ss)) unused))
  stands_along (makes (make image) ∷ ss) account t stands w unused =
      grown (make image) ss account t (stands_along ss account (after_stroke (make image) t) stands (subst (λ (rs : List Kept). WellAlong rs (after_stroke (make image) t) ss) (none_more (make image) account t refl) w.2) unused) refl
  stands_along (makes (page p bytes) ∷ ss) account t stands w unused =
      grown (page p bytes) ss account t (stands_along ss account (after_stroke (page p bytes) t) stands (subst (λ (rs : List Kept). WellAlong rs (after_stroke (page p bytes) t) ss) (none_more (page p bytes) account t refl) w.2) unused) refl
  stands_along (makes ends ∷ ss) account t stands w unused =
      grown ends ss account t (stands_along ss account (after_stroke ends t) stands (subst (λ (rs : List Kept). WellAlong rs (after_stroke ends t) ss) (none_more ends account t refl) w.2) unused) refl
  stands_along (makes finish ∷ ss) account t stands w unused =
      grown finish ss account t (stands_along ss account (after_stroke finish t) stands (subst (λ (rs : List Kept). WellAlong rs (after_stroke finish t) ss) (none_more finish account t refl) w.2) unused) refl
  stands_along (makes fix ∷ ss) account t stands w unused =
      grown fix ss account t (stands_along ss account (after_stroke fix t) stands (subst (λ (rs : List Kept). WellAlong rs (after_stroke fix t) ss) (none_more fix account t refl) w.2) unused) refl
  stands_along (makes (merge records) ∷ ss) account t stands w unused =
      grown (merge records) ss account t (stands_along ss account (after_stroke (merge records) t) stands (subst (λ (rs : List Kept). WellAlong rs (after_stroke (merge records) t) ss) (none_more (merge records) account t refl) w.2) unused) refl
