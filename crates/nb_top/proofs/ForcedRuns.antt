-- With forced writes on a crash leaves the database after a prefix of its operations.
use Rattle.std.proofs.Common.{true≢false, ◌≡◌, inl, inr, ℕ, zero, suc, ◌≤◌, List, [], ◌∷◌, ◌++◌, length, take, refl, sym, ap, subst, ◌∙◌, set, arith, Bool, true, false, Option, Some, nat_lt, Result}
use Rattle.std.proofs.lemmas.List.{length-take}
use Rattle.nb_top.proofs.Common.{AllByRecursion, take_all, fresh, Files, World, LeavesAll, AtEachMoment, weaker, Refusal, Account, Base, base_of, Image, Page, Given, delta_name, Event, strokes_of, Step, steps_of, strokes_in, Stroke, make, base_in, base_after, on_base, StandsIn, ShowsIn, Trail, settled_shows, strokes_in_steps, IsEnded, PerformsRun, Finished, RunLeft, Status, Target, target_of, Request, EndsIn, seen_after}
use Rattle.nb_model.specs.Image.{is_forced, with_page}
use Rattle.nb_fields.specs.Bytes.{number_in, number_of}
use Rattle.nb_model.specs.Output.{acked}
use Rattle.nb_model.specs.Steps.{AreForced}
use Rattle.nb_model.specs.Strokes.{page, begin, ends, finish, fix, merge}
use Rattle.nb_model.specs.Trail.{IsBehindFirst}
use Rattle.nb_model.proofs.ForcedLaws.{forced_front, strokes_fronted, acked_made}
use Rattle.nb_model.proofs.FreshImageLaws.{fresh_forced}
use Rattle.nb_model.proofs.StrokeLaws.{stroke_page, whole_page}
use Rattle.nb_top.specs.Forced.{base_at, AreForcedIn, PrefixLeft, StandsWhole}

module _ (account : Account) (target : Target) (events : List Event) (forced : AreForcedIn account target events) where
  abbrev before : Base
  before = base_in (account.entry target.name)

  forced_steps : AreForced before (strokes_in (steps_of events))
  forced_steps = subst (AreForced before) (sym (strokes_in_steps events)) forced

  -- how many operations are among so many steps
  abbrev made_by : (count : ℕ) → ℕ
  made_by count = length (strokes_in (take count (steps_of events)))

  prefix_is : (count : ℕ) → strokes_in (take count (steps_of events)) ≡ take (made_by count) (strokes_of events)
  prefix_is count = strokes_fronted (steps_of events) count ∙ ap (take (length (strokes_in (take count (steps_of events))))) (strokes_in_steps events)

  made_most : (count : ℕ) → made_by count ≤ length (strokes_of events)
  made_most count =
      let e = ap length (prefix_is count) in
      let l = length-take (length (strokes_in (take count (steps_of events)))) (strokes_of events) in
      omega (arith, e, l)

  -- what may be left after so many steps
  shows_at : (count : ℕ) (files : Files) → StandsIn target.name (seen_after account target.name (take count (steps_of events))) files → ShowsIn target.name (base_at account target events (made_by count)) files
  shows_at count files stands =
      subst (λ ss. ShowsIn target.name (base_after before ss) files) (prefix_is count)
      (settled_shows target.name (base_after before (strokes_in (take count (steps_of events)))) (files target.name) (files (delta_name target.name))
      (subst (λ (t : Trail). StandsIn target.name t files) (forced_front (steps_of events) before forced_steps count) stands))

  module _ (old : World) (files : Files) (said : List ℕ) where
    pub prefix_left : RunLeft old account (Some target) events files said → PrefixLeft old account target events files said
    prefix_left l = record {
      out = l.out;
      database = elim l.database [
        | inl stands ↦ inl (record { count = made_by l.count; most = made_most l.count; acknowledged = acked_prefix; shows = shows_at l.count files stands })
        | inr none ↦ inr (record { none = refl; unsaid = none.unsaid; main = none.main; delta = none.delta })
      ];
    }
      where
        acked_prefix : acked events (length l.out.part) ≤ made_by l.count
        acked_prefix = acked_made events (length l.out.part) l.count l.front.acknowledged

  -- at its end
  module _ (new : World) (ended : IsEnded new target.name (seen_after account target.name (steps_of events))) where
    all_made : made_by (length (steps_of events)) ≡ length (strokes_of events)
    all_made = ap (λ (ss : List Step). length (strokes_in ss)) (take_all (length (steps_of events)) (steps_of events) (omega arith)) ∙ ap (λ (ss : List Stroke). length ss) (strokes_in_steps events)

    whole_at : (files : Files) → StandsIn target.name (seen_after account target.name (steps_of events)) files → ShowsIn target.name (base_at account target events (length (strokes_of events))) files
    whole_at files stands =
        subst (λ (n : ℕ). ShowsIn target.name (base_at account target events n) files) all_made
        (shows_at (length (steps_of events)) files
        (subst (λ (ss : List Step). StandsIn target.name (seen_after account target.name ss) files) (sym (take_all (length (steps_of events)) (steps_of events) (omega arith))) stands))

    pub prefix_whole : LeavesAll new new.files → StandsWhole new account target events
    prefix_whole reads = record { now = whole_at new.files (ended.left new.files reads); left = λ files leaves. whole_at files (ended.left files leaves) }

-- over a run
module _ (status : Status) (old new : World) (asked : Result Request Refusal) (account : Account) (given : Given) (target : Target) (performs : PerformsRun status old new asked account given)
    (is : target_of asked performs.events ≡ Some target) (forced : AreForcedIn account target performs.events) where
  pub prefix_moments : AtEachMoment old new (PrefixLeft old account target performs.events)
  prefix_moments = weaker old new _ _ performs.stops (λ files said stands. prefix_left account target performs.events forced old files said
      (subst (λ (t : Option Target). RunLeft old account t performs.events files said) is stands.left))

  pub prefix_ended : LeavesAll new new.files → Finished status old new account (target_of asked performs.events) performs.events given performs.left → StandsWhole new account target performs.events
  prefix_ended reads finished =
      prefix_whole account target performs.events forced new (subst (λ (t : Option Target). EndsIn new account t performs.events) is finished.database) reads

-- A write of a page that isn't page 0 keeps forced writes on.
stays : (p : ℕ) (bytes : Page) (image : Image) → 1 ≤ p → is_forced image ≡ true → is_forced (with_page p bytes image) ≡ true
unfolding with_page number_in number_of
stays zero bytes image some forced = absurd (omega arith)
stays (suc p) bytes [] some forced = absurd (true≢false (sym forced))
stays (suc p) bytes (x ∷ xs) some forced = by (nat_lt (suc p) (length (x ∷ xs)))
  where
    by : (u : Bool) → is_forced (elim u as (λ z. Image) [ true ↦ set (x ∷ xs) (suc p) bytes | false ↦ (x ∷ xs) ++ bytes ∷ [] ]) ≡ true
    by true = forced
    by false = forced

-- So where they are on at first, writes of such pages are forced.
pub forced_pages : (b : Base) (strokes : List Stroke) → is_forced b.image ≡ true → AllByRecursion IsBehindFirst strokes → AreForced b strokes
forced_pages b [] forced pages = tt
forced_pages b (page p bytes ∷ ss) forced pages =
    let image : (on_base (page p bytes) b).image ≡ with_page p bytes b.image = stroke_page b p bytes ∙ ap (λ (x : Page). with_page p x b.image) (whole_page p bytes b.image pages.0) in
    (forced, forced_pages (on_base (page p bytes) b) ss (ap is_forced image ∙ stays p bytes b.image pages.0 forced) pages.1)
forced_pages b (make image ∷ ss) forced pages = absurd pages.0
forced_pages b (begin guid ask ∷ ss) forced pages = absurd pages.0
forced_pages b (ends ∷ ss) forced pages = absurd pages.0
forced_pages b (finish ∷ ss) forced pages = absurd pages.0
forced_pages b (fix ∷ ss) forced pages = absurd pages.0
forced_pages b (merge records ∷ ss) forced pages = absurd pages.0

-- A new database has them on.
pub forced_new : (b : Base) (size raw : ℕ) (strokes : List Stroke) → AllByRecursion IsBehindFirst strokes → AreForced b (make (fresh size raw) ∷ strokes)
unfolding on_base
forced_new b size raw strokes pages = (tt, forced_pages (base_of (fresh size raw)) strokes (fresh_forced size raw) pages)
