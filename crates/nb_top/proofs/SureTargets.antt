-- What is sure of a run with a database: what a crash leaves stands for an account at each moment, and so does what stands at its end.
use Rattle.std.proofs.Common.{◌≡◌, inl, inr, ⊎_elim, ℕ, ◌≤◌, List, [], length, take, true, false, refl, sym, ap, subst, ◌∙◌, arith, length-append, None, Some}
use Rattle.nb_top.proofs.Common.{is_free_file, File, Files, with_file, is_delta, World, Leaves, LeavesAll, IsTimely, AtEachMoment, left_with, decide, with_file-same, with_file-other, Account, is_free_entry, AreNew, guids_in, Given, delta_name, Event, strokes_of, steps_of, StandsIn, Status, RunLeft, RunReads, Finished, Target, kept_after, seen_after, HoldsKept, StandsFor, no_main}
use Rattle.nb_top.proofs.MadeStand.{free_name}
use Rattle.nb_top.proofs.SureFiles.{kept_none, stood_holds, stood_within, unbegun_holds, unbegun_within, ended_stands, free_beside, opens_in_use}
use Rattle.nb_top.proofs.WellRuns.{IsWellRun}

-- It is well after its first steps, before which its database isn't seen, and where it creates the database the name was free.
pub record IsSureRun (account : Account) (target : Target) (events : List Event) (last : Account) : Type 0 where
  pub plain : is_delta target.name ≡ false
  pub free : target.creates ≡ true → is_free_entry (account.entry target.name) ≡ true
  pub run : IsWellRun account target.name events last
  pub begun : (count : ℕ) (files : Files) → StandsIn target.name (seen_after account target.name (take count (steps_of events))) files → length run.first ≤ count

module _ (old : World) (account : Account) (stands : StandsFor old account) (before : (m : List ℕ) → Leaves old m (old.files m)) (target : Target) (events : List Event) (last : Account)
    (new : AreNew old account.kept (guids_in (strokes_of events))) (known : IsSureRun account target events last) where
  pub target_left : (files : Files) (said : List ℕ) (l : RunLeft old account (Some target) events files said) → HoldsKept files (kept_after account (Some target) (take l.count (steps_of events)))
  target_left files said l =
      ⊎_elim
      (λ s. stood_holds old account stands before target.name known.plain events last known.run new l.count (known.begun l.count files s) files (l.each, l.others) s)
      (λ none. subst (HoldsKept files) (sym (ap (λ (n : ℕ). kept_after account (Some target) (take n (steps_of events))) none.none ∙ kept_none account (Some target)))
      (unbegun_holds old account stands before target.name known.plain events last known.run new target refl known.free (length l.out.part) l.count files (l.each, l.others) none))
      l.database

  -- After it, however it ended.
  module _ (end : World) (timely : IsTimely end) (reads : (m : List ℕ) → Leaves end m (end.files m)) (stops : AtEachMoment old end (RunLeft old account (Some target) events)) (read : RunReads old end account (Some target) events) where
    left_then : (files : Files) → LeavesAll end files → RunLeft old account (Some target) events files end.said
    left_then files leaves = stops.each files end.said (timely.counts_now old.moment files stops.later leaves)

    abbrev all : ℕ
    all = length (steps_of events)

    has_first : length known.run.first ≤ all
    has_first = omega (arith, ap length known.run.steps, length-append known.run.first known.run.further)

    -- with the records of all its backups
    holds_then : (files : Files) → LeavesAll end files → HoldsKept files (kept_after account (Some target) (take all (steps_of events)))
    holds_then files leaves =
        let l : RunLeft old account (Some target) events files end.said = left_then files leaves in
        ⊎_elim
        (λ s. stood_within old account stands before target.name known.plain events last known.run new l.count all (known.begun l.count files s) l.front.most files (l.each, l.others) s)
        (λ none. unbegun_within old account stands before target.name known.plain events last known.run new all has_first target refl known.free (length l.out.part) l.count files (l.each, l.others) none)
        l.database

    -- where its own name is free then, no database is there, and it was free before
    was_free : is_free_file (end.files target.name) ≡ true → end.files (delta_name target.name) ≡ None → (is_free_file (old.files target.name) ≡ true) × (old.files (delta_name target.name) ≡ None)
    was_free free alone = ⊎_elim
        (λ stood. absurd (opens_in_use target.name (end.files target.name) (end.files (delta_name target.name)) stood.1.base stood.1.opens free))
        (λ unbegun. ⊎_elim
        (λ same. (ap is_free_file (sym same) ∙ free, sym unbegun.delta ∙ alone))
        (λ made. free_name old account stands (target.name, []) (record { plain = known.plain; free = known.free made.0 }))
        unbegun.main)
        read.database

    own_free : is_free_file (end.files target.name) ≡ true → end.files (delta_name target.name) ≡ None → (d : File) → Leaves end (delta_name target.name) d → d ≡ None
    own_free free alone d is =
        let files : Files = with_file end.files (delta_name target.name) d in
        let leaves : LeavesAll end files = left_with end (delta_name target.name) end.files d (λ m other. reads m) is in
        let main : files target.name ≡ end.files target.name = with_file-other end.files (delta_name target.name) d target.name (λ same. no_main target.name target.name known.plain (sym same)) in
        let was = was_free free alone in
        ⊎_elim
        (λ s. absurd (opens_in_use target.name (files target.name) (files (delta_name target.name)) s.base s.opens (ap is_free_file main ∙ free)))
        (λ none. stands.free target.name known.plain was.0 was.1 d (subst (Leaves old (delta_name target.name)) (with_file-same end.files (delta_name target.name) d) none.delta))
        (left_then files leaves).database

    free_then : (n : List ℕ) → is_delta n ≡ false → is_free_file (end.files n) ≡ true → end.files (delta_name n) ≡ None → (d : File) → Leaves end (delta_name n) d → d ≡ None
    free_then n plain free alone d is = elim (decide n target.name) [
      | inl same ↦ subst (λ (m : List ℕ). is_free_file (end.files m) ≡ true → end.files (delta_name m) ≡ None → Leaves end (delta_name m) d → d ≡ None) (sym same) (λ f a l. own_free f a d l) free alone is
      | inr off ↦ free_beside old account stands before target.name known.plain events last known.run new end read.others reads (λ files leaves. let l = left_then files leaves in (l.each, l.others)) n off plain free alone d is
    ]

    pub target_after : (later : Account) × StandsFor end later × (later.kept ≡ kept_after account (Some target) (take all (steps_of events)))
    target_after =
        let its : HoldsKept end.files (kept_after account (Some target) (take all (steps_of events))) = holds_then end.files reads in
        (its.account, record { now = its.stands; left = λ files leaves. subst (HoldsKept files) (sym its.same) (holds_then files leaves); free = free_then }, its.same)

  -- at its end
  pub target_end : (end : World) → IsTimely end → ((m : List ℕ) → Leaves end m (end.files m)) → AtEachMoment old end (RunLeft old account (Some target) events) → RunReads old end account (Some target) events → (given left : Given) (status : Status)
      → Finished status old end account (Some target) events given left → StandsFor end last
  target_end end timely reads stops read given left status finished =
      ended_stands old account stands before target.name known.plain events last known.run new end finished.database finished.kept read.others reads
      (λ files leaves. let l = stops.each files end.said (timely.counts_now old.moment files stops.later leaves) in (l.each, l.others))
