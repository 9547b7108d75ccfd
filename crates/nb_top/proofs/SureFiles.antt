-- What is sure of the files of a run, where they stand for the account as it begins and the GUIDs that it takes are new.
use Rattle.std.proofs.Common.{◌≡◌, ◌≢◌, inl, inr, ⊎_elim, ℕ, ◌-◌, ◌≤◌, List, [], ◌++◌, length, take, true, false, refl, sym, ap, subst, ◌∙◌, arith, Ok, Option, Some, None, Contains}
use Rattle.nb_top.proofs.Common.{true≢false, append-nil, take-take, is_free_file, File, Files, is_delta, World, Leaves, LeavesAll, Other, decide, Kept, Base, IsBase, Account, with_entry, is_free_entry, MadeFile, IsNoneOf, with_files, AreNew, guids_in, delta_name, owner, Event, strokes_of, files_made, Stands, Step, after_steps, steps_of, strokes_in, base_in, records_after, Trail, StandsIn, ShowsIn, settled, IsWellBaseIn, IsWellTrail, stands_grown, files_kept, stands_files, new_unused, stands_along, strokes_in_steps, last_steps_new, front_new, IsWholeFile, whole_among, stands_with_well_in, opened_in_use, WellAlong, along_front, along_last, kept_along, kept_is, delta_same, no_main, OfFiles, MadeLeft, AreKept, IsEnded, IsUnbegun, Target, kept_after, seen_after, HoldsKept, StandsFor}
use Rattle.nb_top.proofs.AsWas.{as_was, was_has}
use Rattle.nb_top.proofs.MadeStand.{IsNewFile, none_delta, free_name, free_left, made_along}
use Rattle.nb_top.proofs.MadeRuns.{no_file}
use Rattle.nb_top.proofs.MadeWhole.{none_whole, stands_with_whole}
use Rattle.nb_top.proofs.OpenLaws.{none_shown}
use Rattle.nb_top.proofs.MoreRecords.{front_well}
use Rattle.nb_top.proofs.SureLaws.{both, beside, holds_along, holds_free, holds_within}
use Rattle.nb_top.proofs.WellRuns.{IsWellRun, kept_front, seen_behind, kept_behind, cut_is}

-- no record after no step
pub kept_none : (account : Account) (target : Option Target) → kept_after account target [] ≡ account.kept
unfolding strokes_in records_after
kept_none account None = refl
kept_none account (Some target) = append-nil account.kept

-- where a database can be opened its name isn't free
pub opens_in_use : (name : List ℕ) (file d : File) (b : Base) → owner name file d ≡ Ok b → is_free_file file ≡ true → ⊥
opens_in_use name None d b shows free = none_shown name d b shows
opens_in_use name (Some bytes) d b shows free = true≢false (sym free ∙ opened_in_use name bytes d b shows)

-- What is sure of the files of a run that is under way.
module _ (old : World) (account : Account) (stands : StandsFor old account) (reads : (m : List ℕ) → Leaves old m (old.files m)) (name : List ℕ) (plain : is_delta name ≡ false) (events : List Event) (last : Account)
    (run : IsWellRun account name events last) (new : AreNew old account.kept (guids_in (strokes_of events))) where
  abbrev made : List MadeFile
  made = files_made events

  new_file : (f : MadeFile) → Contains made f → IsNewFile account f
  new_file f there = (run.made f there).new

  apart : (f : MadeFile) → Contains made f → f.0 ≢ name
  apart f there = (run.made f there).apart

  -- at its end
  abbrev trail : Trail
  trail = after_steps (settled run.base) run.further

  abbrev kept : List Kept
  kept = kept_along account.kept (settled run.base) run.further

  further_new : AreNew old account.kept (guids_in (strokes_in run.further))
  further_new = last_steps_new old account.kept run.first run.further (subst (λ ss. AreNew old account.kept (guids_in ss)) (sym (strokes_in_steps events) ∙ ap strokes_in run.steps) new)

  -- The files stand for the account with all records that the run keeps,
  abbrev grown : Account
  grown = record { entry = account.entry; kept = kept }

  grown_stands : Stands old.files grown
  grown_stands = stands_along old.files run.further account (settled run.base) stands.now run.along (new_unused old account.kept (guids_in (strokes_in run.further)) old.files further_new reads)

  -- so each file that it makes is whole where some of them are kept.
  whole_with : (some : List Kept) → ((r : Kept) → Contains some r → Contains kept r) → (f : MadeFile) → Contains made f → IsWholeFile some f.1
  whole_with some among f there = ⊎_elim (whole_among old.files grown grown_stands some among f.1) (none_whole some f.1) (run.made f there).whole

  -- what a crash leaves of the files that are made, and of others
  abbrev Left : Files → Type 0
  Left files = MadeLeft old made files × ((m : List ℕ) → Other (OfFiles name) m → IsNoneOf made m → Leaves old m (files m))

  -- they hold what may be left of what was seen after some of the further steps
  behind_holds : (ss : List Step) → WellAlong account.kept (settled run.base) ss → AreNew old account.kept (guids_in (strokes_in ss)) → ((r : Kept) → Contains (kept_along account.kept (settled run.base) ss) r → Contains kept r) → (files : Files) → Left files
      → StandsIn name (after_steps (settled run.base) ss) files → HoldsKept files (kept_along account.kept (settled run.base) ss)
  behind_holds ss along fresh among files left s =
      holds_along old account stands reads name plain made new_file apart files left.0 left.1 (settled run.base) ss along fresh (whole_with (kept_along account.kept (settled run.base) ss) among) s

  -- the records that are kept in a front of all steps
  abbrev KeptIn : (count : ℕ) → Files → Type 0
  KeptIn count files = HoldsKept files (account.kept ++ records_after (base_in (account.entry name)) (strokes_in (take count (steps_of events))))

  kept_in : (count : ℕ) → length run.first ≤ count → (files : Files) → HoldsKept files (kept_along account.kept (settled run.base) (take (count - length run.first) run.further)) → KeptIn count files
  kept_in count low files holds =
      let ss : List Step = take (count - length run.first) run.further in
      subst (λ (xs : List Step). HoldsKept files (account.kept ++ records_after (base_in (account.entry name)) (strokes_in xs))) (sym (cut_is account name events last run count low))
      (subst (HoldsKept files) (sym (kept_behind account name events last run ss)) holds)

  -- After a front of all steps they stand with the records of each longer front: none of them names a GUID that is taken later, but where it is the whole
  -- file of that backup.
  pub stood_within : (count most : ℕ) → length run.first ≤ count → count ≤ most → (files : Files) → Left files → StandsIn name (seen_after account name (take count (steps_of events))) files → KeptIn most files
  stood_within count most low high files left s =
      let k : ℕ = count - length run.first in
      let m : ℕ = most - length run.first in
      let front : List Step = take k run.further in
      let ss : List Step = take m run.further in
      let along : WellAlong account.kept (settled run.base) ss = along_front account.kept (settled run.base) run.further run.along m in
      let well_front : IsWellTrail (kept_along account.kept (settled run.base) ss) (after_steps (settled run.base) front) =
      subst (λ (xs : List Step). IsWellTrail (kept_along account.kept (settled run.base) ss) (after_steps (settled run.base) xs)) (take-take k m run.further (omega (arith, high))) (front_well account.kept (settled run.base) ss along k) in
      kept_in most (omega (arith, low, high)) files
      (holds_within old account stands reads name plain made new_file apart files left.0 left.1 (settled run.base) ss along (front_new old account.kept run.further further_new m)
      (whole_with (kept_along account.kept (settled run.base) ss) (kept_front account.kept (settled run.base) run.further m)) (after_steps (settled run.base) front) well_front
      (subst (λ (t : Trail). StandsIn name t files) (seen_behind account name events last run front) (subst (λ (xs : List Step). StandsIn name (seen_after account name xs) files) (cut_is account name events last run count low) s)))

  -- so with its own
  pub stood_holds : (count : ℕ) → length run.first ≤ count → (files : Files) → Left files → StandsIn name (seen_after account name (take count (steps_of events))) files → KeptIn count files
  stood_holds count low files left s = stood_within count count low (omega arith) files left s

  -- It isn't begun, and the files stand with the records that are kept along some of the further steps.
  pub unbegun_along : (k : ℕ) (target : Target) → target.name ≡ name → (target.creates ≡ true → is_free_entry (account.entry name) ≡ true) → (said count : ℕ) (files : Files)
      → Left files → IsUnbegun old target said count files → HoldsKept files (kept_along account.kept (settled run.base) (take k run.further))
  unbegun_along k target named free said count files left none = ⊎_elim as_before (λ halfway. creating (free halfway.0) (ap (λ (n : List ℕ). is_free_file (files n)) (sym named) ∙ halfway.1)) none.main
    where
      delta : Leaves old (delta_name name) (files (delta_name name))
      delta = subst (λ (n : List ℕ). Leaves old (delta_name n) (files (delta_name n))) named none.delta

      along : WellAlong account.kept (settled run.base) (take k run.further)
      along = along_front account.kept (settled run.base) run.further run.along k

      fresh : AreNew old account.kept (guids_in (strokes_in (take k run.further)))
      fresh = front_new old account.kept run.further further_new k

      are_whole : (f : MadeFile) → Contains made f → IsWholeFile (kept_along account.kept (settled run.base) (take k run.further)) f.1
      are_whole = whole_with (kept_along account.kept (settled run.base) (take k run.further)) (kept_front account.kept (settled run.base) run.further k)

      as_before : Leaves old target.name (files target.name) → HoldsKept files (kept_along account.kept (settled run.base) (take k run.further))
      as_before main = made_along old account stands reads made new_file files left.0
          (λ m apart_m. elim (decide m name) [
            | inl same ↦ subst (λ (n : List ℕ). Leaves old n (files n)) (named ∙ sym same) main
            | inr off ↦ elim (decide m (delta_name name)) [
              | inl same ↦ subst (λ (n : List ℕ). Leaves old n (files n)) (sym same) delta
              | inr other ↦ left.1 m (λ one. ⊎_elim off other one) apart_m
            ]
          ])
          (settled run.base) (take k run.further) along fresh are_whole

      creating : is_free_entry (account.entry name) ≡ true → is_free_file (files name) ≡ true → HoldsKept files (kept_along account.kept (settled run.base) (take k run.further))
      creating was now_free =
          let free = free_name old account stands (name, []) (record { plain = plain; free = was }) in
          holds_free old account stands reads name plain made new_file apart files left.0 left.1 (settled run.base) (take k run.further) along fresh are_whole now_free (stands.free name plain free.0 free.1 (files (delta_name name)) delta)

  -- so with those of before, and with those that are kept in each front
  pub unbegun_holds : (target : Target) → target.name ≡ name → (target.creates ≡ true → is_free_entry (account.entry name) ≡ true) → (said count : ℕ) (files : Files) → Left files → IsUnbegun old target said count files
      → HoldsKept files account.kept
  unbegun_holds target named free said count files left none = unbegun_along 0 target named free said count files left none

  pub unbegun_within : (most : ℕ) → length run.first ≤ most → (target : Target) → target.name ≡ name → (target.creates ≡ true → is_free_entry (account.entry name) ≡ true) → (said count : ℕ) (files : Files) → Left files
      → IsUnbegun old target said count files → KeptIn most files
  unbegun_within most low target named free said count files left none = kept_in most low files (unbegun_along (most - length run.first) target named free said count files left none)

  -- Where a name beside the database's is free after it, a crash brings no difference file back.
  module _ (end : World) (read : (m : List ℕ) → Other (OfFiles name) m → IsNoneOf made m → end.files m ≡ old.files m) (reads_end : (m : List ℕ) → Leaves end m (end.files m)) (left : (files : Files) → LeavesAll end files → Left files) where
    pub free_beside : (n : List ℕ) → n ≢ name → is_delta n ≡ false → is_free_file (end.files n) ≡ true → end.files (delta_name n) ≡ None → (d : File) → Leaves end (delta_name n) d → d ≡ None
    free_beside n off plain_n free alone d is =
        let other : Other (OfFiles name) n = λ one. ⊎_elim off (λ e. no_main name n plain_n (sym e)) one in
        let other_delta : Other (OfFiles name) (delta_name n) = λ one. ⊎_elim (λ e. no_main n name plain e) (λ e. off (delta_same n name e)) one in
        let none : IsNoneOf made (delta_name n) = none_delta account made new_file n in
        free_left old account stands made new_file end reads_end n (read n other) (read (delta_name n) other_delta none) plain_n (λ files leaves. (left files leaves).1 (delta_name n) other_delta none) free alone d is

  -- At its end.
  well : IsWellTrail kept trail
  well = along_last account.kept (settled run.base) run.further run.along

  trail_is : seen_after account name (steps_of events) ≡ trail
  trail_is = ap (seen_after account name) run.steps ∙ seen_behind account name events last run run.further

  last_kept : last.kept ≡ kept
  last_kept = run.grown.kept ∙ sym (kept_is account.kept (settled run.base) run.further)

  module _ (end : World) (ended : IsEnded end name (seen_after account name (steps_of events))) (are_kept : AreKept end made) (read : (m : List ℕ) → Other (OfFiles name) m → IsNoneOf made m → end.files m ≡ old.files m)
      (reads_end : (m : List ℕ) → Leaves end m (end.files m)) (left : (files : Files) → LeavesAll end files → Left files) where
    shows : ShowsIn name trail.base end.files
    shows = subst (λ (t : Trail). ShowsIn name t.base end.files) trail_is ended.shows

    -- the files as they read, but for the database's two, as they were
    abbrev mid : Files
    mid = as_was old.files (both name) end.files

    mid_stands : Stands mid (with_files made grown)
    mid_stands = stands_with_whole old.files mid made grown grown_stands
        (λ f there.
        let one : IsNewFile account f = new_file f there in
        record {
          plain = one.plain;
          alone = (free_name old account stands f one).1;
          there = beside name old.files end.files f.0 (apart f there) (λ same. no_main name f.0 one.plain (sym same)) ∙ (are_kept f.0 f.1 there).reads;
          is = whole_with kept (λ r one_of. one_of) f there;
        })
        (λ m none. was_has old.files (λ (file : File). file ≡ old.files m) (both name) end.files m refl (λ off. read m (λ one. ⊎_elim off.0 off.1.0 one) none))

    now_stands : Stands end.files last
    now_stands =
        stands_grown end.files name trail.base (records_after run.base (strokes_in run.further)) made account last run.grown
        (subst (λ (rs : List Kept). Stands end.files (with_entry name (IsBase trail.base) (with_files made (record { entry = account.entry; kept = rs })))) (kept_is account.kept (settled run.base) run.further)
        (stands_with_well_in mid end.files (with_files made grown) name trail.base mid_stands plain (λ m off other. sym (beside name old.files end.files m off other)) shows
        (subst (λ (rs : List Kept). IsWellBaseIn rs trail.base) (sym (files_kept made grown)) well.base)))

    left_holds : (files : Files) → LeavesAll end files → HoldsKept files last.kept
    left_holds files leaves =
        subst (HoldsKept files) (sym last_kept) (behind_holds run.further run.along further_new (λ r there. there) files (left files leaves) (subst (λ (t : Trail). StandsIn name t files) trail_is (ended.left files leaves)))

    -- a name that is free isn't that of the database
    free_then : (n : List ℕ) → is_delta n ≡ false → is_free_file (end.files n) ≡ true → end.files (delta_name n) ≡ None → (d : File) → Leaves end (delta_name n) d → d ≡ None
    free_then n plain_n free alone d is = elim (decide n name) [
      | inl same ↦ absurd (opens_in_use name (end.files name) (end.files (delta_name name)) trail.base shows (ap (λ (k : List ℕ). is_free_file (end.files k)) (sym same) ∙ free))
      | inr off ↦ free_beside end read reads_end left n off plain_n free alone d is
    ]

    pub ended_stands : StandsFor end last
    ended_stands = record { now = now_stands; left = left_holds; free = free_then }

-- Nothing was done to any file.
module _ (old new : World) (account : Account) (stands : StandsFor old account) (reads : (m : List ℕ) → Leaves new m (new.files m)) (read : (m : List ℕ) → new.files m ≡ old.files m)
    (left : (files : Files) → LeavesAll new files → LeavesAll old files) where
  pub still_stands : StandsFor new account
  still_stands = record {
    now = stands_files old.files new.files account stands.now read;
    left = λ files leaves. stands.left files (left files leaves);
    free = λ n plain. free_left old account stands [] (λ f there. absurd (no_file f there)) new reads n (λ none. read n) (read (delta_name n)) plain (λ files leaves. left files leaves (delta_name n));
  }
