-- The files that turns make are those of records that are kept: of the backup that is under way, or of the one that stands stalled.
use Rattle.std.proofs.Common.{◌≡◌, ⊎_elim, ℕ, zero, suc, ◌-◌, List, [], ◌∷◌, ◌++◌, map, take, get_or, refl, sym, ap, subst, ◌∙◌, arith, Contains, true}
use Rattle.nb_model.proofs.Common.{Contains-append_left, Contains-append_cases, Statement, Kept, Base, AreBeginnings, AreNamed, Runs, IsGoing, image_state, joined, MadeFile, kept_of, making, IsOfKept, its_file, its_pages, Turn, Begins, Copies, ClosesBackup, ClosesCopy, Ends, Merges, Finishes, Now, Event, Played, base_now, one_turn, play, begun, files_made, strokes_of, Step, after_steps, steps_of, strokes_in, records_after, Trail, settled, IsOfRecord, IsWellTrail, none_in}
use Rattle.nb_model.proofs.GuidLaws.{strokes_in_steps}
use Rattle.nb_model.proofs.GoingLaws.{begun_at, going_turn, named_turn, none_made}
use Rattle.nb_model.proofs.MakingLaws.{to_make, made_append, made_among}
use Rattle.nb_model.proofs.SteadyLaws.{WellAlong, along_front, kept_along, kept_append, kept_is, along_last}
use Rattle.nb_model.proofs.SteadyTurns.{beginnings_recorded, AreRecorded, AllRecorded, StaysWell, one_well, play_along}
use Rattle.nb_model.proofs.StepsLaws.{steps_append}

-- Where all sessions have statements to begin no backup is under way.
pub waiting_recorded : (kept : List Kept) (t : Trail) (now : Now) → ((place : ℕ) → AreBeginnings (get_or now.todo place [])) → AllRecorded kept t now
waiting_recorded kept t now waits place = beginnings_recorded kept t (get_or now.todo place []) (waits place)

-- So it is at the start.
pub first_recorded : (kept : List Kept) (t : Trail) (now : Now) (sessions : List (List Statement)) → now.todo ≡ begun sessions → AllRecorded kept t now
first_recorded kept t now sessions is place = subst (AreRecorded kept t) (sym (begun_at now sessions is place)) (all_begun (get_or sessions place []))
  where
    all_begun : (statements : List Statement) → AreRecorded kept t (map Begins statements)
    all_begun [] = tt
    all_begun (x ∷ xs) = (tt, all_begun xs)

-- what is of a record is of one where more are kept
pub of_kept_more : (kept more : List Kept) (bytes : List ℕ) → IsOfKept kept bytes → IsOfKept (kept ++ more) bytes
of_kept_more kept more bytes (its_file r there is) = its_file r (Contains-append_left kept more r there) is
of_kept_more kept more bytes (its_pages r there is) = its_pages r (Contains-append_left kept more r there) is

pub of_kept_along : (kept : List Kept) (t : Trail) (ss : List Step) (bytes : List ℕ) → IsOfKept kept bytes → IsOfKept (kept_along kept t ss) bytes
of_kept_along kept t ss bytes is = subst (λ (rs : List Kept). IsOfKept rs bytes) (sym (kept_is kept t ss)) (of_kept_more kept (records_after t.base (strokes_in ss)) bytes is)

-- of turns that close recorded backups, and copies of the pages of a record
of_turns : (kept : List Kept) (t : Trail) (turns : List Turn) → AreRecorded kept t turns → IsOfKept kept (joined t.base.frozen) → (f : MadeFile) → Contains (making t.base.frozen turns) f → IsOfKept kept f.1
unfolding making
of_turns kept t [] recorded pages f there = absurd (none_in f there)
of_turns kept t (ClosesBackup b ∷ turns) recorded pages f (zero, low, is) = subst (λ (g : MadeFile). IsOfKept kept g.1) is (its_file (kept_of b t.base.frozen) recorded.0.there refl)
of_turns kept t (ClosesBackup b ∷ turns) recorded pages f (suc k, low, is) = of_turns kept t turns recorded.1 pages f (k, omega (arith, low), is)
of_turns kept t (ClosesCopy name ∷ turns) recorded pages f (zero, low, is) = subst (λ (g : MadeFile). IsOfKept kept g.1) is pages
of_turns kept t (ClosesCopy name ∷ turns) recorded pages f (suc k, low, is) = of_turns kept t turns recorded.1 pages f (k, omega (arith, low), is)
of_turns kept t (Begins statement ∷ turns) recorded pages f there = of_turns kept t turns recorded.1 pages f there
of_turns kept t (Copies ∷ turns) recorded pages f there = of_turns kept t turns recorded.1 pages f there
of_turns kept t (Ends reply ∷ turns) recorded pages f there = of_turns kept t turns recorded.1 pages f there
of_turns kept t (Merges ∷ turns) recorded pages f there = of_turns kept t turns recorded.1 pages f there
of_turns kept t (Finishes reply ∷ turns) recorded pages f there = of_turns kept t turns recorded.1 pages f there

module _ (kept : List Kept) (t : Trail) (now : Now) (base : t.base ≡ base_now now) (w : IsWellTrail kept t) (going : IsGoing true now) (recorded : AllRecorded kept t now) where
  -- What a session is still to make is of a record.
  place_of_kept : (place : ℕ) (f : MadeFile) → Contains (making (base_now now).frozen (get_or now.todo place [])) f → IsOfKept kept f.1
  place_of_kept place f there =
      let runs : Runs now place 1 = (to_make now place (get_or now.todo place []) f (going.each place) there).runs in
      let record_is : IsOfRecord kept t.base = w.base.backup (ap (λ (b : Base). image_state b.image) base ∙ runs.state) in
      of_turns kept t (get_or now.todo place []) (recorded place) (its_pages record_is.backup record_is.kept_as.there (ap joined record_is.same)) f
      (subst (λ (b : Base). Contains (making b.frozen (get_or now.todo place [])) f) (sym base) there)

  -- so is what the next turn makes
  pub made_of_kept : (session : ℕ) (f : MadeFile) → Contains (files_made (one_turn session now).0) f → IsOfKept kept f.1
  made_of_kept session f there = place_of_kept (session - 1) f (made_among session now going f there)

-- So is all that turns in an order make.
pub play_of_kept : (order : List ℕ) (kept : List Kept) (t : Trail) (now : Now) → t.base ≡ base_now now → IsWellTrail kept t → IsGoing true now → AreNamed now → AllRecorded kept t now
    → (f : MadeFile) → Contains (files_made (play order now).0) f → IsOfKept (kept_along kept t (steps_of (play order now).0)) f.1
unfolding play
play_of_kept [] kept t now base w going named recorded f there = absurd (none_in f (subst (λ (fs : List MadeFile). Contains fs f) none_made there))
play_of_kept (x ∷ xs) kept t now base w going named recorded f there =
    let es : List Event = (one_turn x now).0 in
    let mid : Now = (one_turn x now).1 in
    let later : Played = play xs mid in
    let one : StaysWell kept t (one_turn x now) = one_well kept t now x base w going named recorded in
    let behind : List Kept = kept_along kept t (steps_of es) in
    let u : Trail = after_steps t (steps_of es) in
    let all : kept_along kept t (steps_of (es ++ later.0)) ≡ kept_along behind u (steps_of later.0) = ap (kept_along kept t) (steps_append es later.0) ∙ kept_append kept t (steps_of es) (steps_of later.0) in
    subst (λ (rs : List Kept). IsOfKept rs f.1) (sym all) (⊎_elim
    (λ here. of_kept_along behind u (steps_of later.0) f.1 (of_kept_along kept t (steps_of es) f.1 (made_of_kept kept t now base w going recorded x f here)))
    (λ further. play_of_kept xs behind u mid one.base (along_last kept t (steps_of es) one.along) (going_turn x now named going) (named_turn x now named going) one.recorded f further)
    (Contains-append_cases (files_made es) (files_made later.0) f (subst (λ (fs : List MadeFile). Contains fs f) (made_append es later.0) there)))

-- At each front of its steps what a run has seen is well.
pub front_well : (kept : List Kept) (now : Now) (order : List ℕ) (k : ℕ) → IsGoing true now → AreNamed now → ((place : ℕ) → AreBeginnings (get_or now.todo place [])) → IsWellTrail kept (settled (base_now now))
    → IsWellTrail (kept ++ records_after (base_now now) (strokes_in (take k (steps_of (play order now).0)))) (after_steps (settled (base_now now)) (take k (steps_of (play order now).0)))
front_well kept now order k going named waits w =
    let t : Trail = settled (base_now now) in
    let steps : List Step = steps_of (play order now).0 in
    let along : WellAlong kept t steps = play_along order kept t now refl w going named (waiting_recorded kept t now waits) in
    subst (λ (rs : List Kept). IsWellTrail rs (after_steps t (take k steps))) (kept_is kept t (take k steps)) (along_last kept t (take k steps) (along_front kept t steps along k))

-- and all that it makes is of the records that it has kept by then.
pub files_of_kept : (kept : List Kept) (now : Now) (order : List ℕ) (f : MadeFile) → IsGoing true now → AreNamed now → ((place : ℕ) → AreBeginnings (get_or now.todo place [])) → IsWellTrail kept (settled (base_now now))
    → Contains (files_made (play order now).0) f → IsOfKept (kept ++ records_after (base_now now) (strokes_of (play order now).0)) f.1
files_of_kept kept now order f going named waits w there =
    let t : Trail = settled (base_now now) in
    subst (λ (rs : List Kept). IsOfKept rs f.1) (kept_is kept t (steps_of (play order now).0) ∙ ap (λ ss. kept ++ records_after (base_now now) ss) (strokes_in_steps (play order now).0))
    (play_of_kept order kept t now refl w going named (waiting_recorded kept t now waits) f there)
