-- A run is well after its first strokes: what was seen of its database is well along all further steps.
use Rattle.std.proofs.Common.{◌≡◌, ◌≢◌, ◌⊎◌, inl, ℕ, ◌-◌, ◌+◌, ◌≤◌, List, [], ◌∷◌, ◌++◌, length, take, drop, true, sym, ap, subst, ◌∙◌, arith, take-append-drop, Option, Some, Contains}
use Rattle.nb_top.proofs.Common.{Contains-append_left, is_header, stalled_state, Kept, Base, IsBase, Account, is_free_entry, IsGoing, IsMaking, first_page, image_state, MadeFile, IsOfKept, IsNoBackup, under_way, Given, Now, Event, Played, Opening, IsRest, base_now, begun, play, rounds, strokes_of, files_made, HasHeader, IsSoundImage, Step, settles, after_step, after_steps, steps_of, strokes_in, base_in, base_after, records_after, Trail, settled, IsWellTrail, IsGrown, begun_grown, own_in_use, seen_strokes, strokes_in_append, strokes_in_steps, free_play, play_is, WellAlong, kept_along, kept_append, kept_is, after_steps_append, steps_seen, IsAskable, Plan, MayBeGiven, seen_after}
use Rattle.std.proofs.Math.Seq.{take-append-add}
use Rattle.nb_model.proofs.HeaderLaws.{same-header, same-number}
use Rattle.nb_model.proofs.MadeTurns.{first_recorded, play_of_kept}
use Rattle.nb_model.proofs.SteadyTurns.{AllRecorded, play_along}
use Rattle.nb_model.proofs.StrokeLaws.{records_after-append}
use Rattle.nb_top.proofs.FirstReady.{begins_going, begins_making, plain_play}
use Rattle.nb_top.proofs.MadeStand.{IsNewFile}

-- the bytes are those of a record, or no job takes them for a backup
abbrev pub IsKeptOrNone : (kept : List Kept) (bytes : List ℕ) → Type 0
IsKeptOrNone kept bytes = IsOfKept kept bytes ⊎ IsNoBackup bytes

-- A file that a run makes is none of its database, its name was free before the run, and whole it is that of a record, or no backup.
pub record IsOfRun (account : Account) (name : List ℕ) (kept : List Kept) (file : MadeFile) : Type 0 where
  pub new : IsNewFile account file
  pub apart : file.0 ≢ name
  pub whole : IsKeptOrNone kept file.1

-- The first steps keep no record and leave a database, settled. Along all further steps what was seen is well, the files that are made are
-- of the records that are kept after them, or no backups, and the account after is the one before with the database that is seen then,
-- these files and the records of the backups that have begun.
pub record IsWellRun (account : Account) (name : List ℕ) (events : List Event) (last : Account) : Type 0 where
  pub first : List Step
  pub further : List Step
  pub steps : steps_of events ≡ first ++ further
  pub base : Base
  pub seen : after_steps (settled (base_in (account.entry name))) first ≡ settled base
  pub none : records_after (base_in (account.entry name)) (strokes_in first) ≡ []
  pub along : WellAlong account.kept (settled base) further
  pub made : (file : MadeFile) → Contains (files_made events) file → IsOfRun account name (kept_along account.kept (settled base) further) file
  pub grown : IsGrown name (after_steps (settled base) further).base (records_after base (strokes_in further)) (files_made events) account last

module _ (account : Account) (name : List ℕ) (events : List Event) (last : Account) (run : IsWellRun account name events last) where
  abbrev before : Base
  before = base_in (account.entry name)

  -- what was seen after the first steps and some further ones
  pub seen_behind : (ss : List Step) → seen_after account name (run.first ++ ss) ≡ after_steps (settled run.base) ss
  seen_behind ss = after_steps_append (settled before) run.first ss ∙ ap (λ (t : Trail). after_steps t ss) run.seen

  base_is : base_after before (strokes_in run.first) ≡ run.base
  base_is = sym (seen_strokes run.first (settled before)) ∙ ap (λ (t : Trail). t.base) run.seen

  -- and the records then
  pub kept_behind : (ss : List Step) → account.kept ++ records_after before (strokes_in (run.first ++ ss)) ≡ kept_along account.kept (settled run.base) ss
  kept_behind ss =
      ap (λ (rs : List Kept). account.kept ++ rs) (ap (records_after before) (strokes_in_append run.first ss) ∙ records_after-append before (strokes_in run.first) (strokes_in ss)
      ∙ ap (λ (rs : List Kept). rs ++ records_after (base_after before (strokes_in run.first)) (strokes_in ss)) run.none ∙ ap (λ (b : Base). records_after b (strokes_in ss)) base_is)
      ∙ sym (kept_is account.kept (settled run.base) ss)

  -- a front of the steps that has the first ones
  pub cut_is : (count : ℕ) → length run.first ≤ count → take count (steps_of events) ≡ run.first ++ take (count - length run.first) run.further
  cut_is count low =
      let sum : count ≡ length run.first + (count - length run.first) = omega (arith, low) in
      ap (take count) run.steps ∙ ap (λ (n : ℕ). take n (run.first ++ run.further)) sum ∙ take-append-add run.first run.further (count - length run.first)

-- what is kept before steps, and after a front of them, is kept after them all
pub kept_first : (kept : List Kept) (t : Trail) (ss : List Step) (r : Kept) → Contains kept r → Contains (kept_along kept t ss) r
kept_first kept t ss r there = subst (λ (rs : List Kept). Contains rs r) (sym (kept_is kept t ss)) (Contains-append_left kept (records_after t.base (strokes_in ss)) r there)

pub kept_front : (kept : List Kept) (t : Trail) (ss : List Step) (k : ℕ) (r : Kept) → Contains (kept_along kept t (take k ss)) r → Contains (kept_along kept t ss) r
kept_front kept t ss k r there =
    let xs : List Step = take k ss in
    subst (λ (rs : List Kept). Contains rs r) (sym (kept_append kept t xs (drop k ss)) ∙ ap (kept_along kept t) (take-append-drop k ss))
    (kept_first (kept_along kept t xs) (after_steps t xs) (drop k ss) r there)

-- what is well after a first statement that leaves this database
pub record IsWellBehind (account : Account) (name : List ℕ) (b : Base) (rest : List Event) (last : Account) : Type 0 where
  pub along : WellAlong account.kept (settled b) (settles ∷ steps_of rest)
  pub made : (file : MadeFile) → Contains (files_made rest) file → IsOfRun account name (kept_along account.kept (settled b) (settles ∷ steps_of rest)) file
  pub grown : IsGrown name (after_steps (settled b) (settles ∷ steps_of rest)).base (records_after b (strokes_in (settles ∷ steps_of rest))) (files_made rest) account last

-- The turns after it.
module _ (account : Account) (plan : Plan) (askable : IsAskable plan) (o : Opening) (now : Now) (name : List ℕ) (b : Base) (goes_on : o.now ≡ Some now) (name_is : now.name ≡ name) (account_is : now.account ≡ o.account)
    (base : base_now now ≡ b) (here : o.account.entry name ≡ IsBase b) (others : (n : List ℕ) → n ≢ name → o.account.entry n ≡ account.entry n) (kept : o.account.kept ≡ account.kept)
    (todo : now.todo ≡ begun plan.sessions) (sixteen : MayBeGiven now.given) (well : IsWellTrail account.kept (settled b)) where
  sure : true ≡ true → IsSoundImage (base_now now).image
  sure is = subst (λ (x : Base). IsSoundImage x.image) (sym base) well.base.well.sound

  header_now : HasHeader (base_now now).image
  header_now = subst (λ (x : Base). HasHeader x.image) (sym base) (record { header = well.base.well.header; scn = well.base.well.scn })

  state_now : image_state (base_now now).image ≤ 2
  state_now = subst (λ (x : Base). image_state x.image ≤ 2) (sym base) well.base.state

  -- in the stalled state the control block is that of the frozen image, so the turns go on
  frozen_now : image_state (base_now now).image ≡ 1 → (is_header (first_page (base_now now).frozen) ≡ true) × (image_state (base_now now).frozen ≡ 1)
  frozen_now = subst (λ (x : Base). image_state x.image ≡ stalled_state → (is_header (first_page x.frozen) ≡ true) × (image_state x.frozen ≡ stalled_state)) (sym base)
      (λ stalled.
      let front = (well.over stalled).front in (
        sym (same-header (first_page b.image) (first_page b.frozen) front) ∙ well.base.well.header,
        sym (same-number (first_page b.image) (first_page b.frozen) front 22 2 (omega arith)) ∙ stalled,
      ))

  going : IsGoing true now
  going = begins_going plan askable now todo sure header_now state_now frozen_now sixteen

  making : IsMaking now
  making = begins_making plan askable now todo header_now state_now frozen_now sixteen

  recorded : AllRecorded account.kept (settled b) now
  recorded = first_recorded account.kept (settled b) now plan.sessions todo

  made_well : (order : List ℕ) (file : MadeFile) → Contains (files_made (play order now).0) file → IsOfRun account name (kept_along account.kept (settled b) (settles ∷ steps_of (play order now).0)) file
  unfolding after_step
  made_well order file there =
      let p : Played = play order now in
      let free : is_free_entry (now.account.entry file.0) ≡ true = free_play order now making.named making.going file (Contains-append_left (files_made p.0) (under_way p.1) file there) in
      let apart : file.0 ≢ name = λ same. own_in_use now making.going (subst (λ (n : List ℕ). is_free_entry (now.account.entry n) ≡ true) (same ∙ sym name_is) free) in
      record {
        new = record { plain = plain_play plan askable now todo order file there; free = sym (ap is_free_entry (ap (λ (a : Account). a.entry file.0) account_is ∙ others file.0 apart)) ∙ free };
        apart = apart;
        whole = inl (play_of_kept order account.kept (settled b) now (sym base) well going making.named recorded file there);
      }

  played_well : (order : List ℕ) → IsWellBehind account name b (play order now).0 (play order now).1.account
  unfolding after_steps after_step strokes_in
  played_well order =
      let es : List Event = (play order now).0 in
      let made : List MadeFile = files_made es in
      let seen : (after_steps (settled b) (steps_of es)).base ≡ base_now (play order now).1 = steps_seen (settled b) es ∙ ap (λ (x : Base). base_after x (strokes_of es)) (sym base) ∙ sym (play_is order now) in
      record {
        along = (well, tt, play_along order account.kept (settled b) now (sym base) well going making.named recorded);
        made = made_well order;
        grown = subst (λ (x : Base). IsGrown name x (records_after b (strokes_in (steps_of es))) made account (play order now).1.account) (sym seen)
            (subst (λ ss. IsGrown name (base_now (play order now).1) (records_after b ss) made account (play order now).1.account) (sym (strokes_in_steps es))
            (begun_grown account o now name b name_is account_is base here others kept order));
      }

  pub rest_well : (given : Given) (rest : List Event) (last : Account) (left : Given) → IsRest plan.schedule o given rest last left → IsWellBehind account name b rest last
  rest_well given rest last left is =
      let on = subst (λ (n : Option Now). IsRest plan.schedule (record { event = o.event; account = o.account; now = n }) given rest last left) goes_on is in
      let order : List ℕ = plan.schedule ++ rounds on.1.how_often in
      let played : play order now ≡ (rest, on.0) = on.1.is in
      let events : (play order now).0 ≡ rest = ap (λ (p : Played). p.0) played in
      let account_then : (play order now).1.account ≡ last = ap (λ (p : Played). p.1.account) played ∙ sym on.2 in
      subst (λ (es : List Event). IsWellBehind account name b es last) events
      (subst (IsWellBehind account name b (play order now).0) account_then (played_well order))
